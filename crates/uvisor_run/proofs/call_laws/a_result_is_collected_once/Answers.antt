use Rattle.uvisor_run.proofs.CallResults.{given-once, given-posted, given-result, result-given}
use Rattle.uvisor_run.proofs.call_laws.a_result_is_collected_once.Goals as goal

pub returns-clause-once : goal.returns-clause-once
returns-clause-once c = given-once

pub returns-clause-posted : goal.returns-clause-posted
returns-clause-posted c = given-posted

pub returns-clause-result : goal.returns-clause-result
returns-clause-result c = given-result

pub returns-clause-given : goal.returns-clause-given
returns-clause-given c = result-given
