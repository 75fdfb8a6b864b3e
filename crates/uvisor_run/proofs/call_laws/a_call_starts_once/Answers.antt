use Rattle.uvisor_run.proofs.CallOrder.{started-once, started-posted}
use Rattle.uvisor_run.proofs.CallsAt.{posted-once}
use Rattle.uvisor_run.proofs.call_laws.a_call_starts_once.Goals as goal

pub returns-clause-once : goal.returns-clause-once
returns-clause-once c = started-once

pub returns-clause-posted : goal.returns-clause-posted
returns-clause-posted c = started-posted

pub returns-clause-posted_once : goal.returns-clause-posted_once
returns-clause-posted_once c = posted-once
