use Rattle.flat_model.proofs.LegalLogs.{legal-one_log}
use Rattle.uvisor_run.proofs.laws.a_legal_log_is_the_log_of_its_choices.Goals as goal

pub returns : goal.returns
returns c = legal-one_log
