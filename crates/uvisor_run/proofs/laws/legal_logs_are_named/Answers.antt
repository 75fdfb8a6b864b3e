use Rattle.flat_model.proofs.NamedLogs.{legal-named}
use Rattle.uvisor_run.proofs.laws.legal_logs_are_named.Goals as goal

pub returns : goal.returns
returns c = legal-named
