use Rattle.uvisor_run.proofs.HeldGrants.{legal-held}
use Rattle.uvisor_run.proofs.laws.grants_need_no_history.Goals as goal

pub returns : goal.returns
returns c = legal-held
