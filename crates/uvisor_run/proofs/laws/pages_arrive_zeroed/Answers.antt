use Rattle.uvisor_run.proofs.ZeroedPages.{legal-zeroed}
use Rattle.uvisor_run.proofs.laws.pages_arrive_zeroed.Goals as goal

pub returns : goal.returns
returns c = legal-zeroed
