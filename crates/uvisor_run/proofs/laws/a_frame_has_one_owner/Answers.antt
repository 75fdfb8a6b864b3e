use Rattle.uvisor_run.proofs.OneOwner.{legal-one_owner}
use Rattle.uvisor_run.proofs.laws.a_frame_has_one_owner.Goals as goal

pub returns : goal.returns
returns c = legal-one_owner
