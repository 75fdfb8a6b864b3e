use Rattle.box_isolation.proofs.WholeIsolation.{two_worlds}
use Rattle.box_isolation.proofs.laws.equal_reach_gives_equal_replies.Goals as goal

pub returns : goal.returns
returns c = two_worlds
