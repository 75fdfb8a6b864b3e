use Rattle.box_isolation.proofs.WholeIsolation.{isolated}
use Rattle.box_isolation.proofs.laws.a_box_answers_from_its_part_and_its_reach.Goals as goal

pub returns : goal.returns
returns c = isolated
