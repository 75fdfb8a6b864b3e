use Rattle.std.proofs.Common.{subst, sym}
use Rattle.flat_model.specs.Sound.{IsSound}
use Rattle.irq_owner.proofs.SampleLemmas.{IsSound-two_boxes}
use Rattle.irq_owner.proofs.tests.sample.TwoBoxes.new.Goals as goal

pub new-requires : goal.new-requires
new-requires c = subst IsSound (sym c.in_ok-cfg.ensures) IsSound-two_boxes
