use Rattle.std.proofs.Common.{subst, sym}
use Rattle.flat_model.specs.Sound.{IsSound}
use Rattle.machine_core.proofs.FixtureSound.{sound}
use Rattle.machine_core.proofs.tests.evaluated_replies.Goals as goal

pub flat_step-requires-clause-sound : goal.flat_step-requires-clause-sound
flat_step-requires-clause-sound c = subst IsSound (sym c.in_ok-config.ensures) sound

pub opening-requires : goal.opening-requires
opening-requires c = subst IsSound (sym c.in_ok-config.ensures) sound
