use Rattle.std.proofs.Common.{subst, sym}
use Rattle.flat_model.specs.Sound.{IsSound}
use Rattle.machine_core.proofs.FixtureSound.{sound}
use Rattle.machine_core.proofs.tests.stepped_machine.Goals as goal

pub boot-requires : goal.boot-requires
boot-requires c = subst IsSound (sym c.in_ok-config.ensures) sound

pub ring-requires-clause-config : goal.ring-requires-clause-config
ring-requires-clause-config c = c.loop-t.invariant.config
