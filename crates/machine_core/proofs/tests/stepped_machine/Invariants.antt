use Rattle.std.proofs.Common.{◌≡◌}
use Rattle.flat_model.specs.declared.events.Drive.TheVariants.{Script}
use Rattle.machine_core.specs.Fixture.{two_boxes}
use Rattle.machine_core.proofs.tests.stepped_machine.Given as goal

abbrev pub invariant-loop-t : goal.invariant-loop-t
invariant-loop-t l = record { drive : l.machine.drive ≡ Script; config : l.machine.config ≡ two_boxes }
