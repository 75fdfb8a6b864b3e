use Rattle.std.proofs.Common.{◌≡◌, ◌-◌}
use Rattle.flat_model.specs.Plan.{cleared}
use Rattle.region_rotation.proofs.slots.empty_circle.Given as goal

abbrev pub invariant-loop-slot : goal.invariant-loop-slot
invariant-loop-slot l = l.unit ≡ cleared (l.slot - 2) l.initial.unit
