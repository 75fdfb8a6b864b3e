use Rattle.std.proofs.Common.{◌≡◌, None}
use Rattle.std.specs.Prelude.{IsSome}
use Rattle.region_rotation.proofs.tests.a_grant_of_seven_blocks_rotates_in_by_three_pairs.Given as goal

-- a box was entered, and there is no heap
abbrev pub invariant-loop-a : goal.invariant-loop-a
invariant-loop-a g l = IsSome l.rotator.unit.last × (l.rotator.heap ≡ None)
