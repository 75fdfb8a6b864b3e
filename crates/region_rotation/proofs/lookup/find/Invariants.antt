use Rattle.std.proofs.Common.{◌-◌}
use Rattle.region_rotation.proofs.Halving.{IsHalved}
use Rattle.region_rotation.proofs.lookup.find.Given as goal

abbrev pub invariant-loop-low : goal.invariant-loop-low
invariant-loop-low l = IsHalved l.initial.dir l.dir l.a l.low l.high

abbrev pub decreases-loop-low : goal.decreases-loop-low
decreases-loop-low l = l.high - l.low
