use Rattle.std.proofs.Common.{◌-◌}
use Rattle.region_packer.proofs.Going.{IsGoing}
use Rattle.region_packer.proofs.ranges.cover.Given as goal

abbrev pub invariant-loop-at : goal.invariant-loop-at
invariant-loop-at l = IsGoing l.fn.range l.fn.rights l.at l.out.items

abbrev pub decreases-loop-at : goal.decreases-loop-at
decreases-loop-at l = l.end - l.at
