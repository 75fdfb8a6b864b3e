use Rattle.std.proofs.Common.{◌≡◌, map, take}
use Rattle.region_rotation.specs.Rotation.{home_pairs}
use Rattle.region_rotation.proofs.home.homes_of.Given as goal

abbrev pub invariant-loop-part : goal.invariant-loop-part
invariant-loop-part l = l.homes.items ≡ map (home_pairs l.cfg) (take l.part-index l.part-items)
