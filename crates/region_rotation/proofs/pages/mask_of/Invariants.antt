use Rattle.std.proofs.Common.{◌≡◌}
use Rattle.flat_model.specs.Plan.{owned_mask}
use Rattle.region_rotation.proofs.pages.mask_of.Given as goal

abbrev pub invariant-loop-i : goal.invariant-loop-i
invariant-loop-i l = l.mask ≡ owned_mask l.owners l.b.0 l.first l.i
