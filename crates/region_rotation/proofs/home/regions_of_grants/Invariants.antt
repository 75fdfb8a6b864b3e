use Rattle.std.proofs.Common.{◌≡◌, take}
use Rattle.flat_model.specs.Plan.{grant_pairs}
use Rattle.region_rotation.proofs.home.regions_of_grants.Given as goal

abbrev pub invariant-loop-grant : goal.invariant-loop-grant
invariant-loop-grant l = l.regions.items ≡ grant_pairs (take l.grant-index l.grants)
