use Rattle.std.proofs.Common.{◌≡◌, drop, take, []}
use Rattle.flat_model.specs.First.{first_after}
use Rattle.acl_resolver.specs.Refusals.{overlaps_one}
use Rattle.acl_resolver.proofs.clashes.first_overlap.Given as goal

abbrev pub invariant-loop-j : goal.invariant-loop-j
invariant-loop-j l = first_after overlaps_one l.j (take l.j l.grants) (drop l.j l.grants) ≡ first_after overlaps_one 0 [] l.grants
