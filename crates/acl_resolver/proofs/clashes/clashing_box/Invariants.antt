use Rattle.std.proofs.Common.{◌≡◌, drop}
use Rattle.flat_model.specs.First.{first_index}
use Rattle.acl_resolver.specs.Refusals.{clashes_in}
use Rattle.acl_resolver.proofs.clashes.clashing_box.Given as goal

abbrev pub invariant-loop-i : goal.invariant-loop-i
invariant-loop-i l = first_index (clashes_in l.grant) l.i (drop l.i l.earlier) ≡ first_index (clashes_in l.grant) 0 l.earlier
