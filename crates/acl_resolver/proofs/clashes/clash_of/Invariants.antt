use Rattle.std.proofs.Common.{◌≡◌, drop}
use Rattle.flat_model.specs.First.{first_of}
use Rattle.acl_resolver.specs.Refusals.{clash_at}
use Rattle.acl_resolver.proofs.clashes.clash_of.Given as goal

abbrev pub invariant-loop-grant : goal.invariant-loop-grant
invariant-loop-grant l = first_of (clash_at l.earlier l.i) (drop l.grant-index l.part.grants) ≡ first_of (clash_at l.earlier l.i) l.part.grants
