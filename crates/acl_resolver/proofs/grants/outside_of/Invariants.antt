use Rattle.std.proofs.Common.{◌≡◌, drop}
use Rattle.acl_resolver.specs.Refusals.{first_numbered, outside_at}
use Rattle.acl_resolver.proofs.grants.outside_of.Given as goal

abbrev pub invariant-loop-j : goal.invariant-loop-j
invariant-loop-j l = first_numbered (outside_at l.board l.common l.i) l.j (drop l.j l.part.grants) ≡ first_numbered (outside_at l.board l.common l.i) 0 l.part.grants
