use Rattle.std.proofs.Common.{◌≡◌, drop}
use Rattle.acl_resolver.specs.Refusals.{bad_grant_at, first_numbered}
use Rattle.acl_resolver.proofs.grants.bad_grant_of.Given as goal

abbrev pub invariant-loop-j : goal.invariant-loop-j
invariant-loop-j l = first_numbered (bad_grant_at l.i) l.j (drop l.j l.part.grants) ≡ first_numbered (bad_grant_at l.i) 0 l.part.grants
