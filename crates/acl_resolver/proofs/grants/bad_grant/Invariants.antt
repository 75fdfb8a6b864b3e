use Rattle.std.proofs.Common.{◌≡◌, drop}
use Rattle.acl_resolver.specs.Refusals.{bad_grant_of, first_numbered}
use Rattle.acl_resolver.proofs.grants.bad_grant.Given as goal

abbrev pub invariant-loop-i : goal.invariant-loop-i
invariant-loop-i l = first_numbered bad_grant_of l.i (drop l.i l.boxes) ≡ first_numbered bad_grant_of 0 l.boxes
