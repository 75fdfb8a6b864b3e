use Rattle.std.proofs.Common.{◌≡◌, drop}
use Rattle.acl_resolver.specs.Refusals.{first_numbered, outside_of}
use Rattle.acl_resolver.proofs.grants.grant_outside.Given as goal

abbrev pub invariant-loop-i : goal.invariant-loop-i
invariant-loop-i l = first_numbered (outside_of l.board l.common) l.i (drop l.i l.boxes) ≡ first_numbered (outside_of l.board l.common) 0 l.boxes
