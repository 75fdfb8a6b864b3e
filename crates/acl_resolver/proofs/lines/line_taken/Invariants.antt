use Rattle.std.proofs.Common.{◌≡◌, drop, take, []}
use Rattle.acl_resolver.specs.Refusals.{first_behind, line_taken_of}
use Rattle.acl_resolver.proofs.lines.line_taken.Given as goal

abbrev pub invariant-loop-i : goal.invariant-loop-i
invariant-loop-i l = first_behind line_taken_of (take l.i l.boxes) l.i (drop l.i l.boxes) ≡ first_behind line_taken_of [] 0 l.boxes
