use Rattle.std.proofs.Common.{◌≡◌, drop, take, []}
use Rattle.acl_resolver.specs.Refusals.{clash_of, first_behind}
use Rattle.acl_resolver.proofs.clashes.clash.Given as goal

abbrev pub invariant-loop-i : goal.invariant-loop-i
invariant-loop-i l = first_behind clash_of (take l.i l.boxes) l.i (drop l.i l.boxes) ≡ first_behind clash_of [] 0 l.boxes
