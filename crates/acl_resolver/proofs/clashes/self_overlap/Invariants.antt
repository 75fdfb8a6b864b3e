use Rattle.std.proofs.Common.{◌≡◌, drop}
use Rattle.acl_resolver.specs.Refusals.{first_numbered, self_overlap_of}
use Rattle.acl_resolver.proofs.clashes.self_overlap.Given as goal

abbrev pub invariant-loop-i : goal.invariant-loop-i
invariant-loop-i l = first_numbered self_overlap_of l.i (drop l.i l.boxes) ≡ first_numbered self_overlap_of 0 l.boxes
