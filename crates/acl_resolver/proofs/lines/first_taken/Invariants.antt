use Rattle.std.proofs.Common.{◌≡◌, drop, take, []}
use Rattle.flat_model.specs.First.{first_after}
use Rattle.acl_resolver.specs.Refusals.{is_taken}
use Rattle.acl_resolver.proofs.lines.first_taken.Given as goal

abbrev pub invariant-loop-j : goal.invariant-loop-j
invariant-loop-j l = first_after (is_taken l.earlier) l.j (take l.j l.irqs) (drop l.j l.irqs) ≡ first_after (is_taken l.earlier) 0 [] l.irqs
