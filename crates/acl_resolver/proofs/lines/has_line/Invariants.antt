use Rattle.std.proofs.Common.{◌≡◌, drop}
use Rattle.flat_model.specs.Interrupts.{has_line}
use Rattle.acl_resolver.proofs.lines.has_line.Given as goal

abbrev pub invariant-loop-irq : goal.invariant-loop-irq
invariant-loop-irq l = has_line l.line (drop l.irq-index l.irqs) ≡ has_line l.line l.irqs
