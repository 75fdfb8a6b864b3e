use Rattle.std.proofs.Common.{◌≡◌, drop}
use Rattle.irq_owner.specs.Irqs.{irq_with_line}
use Rattle.machine_core.proofs.tables.irq_of.Given as goal

abbrev pub invariant-loop-irq : goal.invariant-loop-irq
invariant-loop-irq l = irq_with_line l.line.0 l.irqs ≡ irq_with_line l.line.0 (drop l.irq-index l.irqs)
