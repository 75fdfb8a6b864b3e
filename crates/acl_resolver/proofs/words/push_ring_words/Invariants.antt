use Rattle.std.proofs.Common.{◌≡◌, ◌++◌, drop, map}
use Rattle.acl_resolver.specs.Naming.{ring_word}
use Rattle.acl_resolver.proofs.words.push_ring_words.Given as goal

abbrev pub invariant-loop-irq : goal.invariant-loop-irq
invariant-loop-irq l = l.table.items ++ map ring_word (drop l.irq-index l.irqs) ≡ l.initial.table.items ++ map ring_word l.irqs
