use Rattle.std.proofs.Common.{◌≡◌, ℕ, ◌<◌, length, slice_index}
use Rattle.flat_model.specs.Interrupts.{has_line}
use Rattle.irq_owner.specs.Bits.{has_bit}
use Rattle.irq_owner.specs.Irqs.{irqs_of}
use Rattle.irq_owner.proofs.owned.owned_words.Given as goal

abbrev pub invariant-loop-b : goal.invariant-loop-b
invariant-loop-b l = record {
  room : length l.owned ≡ 8;
  words : (b line : ℕ) → b < l.b → has_bit (slice_index l.owned b) line ≡ has_line line (irqs_of l.cfg b);
}
