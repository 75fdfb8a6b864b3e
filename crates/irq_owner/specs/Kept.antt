-- Inner: no public contract cites this. What the words of an `Irqs` keep.
use Rattle.std.specs.Prelude.{◌≡◌, ℕ, ◌<◌, Bool, List, length, slice_index}
use Rattle.flat_model.specs.declared.parts.Config.{Config}
use Rattle.flat_model.specs.Interrupts.{has_line}
use Rattle.flat_model.specs.Sound.{IsSound}
use Rattle.irq_owner.specs.Bits.{has_bit}
use Rattle.irq_owner.specs.Irqs.{irqs_of}

-- a word a box, in which the bits of its lines are set, and a flag a box; there is room for eight boxes
pub record IsKept (cfg : Config) (owned : List ℕ) (handling : List Bool) : Type 0 where
  pub sound : IsSound cfg
  pub words : length owned ≡ 8
  pub flags : length handling ≡ 8
  pub lines : (b line : ℕ) → b < length cfg.boxes → has_bit (slice_index owned b) line ≡ has_line line (irqs_of cfg b)
