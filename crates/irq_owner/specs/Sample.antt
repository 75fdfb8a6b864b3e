-- Inner: no public contract cites this. The boxes of the tests, on the sample board.
use Rattle.std.specs.Prelude.{ℕ, List, [], ◌∷◌}
use Rattle.flat_model.specs.declared.parts.Config.{Config}
use Rattle.flat_model.specs.declared.parts.IrqPart.{IrqPart}
use Rattle.sample_board.specs.Sample.{Share, config, halting, parts}

-- a line and its handler
abbrev pub irq : ℕ → ℕ → IrqPart
irq line handler = record { line = record { 0 = line }; handler = handler }

-- a with lines 5 and 3, b with lines 63 and 0
abbrev pub shares : List Share
shares =
    record { threads = 1; irqs = irq 5 3 ∷ irq 3 1 ∷ [] }
    ∷ record { threads = 1; irqs = irq 63 0 ∷ irq 0 0 ∷ [] } ∷ []

-- these two boxes, each with one thread
abbrev pub two_boxes : Config
two_boxes = config (parts shares) (halting 0 ∷ halting 1 ∷ []) [] []
