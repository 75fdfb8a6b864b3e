-- What a contract sees of the interrupt lines, and how it fits the lines of the flat machine.
use Rattle.std.specs.Prelude.{◌≡◌, ℕ, Bool, true, false, if◌then◌else◌, is_some, find, nat_eq, Option, None, List, [], length, map, replicate, slice_get, slice_set}
use Rattle.std.specs.Option.{option_map_or}
use Rattle.flat_model.specs.declared.parts.Config.{Config}
use Rattle.flat_model.specs.declared.parts.IrqPart.{IrqPart}
use Rattle.flat_model.specs.declared.states.Lines.{Lines}
use Rattle.flat_model.specs.Interrupts.{is_set, lowest_deliverable}
use Rattle.flat_model.specs.Run.{LINES}

-- the configuration, whose boxes name their lines; two flags a line; and for each box whether it is in its handler
pub record IrqsView : Type 0 where
  pub config : Config
  pub latched : List Bool
  pub enabled : List Bool
  pub handling : List Bool

-- the lines of the flat machine with these flags, where a box's context is saved exactly while it is in its handler
pub record AreLinesOf (irqs : IrqsView) (lines : Lines) : Type 0 where
  pub latched : lines.latched ≡ irqs.latched
  pub enabled : lines.enabled ≡ irqs.enabled
  pub handling : map is_some lines.saved ≡ irqs.handling

-- the lines of the box with this number, with their handlers
abbrev pub irqs_of : Config → ℕ → List IrqPart
irqs_of cfg b = option_map_or (λ part. part.irqs) (slice_get cfg.boxes b) []

-- the first of these with this line
abbrev pub irq_with_line : ℕ → List IrqPart → Option IrqPart
irq_with_line line irqs = find (λ irq. nat_eq irq.line.0 line) irqs

-- nothing latched or enabled, and no box in its handler
abbrev pub opening_irqs : Config → IrqsView
opening_irqs cfg = record {
  config = cfg;
  latched = replicate LINES false;
  enabled = replicate LINES false;
  handling = replicate (length cfg.boxes) false;
}

-- the flags of the lines, with no context saved
abbrev pub flags_of : IrqsView → Lines
flags_of irqs = record { latched = irqs.latched; enabled = irqs.enabled; saved = [] }

-- the lowest line of the box that is latched and enabled: none while the box is in its handler
abbrev pub next_irq : IrqsView → ℕ → Option IrqPart
next_irq irqs b =
    if is_set irqs.handling b then None
    else lowest_deliverable (flags_of irqs) (irqs_of irqs.config b)

-- with this line latched
abbrev pub after_ring : IrqsView → ℕ → IrqsView
after_ring irqs line = record irqs { latched = slice_set irqs.latched line true }

-- with this line enabled or disabled; its latch stays
abbrev pub after_enabling : IrqsView → ℕ → Bool → IrqsView
after_enabling irqs line on = record irqs { enabled = slice_set irqs.enabled line on }

-- after a delivery of the line to the box: its latch is cleared, and the box is in its handler
abbrev pub after_delivery : IrqsView → ℕ → ℕ → IrqsView
after_delivery irqs line b =
    record irqs { latched = slice_set irqs.latched line false; handling = slice_set irqs.handling b true }

-- after the box returned from its handler
abbrev pub after_return : IrqsView → ℕ → IrqsView
after_return irqs b = record irqs { handling = slice_set irqs.handling b false }
