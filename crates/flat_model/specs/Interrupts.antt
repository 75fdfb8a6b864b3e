-- Interrupt lines: which can be delivered, which is due to a thread, and how they change.
use Rattle.std.specs.Prelude.{ℕ, Bool, true, false, ◌&&◌, nat_eq, nat_lt, is_none, unwrap_or, Option, Some, None, List, [], ◌∷◌, if◌then◌else◌, slice_get, slice_set}
use Rattle.std.specs.List.{list_any}
use Rattle.flat_model.specs.declared.parts.BoxPart.{BoxPart}
use Rattle.flat_model.specs.declared.parts.IrqPart.{IrqPart}
use Rattle.flat_model.specs.declared.states.Context.{Context}
use Rattle.flat_model.specs.declared.states.Lines.{Lines}

-- whether the line is one of these
abbrev pub has_line : ℕ → List IrqPart → Bool
has_line line irqs = list_any (λ irq. nat_eq irq.line.0 line) irqs

-- whether the flag at this number is set
abbrev pub is_set : List Bool → ℕ → Bool
is_set flags n = unwrap_or (slice_get flags n) false

-- whether the line is latched and enabled
abbrev pub is_deliverable : Lines → ℕ → Bool
is_deliverable lines line = is_set lines.latched line && is_set lines.enabled line

-- the one with the lower line
abbrev pub lower_of : IrqPart → Option IrqPart → IrqPart
lower_of irq None = irq
lower_of irq (Some other) = if nat_lt other.line.0 irq.line.0 then other else irq

-- the deliverable one of these with the lowest line
abbrev pub lowest_deliverable : Lines → List IrqPart → Option IrqPart
lowest_deliverable lines [] = None
lowest_deliverable lines (irq ∷ irqs) =
    if is_deliverable lines irq.line.0 then Some (lower_of irq (lowest_deliverable lines irqs))
    else lowest_deliverable lines irqs

-- what the box with this number saved at a delivery, while it is in its handler
abbrev pub saved_context : Lines → ℕ → Option Context
saved_context lines b = unwrap_or (slice_get lines.saved b) None

-- the lowest line that can be delivered to the box: none while it is in its handler
abbrev pub deliverable_to : Lines → List IrqPart → ℕ → Option IrqPart
deliverable_to lines irqs b = if is_none (saved_context lines b) then lowest_deliverable lines irqs else None

-- the interrupt that is due to this thread of the box, where the thread is ready
abbrev pub due_interrupt : Lines → BoxPart → ℕ → ℕ → Option IrqPart
due_interrupt lines part b thread = if nat_eq thread part.first then deliverable_to lines part.irqs b else None

-- what this thread of the box saved, where it is the one in a handler
abbrev pub handled_context : Lines → BoxPart → ℕ → ℕ → Option Context
handled_context lines part b thread = if nat_eq thread part.first then saved_context lines b else None

-- the lines with this one latched
abbrev pub with_latched : Lines → ℕ → Lines
with_latched lines line = record lines { latched = slice_set lines.latched line true }

-- the lines with this one enabled or disabled
abbrev pub with_enabled : Lines → ℕ → Bool → Lines
with_enabled lines line on = record lines { enabled = slice_set lines.enabled line on }

-- the lines after a delivery to the box: the latch is cleared, and the context saved
abbrev pub with_delivered : Lines → ℕ → ℕ → Context → Lines
with_delivered lines line b context =
    record lines { latched = slice_set lines.latched line false; saved = slice_set lines.saved b (Some context) }

-- the lines after the box returned from its handler
abbrev pub with_returned : Lines → ℕ → Lines
with_returned lines b = record lines { saved = slice_set lines.saved b None }
