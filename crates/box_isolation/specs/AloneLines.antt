-- The lone machine's interrupt lines.
-- Of the flat machine it takes the words of one thread and data types alone.
use Rattle.std.specs.Prelude.{ℕ, Bool, true, false, ◌&&◌, nat_eq, nat_lt, is_none, Option, Some, None, List, [], ◌∷◌, if◌then◌else◌, slice_set}
use Rattle.std.specs.List.{list_any}
use Rattle.flat_model.specs.declared.events.Reply.TheVariants as reply
use Rattle.flat_model.specs.declared.parts.IrqPart.{IrqPart}
use Rattle.flat_model.specs.declared.states.Context.{Context}
use Rattle.flat_model.specs.declared.states.ThreadState.{ThreadState}
use Rattle.box_isolation.specs.AloneState.{Kept, Left, LoneLines, alone_done, alone_refused, flag_at}
use Rattle.flat_model.specs.Thread.{with_register}

-- how many line numbers there are
abbrev pub LINE_NUMBERS : ℕ
LINE_NUMBERS = 64

-- whether the line is one of these
abbrev pub is_own_line : ℕ → List IrqPart → Bool
is_own_line line irqs = list_any (λ irq. nat_eq irq.line.0 line) irqs

-- the one with the lower line
abbrev pub lower_line : IrqPart → Option IrqPart → IrqPart
lower_line irq None = irq
lower_line irq (Some other) = if nat_lt other.line.0 irq.line.0 then other else irq

-- the one of these with the lowest line that is latched and enabled
abbrev pub lowest_line : LoneLines → List IrqPart → Option IrqPart
lowest_line lines [] = None
lowest_line lines (irq ∷ irqs) =
    if flag_at lines.latched irq.line.0 && flag_at lines.enabled irq.line.0
    then Some (lower_line irq (lowest_line lines irqs))
    else lowest_line lines irqs

-- the interrupt that is due to the box's thread with this index: to its first thread alone, and to none in a handler
abbrev pub alone_due : LoneLines → List IrqPart → ℕ → Option IrqPart
alone_due lines irqs i = if nat_eq i 0 then (if is_none lines.saved then lowest_line lines irqs else None) else None

-- what the thread with this index saved, where it is the first one and in a handler
abbrev pub alone_context : LoneLines → ℕ → Option Context
alone_context lines i = if nat_eq i 0 then lines.saved else None

-- what the threads share with a line latched
abbrev pub with_latch : ℕ → Kept → Kept
with_latch line k = record k { lines = record k.lines { latched = slice_set k.lines.latched line true } }

-- the delivery of an interrupt: its latch is cleared, place and registers are saved, the handler is next
abbrev pub alone_delivery : Kept → ThreadState → IrqPart → Left
alone_delivery k th irq = record {
  kept = record k {
    lines = record k.lines {
      latched = slice_set k.lines.latched irq.line.0 false;
      saved = Some (record { pc = th.pc; regs = th.regs });
    };
  };
  thread = record (with_register th 0 irq.line.0) { pc = irq.handler };
  reply = reply.Irq irq.line;
}

-- `irq_on` and `irq_off` of a line of the box, or of another line
abbrev pub alone_enable : Kept → ThreadState → ℕ → Bool → Bool → Left
alone_enable k th line on true =
    alone_done (record k { lines = record k.lines { enabled = slice_set k.lines.enabled line on } }) th
alone_enable k th line on false = alone_refused k th 9

-- `irq_return` from a handler with this context, or outside one
abbrev pub alone_irq_return : Kept → ThreadState → Option Context → Left
alone_irq_return k th None = alone_refused k th 9
alone_irq_return k th (Some context) = record {
  kept = record k { lines = record k.lines { saved = None } };
  thread = record th { pc = context.pc; regs = context.regs };
  reply = reply.Done;
}
