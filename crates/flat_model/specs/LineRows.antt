-- The kernel calls on interrupt lines, and the delivery of an interrupt.
use Rattle.std.specs.Prelude.{ℕ, Bool, true, false, Option, Some, None}
use Rattle.flat_model.specs.declared.events.Reply.TheVariants as reply
use Rattle.flat_model.specs.declared.parts.IrqPart.{IrqPart}
use Rattle.flat_model.specs.declared.states.Context.{Context}
use Rattle.flat_model.specs.declared.states.Shared.{Shared}
use Rattle.flat_model.specs.declared.states.ThreadState.{ThreadState}
use Rattle.flat_model.specs.Interrupts.{with_delivered, with_enabled, with_returned}
use Rattle.flat_model.specs.Outcome.{Outcome, done_row, refused_row}
use Rattle.flat_model.specs.ThreadEvents.{context_of, interrupted, resumed}

-- the delivery of an interrupt: its latch is cleared, place and registers are saved, the handler is next
abbrev pub delivery_row : ℕ → Shared → ThreadState → IrqPart → Outcome
delivery_row b m th irq = record {
  shared = record m { lines = with_delivered m.lines irq.line.0 b (context_of th) };
  thread = interrupted th irq.line.0 irq.handler;
  reply = reply.Irq irq.line;
}

-- `irq_on` and `irq_off` of a line of the box, or of another line
abbrev pub irq_enable_row : Shared → ThreadState → ℕ → Bool → Bool → Outcome
irq_enable_row m th line on true = done_row (record m { lines = with_enabled m.lines line on }) th
irq_enable_row m th line on false = refused_row m th 9

-- `irq_return` from a handler with this context, or outside one
abbrev pub irq_return_row : ℕ → Shared → ThreadState → Option Context → Outcome
irq_return_row b m th None = refused_row m th 9
irq_return_row b m th (Some context) = record {
  shared = record m { lines = with_returned m.lines b };
  thread = resumed th context;
  reply = reply.Done;
}
