-- A turn of a thread that has not ended, in the order of its points (docs/PROGRAMS.md, "A turn").
use Rattle.std.specs.Prelude.{ℕ, Bool, true, false, Option, Some, None, slice_get}
use Rattle.flat_model.specs.declared.actors.Who.{Who}
use Rattle.flat_model.specs.declared.classes.KernelCall.{KernelCall}
use Rattle.flat_model.specs.declared.classes.KernelCall.TheVariants as call
use Rattle.flat_model.specs.declared.events.Flaw.TheVariants as flaw
use Rattle.flat_model.specs.declared.events.Reply.TheVariants as reply
use Rattle.flat_model.specs.declared.next.Next.{Next}
use Rattle.flat_model.specs.declared.next.Next.TheVariants as next
use Rattle.flat_model.specs.declared.parts.BoxPart.{BoxPart}
use Rattle.flat_model.specs.declared.parts.Config.{Config}
use Rattle.flat_model.specs.declared.states.Awaited.{Awaited}
use Rattle.flat_model.specs.declared.states.Shared.{Shared}
use Rattle.flat_model.specs.declared.states.ThreadState.{ThreadState}
use Rattle.flat_model.specs.Access.{owned_by}
use Rattle.flat_model.specs.AccessRows.{access_row}
use Rattle.flat_model.specs.CallRows.{gateway_for, is_server, look_row, own_ticket, rpc_post_row, rpc_result_row, rpc_return_row, rpc_take_row, served_ticket, serving_of}
use Rattle.flat_model.specs.Calls.{collected_by}
use Rattle.flat_model.specs.Interrupts.{handled_context, has_line}
use Rattle.flat_model.specs.LineRows.{delivery_row, irq_enable_row, irq_return_row}
use Rattle.flat_model.specs.Local.{local_row}
use Rattle.flat_model.specs.Outcome.{Outcome, by_itself, fault_row}
use Rattle.flat_model.specs.PageRows.{page_free_row, pages_alloc_row}
use Rattle.flat_model.specs.Pages.{allocation, freeing, may_write_words}
use Rattle.flat_model.specs.RegisterRows.{gw_read_row, gw_write_row}
use Rattle.flat_model.specs.Registers.{register_read, register_write}
use Rattle.flat_model.specs.Thread.{bounded, counted, register}
use Rattle.flat_model.specs.ThreadEvents.{posted, posted_and_waiting}

-- whether the box may write the page table that its thread asks for, in registers n and t
abbrev pub may_write_table : Config → Who → BoxPart → Shared → ThreadState → ℕ → ℕ → Bool
may_write_table cfg who part m th n t =
    may_write_words (owned_by who.home.0) part.items cfg.board.heap m.owners (register th t) (register th n)

-- what a kernel call does: what the kernel answers, and what the answer does to the thread
abbrev pub kernel_row : Config → Who → BoxPart → Shared → ThreadState → KernelCall → Outcome
kernel_row cfg who part m th (call.PagesAlloc n t) =
    pages_alloc_row cfg.board who.home.0 m th (register th t)
    (allocation cfg.board.heap (may_write_table cfg who part m th n t) (register th n) m.owners)
kernel_row cfg who part m th (call.PageFree a) =
    page_free_row m th (freeing cfg.board.heap m.owners who.home.0 (register th a))
kernel_row cfg who part m th (call.IrqOn n) = irq_enable_row m th n true (has_line n part.irqs)
kernel_row cfg who part m th (call.IrqOff n) = irq_enable_row m th n false (has_line n part.irqs)
kernel_row cfg who part m th call.IrqReturn =
    irq_return_row who.home.0 m th (handled_context m.lines part who.home.0 who.thread.0)
kernel_row cfg who part m th (call.GwRead d n) =
    gw_read_row m th d (register_read cfg.registers cfg.board m.memory who.home.0 n)
kernel_row cfg who part m th (call.GwWrite s n) =
    gw_write_row cfg.board m th (register_write cfg.registers cfg.board m.memory who.home.0 n (register th s))
kernel_row cfg who part m th (call.RpcCall d n) =
    rpc_post_row who m th (posted th d) (gateway_for who.home.0 (slice_get cfg.gateways n))
kernel_row cfg who part m th (call.RpcSync n looks) =
    rpc_post_row who m th (posted_and_waiting th looks) (gateway_for who.home.0 (slice_get cfg.gateways n))
kernel_row cfg who part m th call.RpcTake =
    rpc_take_row m th (is_server who part) (served_ticket m.serving who.home.0)
kernel_row cfg who part m th (call.RpcReturn s) =
    rpc_return_row who.home.0 m th (register th s) (serving_of who part m.serving)
kernel_row cfg who part m th (call.RpcResult d s) =
    rpc_result_row m th d (own_ticket who (register th s)) (collected_by (own_ticket who (register th s)) m.calls)

-- a turn of a thread that waits for this; a thread that waits for nothing is never reached
abbrev pub waiting_row : Who → Shared → ThreadState → Option Awaited → Outcome
waiting_row who m th None = by_itself m (th, reply.Waiting)
waiting_row who m th (Some awaited) =
    look_row who m th awaited (collected_by (own_ticket who awaited.seq) m.calls)

-- what a turn does that comes to this, once its step is counted; an access is granted or denied
abbrev pub row_of : Config → Who → BoxPart → Shared → ThreadState → Bool → Next → Outcome
row_of cfg who part m th granted next.Look = waiting_row who m th th.awaited
row_of cfg who part m th granted (next.Deliver irq) = delivery_row who.home.0 m th irq
row_of cfg who part m th granted (next.Local i) = by_itself m (local_row th who.home.0 i)
row_of cfg who part m th granted (next.Access access) = access_row cfg.board m th access granted
row_of cfg who part m th granted (next.Unaligned at) = fault_row m th flaw.Unaligned at
row_of cfg who part m th granted (next.Kernel c) = kernel_row cfg who part m th c
row_of cfg who part m th granted next.Nowhere = fault_row m th flaw.Place th.pc

-- a row, after which the thread is spent where its steps are at its budget
abbrev pub within_budget : ℕ → Outcome → Outcome
within_budget budget out = record out { thread = bounded budget out.thread }

-- a turn that comes to this, of a thread with this budget
abbrev pub turn_row : Config → Who → BoxPart → ℕ → Shared → ThreadState → Bool → Next → Outcome
turn_row cfg who part budget m th granted n = within_budget budget (row_of cfg who part m (counted th) granted n)
