-- The lone machine: the replies of a box by itself to what reached it. It answers from its part and from what reached
-- it alone. It imports the words of one thread and of its instructions (Thread, Local, Classes, Cells) and what an
-- access needs (Access), and data types, and nothing else of the flat machine: no step, no run, no owners and no log.
use Rattle.std.specs.Prelude.{ℕ, Bool, false, ◌&&◌, nat_eq, Option, Some, None, List, [], ◌∷◌, length, replicate, if◌then◌else◌, slice_get, slice_set}
use Rattle.std.specs.Option.{option_map_or}
use Rattle.flat_model.specs.declared.classes.InstrClass.{InstrClass}
use Rattle.flat_model.specs.declared.classes.InstrClass.TheVariants.{Local, Memory, Kernel}
use Rattle.flat_model.specs.declared.classes.KernelCall.{KernelCall}
use Rattle.flat_model.specs.declared.classes.KernelCall.TheVariants as call
use Rattle.flat_model.specs.declared.classes.MemoryInstr.{MemoryInstr}
use Rattle.flat_model.specs.declared.events.Flaw.TheVariants as flaw
use Rattle.flat_model.specs.declared.events.Mode.TheVariants as mode
use Rattle.flat_model.specs.declared.events.Reply.{Reply}
use Rattle.flat_model.specs.declared.events.Reply.TheVariants as reply
use Rattle.flat_model.specs.declared.instructions.Instr.{Instr}
use Rattle.flat_model.specs.declared.next.Next.{Next}
use Rattle.flat_model.specs.declared.next.Next.TheVariants as next
use Rattle.flat_model.specs.declared.parts.IrqPart.{IrqPart}
use Rattle.flat_model.specs.declared.states.ThreadState.{ThreadState}
use Rattle.flat_model.specs.Access.{is_aligned}
use Rattle.box_isolation.specs.AloneCalls.{alone_post, alone_posted, alone_result, alone_return, alone_start, alone_take, alone_wait, alone_waiting, has_open}
use Rattle.box_isolation.specs.AloneLines.{LINE_NUMBERS, alone_context, alone_delivery, alone_due, alone_enable, alone_irq_return, is_own_line, with_latch}
use Rattle.box_isolation.specs.AloneMemory.{alone_access, alone_alloc, alone_free, alone_holds, alone_read, alone_write, page_at}
use Rattle.box_isolation.specs.AloneState.{Kept, Left, Lone, alone_by_itself, alone_fault, alone_refused, has_number, kept_noting, noted}
use Rattle.box_isolation.specs.Arrivals.{Arrival, Deed, Part, Program, Supply, bytes, event, idle, rung, start, supplied_call, turn}
use Rattle.flat_model.specs.Classes.{class_of}
use Rattle.flat_model.specs.Local.{local_row}
use Rattle.flat_model.specs.Thread.{bounded, counted, has_ended, is_waiting, register, sum32}

-- an access, or an address that is not aligned
abbrev pub alone_address : MemoryInstr → ℕ → Next
alone_address i at =
    if is_aligned at i.size
    then next.Access (record { kind = i.kind; size = i.size; at = at; register = i.register })
    else next.Unaligned at

-- what an instruction of this class comes to
abbrev pub alone_class : ThreadState → InstrClass → Next
alone_class th (Local i) = next.Local i
alone_class th (Memory i) = alone_address i (sum32 (register th i.base) i.offset)
alone_class th (Kernel c) = next.Kernel c

-- the instruction at the thread's place, or a place without one
abbrev pub alone_place : ThreadState → Option Instr → Next
alone_place th None = next.Nowhere
alone_place th (Some i) = alone_class th (class_of i)

-- a turn of a ready thread: the interrupt that is due, or the instruction at its place
abbrev pub alone_ready : Program → ThreadState → Option IrqPart → Next
alone_ready program th (Some irq) = next.Deliver irq
alone_ready program th None = alone_place th (slice_get program.instructions th.pc)

-- what a turn of a thread comes to
abbrev pub alone_next : Program → ThreadState → Option IrqPart → Next
alone_next program th due = if is_waiting th.mode then next.Look else alone_ready program th due

-- what a kernel call does of the thread with this index, with room or not, and with what was supplied
abbrev pub alone_kernel : Part → ℕ → Bool → Supply → Kept → ThreadState → KernelCall → Left
alone_kernel part i room supply k th (call.PagesAlloc n t) = alone_alloc part k th (register th n) (register th t) supply
alone_kernel part i room supply k th (call.PageFree a) = alone_free k th (page_at part.heap (register th a))
alone_kernel part i room supply k th (call.IrqOn n) = alone_enable k th n Bool.true (is_own_line n part.irqs)
alone_kernel part i room supply k th (call.IrqOff n) = alone_enable k th n false (is_own_line n part.irqs)
alone_kernel part i room supply k th call.IrqReturn = alone_irq_return k th (alone_context k.lines i)
alone_kernel part i room supply k th (call.GwRead d n) = alone_read k th d (has_number n part.reads) supply
alone_kernel part i room supply k th (call.GwWrite s n) = alone_write k th (has_number n part.writes)
alone_kernel part i room supply k th (call.RpcCall d n) = alone_post i room k th (alone_posted th d) (has_number n part.calls)
alone_kernel part i room supply k th (call.RpcSync n looks) = alone_post i room k th (alone_waiting th looks) (has_number n part.calls)
alone_kernel part i room supply k th call.RpcTake = alone_take k th (nat_eq i part.server) k.calls.serves
alone_kernel part i room supply k th (call.RpcReturn s) = alone_return k th (nat_eq i part.server && k.calls.serves)
alone_kernel part i room supply k th (call.RpcResult d s) =
    alone_result i k th d (register th s) supply (has_open i (register th s) k)

-- what a turn does that comes to this, once its step is counted
abbrev pub alone_row : Part → ℕ → Bool → Supply → Kept → ThreadState → Next → Left
alone_row part i room supply k th next.Look = alone_wait i k th supply th.awaited
alone_row part i room supply k th (next.Deliver irq) = alone_delivery k th irq
alone_row part i room supply k th (next.Local instr) = alone_by_itself k (local_row th part.index instr)
alone_row part i room supply k th (next.Access access) =
    alone_access k th access (alone_holds part k.pages access.at access.size access.kind)
alone_row part i room supply k th (next.Unaligned at) = alone_fault k th flaw.Unaligned at
alone_row part i room supply k th (next.Kernel c) = alone_kernel part i room supply k th c
alone_row part i room supply k th next.Nowhere = alone_fault k th flaw.Place th.pc

-- what an event does of the thread with this index
abbrev pub alone_deed : Part → ℕ → Supply → Kept → Program → ThreadState → Deed → Left
alone_deed part i supply k program th (turn room) =
    alone_row part i room supply k (counted th) (alone_next program th (alone_due k.lines part.irqs i))
alone_deed part i supply k program th start = alone_start k (counted th) (supplied_call supply)
alone_deed part i supply k program th idle = alone_refused k (counted th) 2

-- the state after an event, and its reply: the thread is spent where its steps are at its budget
abbrev pub alone_settled : Lone → ℕ → ℕ → Left → Lone × Reply
alone_settled s i budget left =
    (record { kept = left.kept; threads = slice_set s.threads i (bounded budget left.thread) }, left.reply)

-- an event of a thread, where there is one that has not ended
abbrev pub alone_event : Part → Lone → ℕ → Deed → Supply → Option Program → Option ThreadState → Lone × Reply
alone_event part s i deed supply None th = (s, reply.Ended)
alone_event part s i deed supply (Some program) None = (s, reply.Ended)
alone_event part s i deed supply (Some program) (Some th) =
    if has_ended th then (s, reply.Ended)
    else alone_settled s i program.steps (alone_deed part i supply s.kept program th deed)

-- the replies from a state on to what reached the box
abbrev pub replies_from : Part → Lone → List Arrival → List Reply
replies_from part s [] = []
replies_from part s (event i deed supply ∷ arrivals) =
    let after : Lone × Reply = alone_event part s i deed supply (slice_get part.programs i) (slice_get s.threads i) in
    after.1 ∷ replies_from part after.0 arrivals
replies_from part s (bytes cells ∷ arrivals) = replies_from part (record s { kept = kept_noting cells s.kept }) arrivals
replies_from part s (rung line ∷ arrivals) = replies_from part (record s { kept = with_latch line s.kept }) arrivals

-- a thread at the start
abbrev pub alone_thread : ThreadState
alone_thread = record {
  pc = 0;
  regs = 0 ∷ 0 ∷ 0 ∷ 0 ∷ 0 ∷ 0 ∷ 0 ∷ 0 ∷ [];
  mode = mode.Ready;
  steps = 0;
  count = 0;
  awaited = None;
}

-- the box at the start: the part's bytes, no page of its own, no call, no line latched or enabled
abbrev pub alone_opening : Part → Lone
alone_opening part = record {
  kept = record {
    cells = noted part.bytes [];
    pages = replicate (option_map_or (λ heap. heap.count) part.heap 0) false;
    calls = record { open_calls = []; serves = false };
    lines = record { latched = replicate LINE_NUMBERS false; enabled = replicate LINE_NUMBERS false; saved = None };
  };
  threads = replicate (length part.programs) alone_thread;
}

-- the replies of the box by itself to what reached it
abbrev pub lone_replies : Part → List Arrival → List Reply
lone_replies part arrivals = replies_from part (alone_opening part) arrivals
