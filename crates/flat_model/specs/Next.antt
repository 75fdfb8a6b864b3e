-- What a turn of a thread comes to that has not ended.
use Rattle.std.specs.Prelude.{◌<◌, ◌≤◌, ⊤, ℕ, Bool, true, false, Option, Some, None, List, if◌then◌else◌, slice_get}
use Rattle.addr_base.specs.declared.identity.BoxId.{BoxId}
use Rattle.flat_model.specs.declared.accesses.Access.{Access}
use Rattle.flat_model.specs.declared.boards.Board.{Board}
use Rattle.flat_model.specs.declared.classes.InstrClass.{InstrClass}
use Rattle.flat_model.specs.declared.classes.InstrClass.TheVariants.{Local, Memory, Kernel}
use Rattle.flat_model.specs.declared.classes.KernelCall.{KernelCall}
use Rattle.flat_model.specs.declared.classes.KernelCall.TheVariants as call
use Rattle.flat_model.specs.declared.classes.MemoryInstr.{MemoryInstr}
use Rattle.flat_model.specs.declared.instructions.Instr.{Instr}
use Rattle.flat_model.specs.declared.next.Next.{Next}
use Rattle.flat_model.specs.declared.next.Next.TheVariants as next
use Rattle.flat_model.specs.declared.parts.BoxPart.{BoxPart}
use Rattle.flat_model.specs.declared.parts.IrqPart.{IrqPart}
use Rattle.flat_model.specs.declared.parts.ThreadPart.{ThreadPart}
use Rattle.flat_model.specs.declared.states.Lines.{Lines}
use Rattle.flat_model.specs.declared.states.ThreadState.{ThreadState}
use Rattle.flat_model.specs.Access.{is_aligned, may_access, owned_by}
use Rattle.flat_model.specs.Actors.{Actor}
use Rattle.flat_model.specs.Classes.{class_of}
use Rattle.flat_model.specs.Interrupts.{due_interrupt}
use Rattle.flat_model.specs.Thread.{is_waiting, register, sum32}

-- the access that a load, a store or a fetch of a thread asks for
abbrev pub access_by : ThreadState → MemoryInstr → Access
access_by th i = record { kind = i.kind; size = i.size; at = sum32 (register th i.base) i.offset; register = i.register }

-- an access, or an address that is not aligned
abbrev pub next_access : Access → Next
next_access access = if is_aligned access.at access.size then next.Access access else next.Unaligned access.at

-- what an instruction of this class comes to
abbrev pub next_by_class : ThreadState → InstrClass → Next
next_by_class th (Local i) = next.Local i
next_by_class th (Memory i) = next_access (access_by th i)
next_by_class th (Kernel c) = next.Kernel c

-- the instruction at the thread's place, or a place without one
abbrev pub next_at : ThreadState → Option Instr → Next
next_at th None = next.Nowhere
next_at th (Some i) = next_by_class th (class_of i)

-- a turn of a ready thread: the interrupt that is due, or the instruction at its place
abbrev pub next_when_ready : ThreadPart → ThreadState → Option IrqPart → Next
next_when_ready program th (Some irq) = next.Deliver irq
next_when_ready program th None = next_at th (slice_get program.program th.pc)

-- what a turn of a thread comes to, with the interrupt that is due to it if it is ready
abbrev pub next_of : ThreadPart → ThreadState → Option IrqPart → Next
next_of program th due = if is_waiting th.mode then next.Look else next_when_ready program th due

-- what a turn of the actor comes to, which is the thread with this number
abbrev pub next_of_actor : Lines → Actor → ℕ → Next
next_of_actor lines a t = next_of a.program a.thread (due_interrupt lines a.part a.program.home.0 t)

-- the aligned access that such a turn decides, if it decides one
abbrev pub touch_in : Next → Option Access
touch_in next.Look = None
touch_in (next.Deliver irq) = None
touch_in (next.Local i) = None
touch_in (next.Access access) = Some access
touch_in (next.Unaligned at) = None
touch_in (next.Kernel c) = None
touch_in next.Nowhere = None

-- whether the box holds the bytes of this access, by its own part
abbrev pub holds_access : Board → ℕ → BoxPart → List (Option BoxId) → Access → Bool
holds_access board b part owners access =
    may_access (owned_by b) part.items board.heap owners access.at access.size access.kind

-- whether the box holds the bytes of the access that such a turn decides
abbrev pub holds_next : Board → ℕ → BoxPart → List (Option BoxId) → Next → Bool
holds_next board b part owners next.Look = false
holds_next board b part owners (next.Deliver irq) = false
holds_next board b part owners (next.Local i) = false
holds_next board b part owners (next.Access access) = holds_access board b part owners access
holds_next board b part owners (next.Unaligned at) = false
holds_next board b part owners (next.Kernel c) = false
holds_next board b part owners next.Nowhere = false

-- whether the kernel call allocates or frees pages
abbrev pub is_page_call : KernelCall → Bool
is_page_call (call.PagesAlloc n t) = true
is_page_call (call.PageFree a) = true
is_page_call (call.IrqOn n) = false
is_page_call (call.IrqOff n) = false
is_page_call call.IrqReturn = false
is_page_call (call.GwRead d n) = false
is_page_call (call.GwWrite s n) = false
is_page_call (call.RpcCall d n) = false
is_page_call (call.RpcSync n looks) = false
is_page_call call.RpcTake = false
is_page_call (call.RpcReturn s) = false
is_page_call (call.RpcResult d s) = false

-- whether such a turn is a page call
abbrev pub is_page_turn : Next → Bool
is_page_turn next.Look = false
is_page_turn (next.Deliver irq) = false
is_page_turn (next.Local i) = false
is_page_turn (next.Access access) = false
is_page_turn (next.Unaligned at) = false
is_page_turn (next.Kernel c) = is_page_call c
is_page_turn next.Nowhere = false

-- where it is an access, it is of one to four bytes
abbrev pub IsSized : Next → Type 0
IsSized next.Look = ⊤
IsSized (next.Deliver irq) = ⊤
IsSized (next.Local i) = ⊤
IsSized (next.Access access) = (0 < access.size) × (access.size ≤ 4)
IsSized (next.Unaligned at) = ⊤
IsSized (next.Kernel c) = ⊤
IsSized next.Nowhere = ⊤
