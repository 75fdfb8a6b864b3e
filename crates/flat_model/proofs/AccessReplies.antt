-- An aligned access faults exactly where it is not granted.
use Rattle.std.proofs.Common.{◌≡◌, ℕ, Bool, true, false, not, cond, Option, Some, None, refl, ap, inl, inr}
use Rattle.std.specs.List.{slice_get}
use Rattle.addr_base.specs.declared.rights.Kind.{Kind}
use Rattle.addr_base.specs.declared.rights.Kind.TheVariants.{Read, Write, Fetch}
use Rattle.flat_model.specs.declared.accesses.Access.{Access}
use Rattle.flat_model.specs.declared.actors.Who.{Who}
use Rattle.flat_model.specs.declared.boards.Board.{Board}
use Rattle.flat_model.specs.declared.classes.InstrClass.{InstrClass}
use Rattle.flat_model.specs.declared.classes.InstrClass.TheVariants.{Local, Memory, Kernel}
use Rattle.flat_model.specs.declared.instructions.Instr.{Instr}
use Rattle.flat_model.specs.declared.instructions.Instr.TheVariants as instr
use Rattle.flat_model.specs.declared.next.Next.{Next}
use Rattle.flat_model.specs.declared.next.Next.TheVariants as next
use Rattle.flat_model.specs.declared.parts.BoxPart.{BoxPart}
use Rattle.flat_model.specs.declared.parts.Config.{Config}
use Rattle.flat_model.specs.declared.parts.IrqPart.{IrqPart}
use Rattle.flat_model.specs.declared.parts.ThreadPart.{ThreadPart}
use Rattle.flat_model.specs.declared.states.Shared.{Shared}
use Rattle.flat_model.specs.declared.states.ThreadState.{ThreadState}
use Rattle.flat_model.specs.Access.{is_aligned}
use Rattle.flat_model.specs.AccessRows.{access_row, performed_row}
use Rattle.flat_model.specs.Classes.{class_of}
use Rattle.flat_model.specs.Legal.{is_fault}
use Rattle.flat_model.specs.Next.{access_by, next_access, next_at, next_by_class, next_of, next_when_ready, touch_in}
use Rattle.flat_model.specs.Thread.{is_waiting}
use Rattle.flat_model.specs.Turn.{turn_row}
use Rattle.flat_model.proofs.HeldBytes.{IsSize}

-- a class's access is of one, two or four bytes
abbrev IsSizedClass : InstrClass → Type 0
IsSizedClass (Local i) = Unit {0}
IsSizedClass (Memory i) = IsSize i.size
IsSizedClass (Kernel c) = Unit {0}

class-size : (i : Instr) → IsSizedClass (class_of i)
class-size (instr.Load8 d a w) = inl refl
class-size (instr.Load16 d a w) = inr (inl refl)
class-size (instr.Load32 d a w) = inr (inr refl)
class-size (instr.Store8 s a w) = inl refl
class-size (instr.Store16 s a w) = inr (inl refl)
class-size (instr.Store32 s a w) = inr (inr refl)
class-size (instr.Exec a w) = inr (inl refl)
class-size (instr.Set d w) = tt
class-size (instr.Mov d s) = tt
class-size (instr.Add d a b) = tt
class-size (instr.Sub d a b) = tt
class-size (instr.And d a b) = tt
class-size (instr.Orr d a b) = tt
class-size (instr.Eor d a b) = tt
class-size (instr.Jump n) = tt
class-size (instr.Jz a n) = tt
class-size (instr.Jnz a n) = tt
class-size (instr.BoxId d) = tt
class-size (instr.PagesAlloc n t) = tt
class-size (instr.PageFree a) = tt
class-size (instr.IrqOn n) = tt
class-size (instr.IrqOff n) = tt
class-size instr.IrqReturn = tt
class-size (instr.GwRead d n) = tt
class-size (instr.GwWrite s n) = tt
class-size (instr.RpcCall d n) = tt
class-size (instr.RpcSync n looks) = tt
class-size instr.RpcTake = tt
class-size (instr.RpcReturn s) = tt
class-size (instr.RpcResult d s) = tt
class-size instr.Halt = tt

-- an access that a turn comes to is of one, two or four bytes, and aligned
abbrev pub IsFit : Next → Type 0
IsFit next.Look = Unit {0}
IsFit (next.Deliver irq) = Unit {0}
IsFit (next.Local i) = Unit {0}
IsFit (next.Access access) = IsSize access.size × (is_aligned access.at access.size ≡ true)
IsFit (next.Unaligned at) = Unit {0}
IsFit (next.Kernel c) = Unit {0}
IsFit next.Nowhere = Unit {0}

access-fit : (access : Access) → IsSize access.size → IsFit (next_access access)
access-fit access size = by_test (is_aligned access.at access.size) refl
  where
    by_test : (b : Bool) → is_aligned access.at access.size ≡ b → IsFit (cond b (next.Access access) (next.Unaligned access.at))
    by_test true even = (size, even)
    by_test false odd = tt

class-fit : (th : ThreadState) (c : InstrClass) → IsSizedClass c → IsFit (next_by_class th c)
class-fit th (Local i) size = tt
class-fit th (Memory i) size = access-fit (access_by th i) size
class-fit th (Kernel c) size = tt

at-fit : (th : ThreadState) (i : Option Instr) → IsFit (next_at th i)
at-fit th None = tt
at-fit th (Some i) = class-fit th (class_of i) (class-size i)

ready-fit : (program : ThreadPart) (th : ThreadState) (due : Option IrqPart) → IsFit (next_when_ready program th due)
ready-fit program th (Some irq) = tt
ready-fit program th None = at-fit th (slice_get program.program th.pc)

pub next-fit : (program : ThreadPart) (th : ThreadState) (due : Option IrqPart) → IsFit (next_of program th due)
next-fit program th due = by_mode (is_waiting th.mode)
  where
    by_mode : (b : Bool) → IsFit (cond b next.Look (next_when_ready program th due))
    by_mode true = tt
    by_mode false = ready-fit program th due

same_access : (a b : Access) → Some a ≡ Some b → a ≡ b
same_access a b is = cc

-- the access that it decides, if it decides one, is its own
pub touch-is : (n : Next) (access : Access) → touch_in n ≡ Some access → n ≡ next.Access access
touch-is next.Look access is = absurd (let e : None ≡ Some access = is in cc)
touch-is (next.Deliver irq) access is = absurd (let e : None ≡ Some access = is in cc)
touch-is (next.Local i) access is = absurd (let e : None ≡ Some access = is in cc)
touch-is (next.Access a) access is = ap next.Access (same_access a access is)
touch-is (next.Unaligned at) access is = absurd (let e : None ≡ Some access = is in cc)
touch-is (next.Kernel c) access is = absurd (let e : None ≡ Some access = is in cc)
touch-is next.Nowhere access is = absurd (let e : None ≡ Some access = is in cc)

performed-fault : (board : Board) (m : Shared) (th : ThreadState) (access : Access) (kind : Kind) →
    is_fault (performed_row board m th access kind).reply ≡ false
performed-fault board m th access Read = refl
performed-fault board m th access Write = refl
performed-fault board m th access Fetch = refl

access-fault : (board : Board) (m : Shared) (th : ThreadState) (access : Access) (granted : Bool) →
    is_fault (access_row board m th access granted).reply ≡ not granted
access-fault board m th access true = performed-fault board m th access access.kind
access-fault board m th access false = refl

-- a turn that comes to an access faults exactly where it is not granted
pub turn-fault : (cfg : Config) (who : Who) (part : BoxPart) (budget : ℕ) (m : Shared) (th : ThreadState) (granted : Bool) (access : Access) →
    is_fault (turn_row cfg who part budget m th granted (next.Access access)).reply ≡ not granted
turn-fault cfg who part budget m th granted access = access-fault cfg.board m _ access granted
