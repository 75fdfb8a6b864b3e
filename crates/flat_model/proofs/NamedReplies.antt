-- What the reply to a choice that fits can be.
use Rattle.std.proofs.Common.{◌≡◌, ℕ, zero, suc, ◌+◌, ◌-◌, ◌<◌, ◌≤◌, Bool, true, false, List, [], ◌∷◌, ◌++◌, length, take, drop, replicate, Option, Some, None, refl, ap, arith, inl, inr}
use Rattle.std.specs.Prelude.{nat_eq, nat_le, nat_lt, is_none, MatchOption, Ok, Err, if◌then◌else◌, slice_get}
use Rattle.std.specs.List.{AllByRecursion, list_all}
use Rattle.std.proofs.lemmas.Bool.{cases_Bool, le-leb, leb-true, lt-ltb}
use Rattle.std.proofs.lemmas.Bool.Decides.{nat_tests}
use Rattle.std.proofs.lemmas.List.{length-take-le}
use Rattle.addr_base.specs.declared.identity.BoxId.{BoxId}
use Rattle.addr_base.specs.declared.identity.ThreadId.{ThreadId}
use Rattle.addr_base.specs.declared.identity.Ticket.{Ticket}
use Rattle.addr_base.specs.declared.rights.Kind.{Kind}
use Rattle.addr_base.specs.declared.rights.Kind.TheVariants.{Read, Write, Fetch}
use Rattle.flat_model.specs.declared.accesses.Access.{Access}
use Rattle.flat_model.specs.declared.actors.Who.{Who}
use Rattle.flat_model.specs.declared.boards.Board.{Board}
use Rattle.flat_model.specs.declared.boards.HeapPart.{HeapPart}
use Rattle.flat_model.specs.declared.boards.Word.{Word}
use Rattle.flat_model.specs.declared.classes.InstrClass.{InstrClass}
use Rattle.flat_model.specs.declared.classes.InstrClass.TheVariants.{Local, Memory, Kernel}
use Rattle.flat_model.specs.declared.classes.KernelCall.{KernelCall}
use Rattle.flat_model.specs.declared.classes.KernelCall.TheVariants as call
use Rattle.flat_model.specs.declared.classes.LocalInstr.{LocalInstr}
use Rattle.flat_model.specs.declared.classes.LocalInstr.TheVariants as local
use Rattle.flat_model.specs.declared.events.Collected.{Collected}
use Rattle.flat_model.specs.declared.events.Collected.TheVariants as got
use Rattle.flat_model.specs.declared.events.Reply.TheVariants as reply
use Rattle.flat_model.specs.declared.instructions.Instr.{Instr}
use Rattle.flat_model.specs.declared.next.Next.{Next}
use Rattle.flat_model.specs.declared.next.Next.TheVariants as next
use Rattle.flat_model.specs.declared.parts.BoxPart.{BoxPart}
use Rattle.flat_model.specs.declared.parts.Config.{Config}
use Rattle.flat_model.specs.declared.parts.IrqPart.{IrqPart}
use Rattle.flat_model.specs.declared.parts.RpcGate.{RpcGate}
use Rattle.flat_model.specs.declared.parts.ThreadPart.{ThreadPart}
use Rattle.flat_model.specs.declared.states.Awaited.{Awaited}
use Rattle.flat_model.specs.declared.states.Context.{Context}
use Rattle.flat_model.specs.declared.states.Flat.{Flat}
use Rattle.flat_model.specs.declared.states.Lines.{Lines}
use Rattle.flat_model.specs.declared.states.Shared.{Shared}
use Rattle.flat_model.specs.declared.states.ThreadState.{ThreadState}
use Rattle.flat_model.specs.Access.{is_aligned, owns}
use Rattle.flat_model.specs.AccessRows.{access_row, performed_row}
use Rattle.flat_model.specs.Actors.{Actor, who_acts}
use Rattle.flat_model.specs.CallRows.{gateway_for, is_server, no_result_row, look_row, own_ticket, rpc_post_row, rpc_result_row, rpc_return_row, rpc_take_row, served_ticket, serving_of}
use Rattle.flat_model.specs.Calls.{collected_by}
use Rattle.flat_model.specs.Classes.{class_of}
use Rattle.flat_model.specs.Interrupts.{due_interrupt, handled_context, has_line, is_deliverable, lower_of, lowest_deliverable, saved_context}
use Rattle.flat_model.specs.LineRows.{irq_enable_row, irq_return_row}
use Rattle.flat_model.specs.Local.{local_row}
use Rattle.flat_model.specs.Log.{ascends, is_named_frames, is_turn_reply}
use Rattle.flat_model.specs.Next.{access_by, holds_next, next_at, next_by_class, next_of, next_of_actor, next_when_ready}
use Rattle.flat_model.specs.Outcome.{Outcome, by_itself}
use Rattle.flat_model.specs.PageRows.{page_free_row, pages_alloc_row}
use Rattle.flat_model.specs.Pages.{allocation, frame_at, frames_of, frames_or_none, free_frames, is_bad_count, least_free, own_frame}
use Rattle.flat_model.specs.RegisterRows.{gw_read_row, gw_write_row}
use Rattle.flat_model.specs.Registers.{register_read, register_write}
use Rattle.flat_model.specs.Run.{LINES}
use Rattle.flat_model.specs.Step.{turn_of}
use Rattle.flat_model.specs.Thread.{counted, is_waiting, register}
use Rattle.flat_model.specs.ThreadEvents.{looking, timed_out}
use Rattle.flat_model.specs.Turn.{kernel_row, may_write_table, row_of, waiting_row}

-- the reply is that of a turn with room
abbrev IsTurned : Outcome → Type 0
IsTurned out = is_turn_reply out.reply ≡ true

-- ---- frames

-- the numbers ascend, and none is below the bound
AscendsFrom : ℕ → List ℕ → Type 0
AscendsFrom k [] = Unit {0}
AscendsFrom k (x ∷ xs) = (k ≤ x) × AscendsFrom (x + 1) xs

AscendsFrom-lower : (k : ℕ) (xs : List ℕ) → AscendsFrom (k + 1) xs → AscendsFrom k xs
unfolding AscendsFrom
AscendsFrom-lower k [] it = tt
AscendsFrom-lower k (x ∷ xs) it = (omega (arith, it.0), it.1)

AscendsFrom-free_frames : (k : ℕ) (owners : List (Option BoxId)) → AscendsFrom k (free_frames k owners)
unfolding AscendsFrom
AscendsFrom-free_frames k [] = tt
AscendsFrom-free_frames k (None ∷ owners) = (omega arith, AscendsFrom-free_frames (k + 1) owners)
AscendsFrom-free_frames k (Some owner ∷ owners) =
    AscendsFrom-lower k (free_frames (k + 1) owners) (AscendsFrom-free_frames (k + 1) owners)

AscendsFrom-take : (n k : ℕ) (xs : List ℕ) → AscendsFrom k xs → AscendsFrom k (take n xs)
unfolding AscendsFrom
AscendsFrom-take zero k xs it = tt
AscendsFrom-take (suc n) k [] it = tt
AscendsFrom-take (suc n) k (x ∷ xs) it = (it.0, AscendsFrom-take n (x + 1) xs it.1)

ascends-from : (k : ℕ) (xs : List ℕ) → AscendsFrom k xs → ascends xs ≡ true
unfolding AscendsFrom
ascends-from k [] it = refl
ascends-from k (x ∷ []) it = refl
ascends-from k (x ∷ y ∷ ys) it = rw (lt-ltb x y (omega (arith, it.1.0))) (ascends-from (x + 1) (y ∷ ys) it.1)

list_all-zeros : (n k : ℕ) → list_all (λ frame. nat_eq frame 0) (take n (replicate k 0)) ≡ true
list_all-zeros zero k = refl
list_all-zeros (suc n) zero = refl
list_all-zeros (suc n) (suc k) = list_all-zeros n k

take-take-all : (n : ℕ) (xs zs : List ℕ) → length xs ≤ n → take (length xs) (take n (xs ++ zs)) ≡ xs
take-take-all n [] zs short = refl
take-take-all zero (x ∷ xs) zs short = absurd (omega arith)
take-take-all (suc n) (x ∷ xs) zs short = ap (λ ys. x ∷ ys) (take-take-all n xs zs (omega arith))

drop-take-all : (n : ℕ) (xs zs : List ℕ) → length xs ≤ n → drop (length xs) (take n (xs ++ zs)) ≡ take (n - length xs) zs
drop-take-all n [] zs short = let e : n ≡ n - 0 = omega arith in ap (λ k. take k zs) e
drop-take-all zero (x ∷ xs) zs short = absurd (omega arith)
drop-take-all (suc n) (x ∷ xs) zs short =
    let e : suc n - suc (length xs) ≡ n - length xs = omega arith in rw e (drop-take-all n xs zs (omega arith))

-- frames that ascend and are 1 to 16 are named
named-frames : (k : ℕ) (xs : List ℕ) → AscendsFrom k xs → 1 ≤ length xs → length xs ≤ 16 → is_named_frames (frames_of xs) ≡ true
named-frames k xs it some few =
    rw (le-leb 1 (length xs) some, le-leb (length xs) 16 few, take-take-all 16 xs (replicate 16 0) few, ascends-from k xs it, drop-take-all 16 xs (replicate 16 0) few)
    (list_all-zeros (16 - length xs) 16)

-- ---- the rows

given-turned : (board : Board) (b n : ℕ) (m : Shared) (th : ThreadState) (table : ℕ) (heap : Option HeapPart) → 1 ≤ n → n ≤ 16 →
    IsTurned (pages_alloc_row board b m th table (frames_or_none heap (least_free n m.owners)))
given-turned board b n m th table None some few = refl
given-turned board b n m th table (Some heap) some few = elim (cases_Bool (nat_le n (length (free_frames 0 m.owners)))) [
  | inl enough ↦ rw enough (given n m.owners some few (leb-true n (length (free_frames 0 m.owners)) enough))
  | inr short ↦ rw short refl
]
  where
    given : (n : ℕ) (owners : List (Option BoxId)) → 1 ≤ n → n ≤ 16 → n ≤ length (free_frames 0 owners) →
        is_named_frames (frames_of (take n (free_frames 0 owners))) ≡ true
    given n owners some few enough =
        let long : length (take n (free_frames 0 owners)) ≡ n = length-take-le n (free_frames 0 owners) enough in
        named-frames 0 (take n (free_frames 0 owners)) (AscendsFrom-take n 0 (free_frames 0 owners) (AscendsFrom-free_frames 0 owners))
        (omega (arith, long)) (omega (arith, long))

good-count : (n : ℕ) → is_bad_count n ≡ false → (1 ≤ n) × (n ≤ 16)
good-count n good = elim (cases_Bool (nat_le 1 n)) [
  | inl some ↦ elim (cases_Bool (nat_le n 16)) [
    | inl few ↦ (leb-true 1 n some, leb-true n 16 few)
    | inr many ↦ absurd (grind (arith, nat_tests))
  ]
  | inr none ↦ absurd (grind (arith, nat_tests))
]

alloc-turned : (board : Board) (b : ℕ) (m : Shared) (th : ThreadState) (table n : ℕ) (may_write : Bool) →
    IsTurned (pages_alloc_row board b m th table (allocation board.heap may_write n m.owners))
alloc-turned board b m th table n may_write = elim (cases_Bool (is_bad_count n)) [
  | inl bad ↦ rw bad refl
  | inr good ↦ rw good (by_table may_write good)
]
  where
    by_table : (w : Bool) → is_bad_count n ≡ false → IsTurned (pages_alloc_row board b m th table (if w then frames_or_none board.heap (least_free n m.owners) else Err 6))
    by_table true good = given-turned board b n m th table board.heap (good-count n good).0 (good-count n good).1
    by_table false good = refl

free-turned : (m : Shared) (th : ThreadState) (owners : List (Option BoxId)) (b : ℕ) (frame : Option ℕ) →
    IsTurned (page_free_row m th (own_frame owners b frame))
free-turned m th owners b None = refl
free-turned m th owners b (Some frame) = by_owner (owns owners b frame)
  where
    by_owner : (own : Bool) → IsTurned (page_free_row m th (if own then Ok frame else Err 8))
    by_owner true = refl
    by_owner false = refl

enable-turned : (m : Shared) (th : ThreadState) (line : ℕ) (on own : Bool) → IsTurned (irq_enable_row m th line on own)
enable-turned m th line on true = refl
enable-turned m th line on false = refl

handled-turned : (b : ℕ) (m : Shared) (th : ThreadState) (context : Option Context) → IsTurned (irq_return_row b m th context)
handled-turned b m th None = refl
handled-turned b m th (Some context) = refl

read-turned : (m : Shared) (th : ThreadState) (r : ℕ) (value : Option ℕ) → IsTurned (gw_read_row m th r value)
read-turned m th r None = refl
read-turned m th r (Some value) = refl

write-turned : (board : Board) (m : Shared) (th : ThreadState) (word : Option Word) → IsTurned (gw_write_row board m th word)
write-turned board m th None = refl
write-turned board m th (Some word) = refl

post-turned : (who : Who) (m : Shared) (th after : ThreadState) (gate : Option RpcGate) → who.room ≡ true → IsTurned (rpc_post_row who m th after gate)
post-turned who m th after None room = refl
post-turned who m th after (Some gate) room = rw room refl

take-turned : (m : Shared) (th : ThreadState) (server : Bool) (serving : Option Ticket) → IsTurned (rpc_take_row m th server serving)
take-turned m th false serving = refl
take-turned m th true None = refl
take-turned m th true (Some ticket) = refl

rpc_return-turned : (b : ℕ) (m : Shared) (th : ThreadState) (v : ℕ) (serving : Option Ticket) → IsTurned (rpc_return_row b m th v serving)
rpc_return-turned b m th v None = refl
rpc_return-turned b m th v (Some ticket) = refl

result-turned : (m : Shared) (th : ThreadState) (r : ℕ) (ticket : Ticket) (answer : Collected) → IsTurned (rpc_result_row m th r ticket answer)
result-turned m th r ticket got.Waiting = refl
result-turned m th r ticket (got.Done value) = refl
result-turned m th r ticket got.NoSuch = refl

kernel-turned : (cfg : Config) (who : Who) (part : BoxPart) (m : Shared) (th : ThreadState) (c : KernelCall) → who.room ≡ true → IsTurned (kernel_row cfg who part m th c)
kernel-turned cfg who part m th (call.PagesAlloc n t) room =
    alloc-turned cfg.board who.home.0 m th (register th t) (register th n) (may_write_table cfg who part m th n t)
kernel-turned cfg who part m th (call.PageFree a) room = free-turned m th m.owners who.home.0 (frame_at cfg.board.heap (register th a))
kernel-turned cfg who part m th (call.IrqOn n) room = enable-turned m th n true (has_line n part.irqs)
kernel-turned cfg who part m th (call.IrqOff n) room = enable-turned m th n false (has_line n part.irqs)
kernel-turned cfg who part m th call.IrqReturn room = handled-turned who.home.0 m th (handled_context m.lines part who.home.0 who.thread.0)
kernel-turned cfg who part m th (call.GwRead d n) room = read-turned m th d (register_read cfg.registers cfg.board m.memory who.home.0 n)
kernel-turned cfg who part m th (call.GwWrite s n) room =
    write-turned cfg.board m th (register_write cfg.registers cfg.board m.memory who.home.0 n (register th s))
kernel-turned cfg who part m th (call.RpcCall d n) room = post-turned who m th _ (gateway_for who.home.0 (slice_get cfg.gateways n)) room
kernel-turned cfg who part m th (call.RpcSync n looks) room = post-turned who m th _ (gateway_for who.home.0 (slice_get cfg.gateways n)) room
kernel-turned cfg who part m th call.RpcTake room = take-turned m th (is_server who part) (served_ticket m.serving who.home.0)
kernel-turned cfg who part m th (call.RpcReturn s) room = rpc_return-turned who.home.0 m th (register th s) (serving_of who part m.serving)
kernel-turned cfg who part m th (call.RpcResult d s) room =
    result-turned m th d (own_ticket who (register th s)) (collected_by (own_ticket who (register th s)) m.calls)

performed-turned : (board : Board) (m : Shared) (th : ThreadState) (access : Access) (kind : Kind) → IsTurned (performed_row board m th access kind)
performed-turned board m th access Read = refl
performed-turned board m th access Write = refl
performed-turned board m th access Fetch = refl

access-turned : (board : Board) (m : Shared) (th : ThreadState) (access : Access) (granted : Bool) → IsTurned (access_row board m th access granted)
access-turned board m th access true = performed-turned board m th access access.kind
access-turned board m th access false = refl

local-turned : (m : Shared) (th : ThreadState) (home : ℕ) (i : LocalInstr) → IsTurned (by_itself m (local_row th home i))
local-turned m th home (local.Set d w) = refl
local-turned m th home (local.Mov d s) = refl
local-turned m th home (local.Add d a b) = refl
local-turned m th home (local.Sub d a b) = refl
local-turned m th home (local.And d a b) = refl
local-turned m th home (local.Orr d a b) = refl
local-turned m th home (local.Eor d a b) = refl
local-turned m th home (local.Jump n) = refl
local-turned m th home (local.Jz a n) = refl
local-turned m th home (local.Jnz a n) = refl
local-turned m th home (local.BoxId d) = refl
local-turned m th home local.Halt = refl

late-turned : (m : Shared) (th : ThreadState) (awaited : Awaited) → IsTurned (by_itself m (no_result_row th awaited))
late-turned m th awaited = by_looks (nat_eq (awaited.looks - 1) 0)
  where
    by_looks : (b : Bool) → IsTurned (by_itself m (if b then (timed_out th awaited.seq, reply.Status 1) else (looking th awaited.seq (awaited.looks - 1), reply.Waiting)))
    by_looks true = refl
    by_looks false = refl

look-turned : (who : Who) (m : Shared) (th : ThreadState) (awaited : Awaited) (answer : Collected) → IsTurned (look_row who m th awaited answer)
look-turned who m th awaited got.Waiting = late-turned m th awaited
look-turned who m th awaited (got.Done value) = refl
look-turned who m th awaited got.NoSuch = late-turned m th awaited

waiting-turned : (who : Who) (m : Shared) (th : ThreadState) (awaited : Option Awaited) → IsTurned (waiting_row who m th awaited)
waiting-turned who m th None = refl
waiting-turned who m th (Some awaited) = look-turned who m th awaited (collected_by (own_ticket who awaited.seq) m.calls)

-- every line of these is one that there is
abbrev pub HasLines : List IrqPart → Type 0
HasLines irqs = AllByRecursion (λ irq. irq.line.0 < LINES) irqs

-- the line is one that there is, where there is one
abbrev IsLine : Option IrqPart → Type 0
IsLine irq = MatchOption irq (Unit {0}) (λ i. i.line.0 < LINES)

lower-line : (irq : IrqPart) (other : Option IrqPart) → irq.line.0 < LINES → IsLine other → (lower_of irq other).line.0 < LINES
lower-line irq None first second = first
lower-line irq (Some other) first second = elim (cases_Bool (nat_lt other.line.0 irq.line.0)) [
  | inl lower ↦ rw lower second
  | inr higher ↦ rw higher first
]

lowest-line : (lines : Lines) (irqs : List IrqPart) → HasLines irqs → IsLine (lowest_deliverable lines irqs)
lowest-line lines [] all = tt
lowest-line lines (irq ∷ irqs) all = elim (cases_Bool (is_deliverable lines irq.line.0)) [
  | inl due ↦ rw due (lower-line irq (lowest_deliverable lines irqs) all.0 (lowest-line lines irqs all.1))
  | inr quiet ↦ rw quiet (lowest-line lines irqs all.1)
]

due-line : (lines : Lines) (part : BoxPart) (b thread : ℕ) → HasLines part.irqs → IsLine (due_interrupt lines part b thread)
due-line lines part b thread all = elim (cases_Bool (nat_eq thread part.first)) [
  | inl first ↦ rw first (by_handler (is_none (saved_context lines b)))
  | inr other ↦ rw other tt
]
  where
    by_handler : (free : Bool) → IsLine (if free then lowest_deliverable lines part.irqs else None)
    by_handler true = lowest-line lines part.irqs all
    by_handler false = tt

-- what a turn comes to delivers a line that there is, if it delivers one
abbrev pub IsNamedNext : Next → Type 0
IsNamedNext next.Look = Unit {0}
IsNamedNext (next.Deliver irq) = irq.line.0 < LINES
IsNamedNext (next.Local i) = Unit {0}
IsNamedNext (next.Access access) = Unit {0}
IsNamedNext (next.Unaligned at) = Unit {0}
IsNamedNext (next.Kernel c) = Unit {0}
IsNamedNext next.Nowhere = Unit {0}

class-named : (th : ThreadState) (c : InstrClass) → IsNamedNext (next_by_class th c)
class-named th (Local i) = tt
class-named th (Memory i) = by_test (is_aligned (access_by th i).at (access_by th i).size)
  where
    by_test : (b : Bool) → IsNamedNext (if b then next.Access (access_by th i) else next.Unaligned (access_by th i).at)
    by_test true = tt
    by_test false = tt
class-named th (Kernel c) = tt

at-named : (th : ThreadState) (i : Option Instr) → IsNamedNext (next_at th i)
at-named th None = tt
at-named th (Some i) = class-named th (class_of i)

ready-named : (program : ThreadPart) (th : ThreadState) (due : Option IrqPart) → IsLine due → IsNamedNext (next_when_ready program th due)
ready-named program th (Some irq) line = line
ready-named program th None line = at-named th (slice_get program.program th.pc)

next-named : (program : ThreadPart) (th : ThreadState) (due : Option IrqPart) → IsLine due → IsNamedNext (next_of program th due)
next-named program th due line = by_mode (is_waiting th.mode)
  where
    by_mode : (b : Bool) → IsNamedNext (if b then next.Look else next_when_ready program th due)
    by_mode true = tt
    by_mode false = ready-named program th due line

row-turned : (cfg : Config) (who : Who) (part : BoxPart) (m : Shared) (th : ThreadState) (granted : Bool) (n : Next) → who.room ≡ true → IsNamedNext n →
    IsTurned (row_of cfg who part m th granted n)
row-turned cfg who part m th granted next.Look room named = waiting-turned who m th th.awaited
row-turned cfg who part m th granted (next.Deliver irq) room named = lt-ltb irq.line.0 LINES named
row-turned cfg who part m th granted (next.Local i) room named = local-turned m th who.home.0 i
row-turned cfg who part m th granted (next.Access access) room named = access-turned cfg.board m th access granted
row-turned cfg who part m th granted (next.Unaligned at) room named = refl
row-turned cfg who part m th granted (next.Kernel c) room named = kernel-turned cfg who part m th c room
row-turned cfg who part m th granted next.Nowhere room named = refl

-- the reply of a turn with room is one that such a turn has
pub turn-turned : (cfg : Config) (f : Flat) (t : ThreadId) (a : Actor) → HasLines a.part.irqs →
    is_turn_reply (turn_of cfg f t true a (next_of_actor f.shared.lines a t.0)).1 ≡ true
turn-turned cfg f t a lines =
    let n = next_of_actor f.shared.lines a t.0 in
    row-turned cfg (who_acts a t true) a.part f.shared (counted a.thread) (holds_next cfg.board a.program.home.0 a.part f.shared.owners n) n refl
    (next-named a.program a.thread (due_interrupt f.shared.lines a.part a.program.home.0 t.0)
    (due-line f.shared.lines a.part a.program.home.0 t.0 lines))
