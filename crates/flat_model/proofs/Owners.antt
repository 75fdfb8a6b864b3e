-- Which turns change the owners of pages: those alone that empty the slots.
use Rattle.std.proofs.Common.{◌≡◌, ℕ, Bool, true, false, ◌&&◌, not, Option, Some, None, List, [], ◌∷◌, refl, ap, ◌∙◌, length}
use Rattle.std.specs.Prelude.{Result, Ok, Err}
use Rattle.std.specs.List.{slice_get, slice_set}
use Rattle.std.proofs.lemmas.List.{length-set}
use Rattle.addr_base.specs.declared.identity.BoxId.{BoxId}
use Rattle.addr_base.specs.declared.identity.Ticket.{Ticket}
use Rattle.addr_base.specs.declared.rights.Kind.{Kind}
use Rattle.addr_base.specs.declared.rights.Kind.TheVariants.{Read, Write, Fetch}
use Rattle.flat_model.specs.declared.accesses.Access.{Access}
use Rattle.flat_model.specs.declared.actors.Who.{Who}
use Rattle.flat_model.specs.declared.boards.Board.{Board}
use Rattle.flat_model.specs.declared.boards.Word.{Word}
use Rattle.flat_model.specs.declared.classes.KernelCall.{KernelCall}
use Rattle.flat_model.specs.declared.classes.KernelCall.TheVariants as call
use Rattle.flat_model.specs.declared.events.Collected.{Collected}
use Rattle.flat_model.specs.declared.events.Collected.TheVariants as got
use Rattle.flat_model.specs.declared.events.Reply.{Reply}
use Rattle.flat_model.specs.declared.next.Next.{Next}
use Rattle.flat_model.specs.declared.next.Next.TheVariants as next
use Rattle.flat_model.specs.declared.parts.BoxPart.{BoxPart}
use Rattle.flat_model.specs.declared.parts.Config.{Config}
use Rattle.flat_model.specs.declared.parts.RpcGate.{RpcGate}
use Rattle.flat_model.specs.declared.states.Awaited.{Awaited}
use Rattle.flat_model.specs.declared.states.Call.{Call}
use Rattle.flat_model.specs.declared.states.Context.{Context}
use Rattle.flat_model.specs.declared.states.Shared.{Shared}
use Rattle.flat_model.specs.declared.states.ThreadState.{ThreadState}
use Rattle.flat_model.specs.AccessRows.{access_row, performed_row}
use Rattle.flat_model.specs.CallRows.{gateway_for, is_server, look_row, own_ticket, rpc_post_row, rpc_result_row, rpc_return_row, rpc_take_row, served_ticket, server_row, serving_of, start_row}
use Rattle.flat_model.specs.Calls.{collected_by, next_call}
use Rattle.flat_model.specs.Interrupts.{handled_context, has_line}
use Rattle.flat_model.specs.LineRows.{irq_enable_row, irq_return_row}
use Rattle.flat_model.specs.Next.{is_page_call, is_page_turn}
use Rattle.flat_model.specs.Outcome.{Outcome}
use Rattle.flat_model.specs.PageRows.{page_free_row, pages_alloc_row}
use Rattle.flat_model.specs.Pages.{allocation, freeing, with_owner}
use Rattle.flat_model.specs.RegisterRows.{gw_read_row, gw_write_row}
use Rattle.flat_model.specs.Registers.{register_read, register_write}
use Rattle.flat_model.specs.Step.{is_status}
use Rattle.flat_model.specs.Thread.{counted, register}
use Rattle.flat_model.specs.ThreadEvents.{posted, posted_and_waiting}
use Rattle.flat_model.specs.Turn.{kernel_row, may_write_table, row_of, turn_row, waiting_row}

-- there are as many owners as before, and but for a page call that was done they are the same
pub record KeepsOwners (before after : Shared) (page : Bool) (r : Reply) : Type 0 where
  pub count : length after.owners ≡ length before.owners
  pub same : (page && not (is_status r)) ≡ false → after.owners ≡ before.owners

keeps : (m : Shared) (out : Outcome) (page : Bool) → out.shared.owners ≡ m.owners → KeepsOwners m out.shared page out.reply
keeps m out page same = record { count = ap length same; same = λ none. same }

-- ---- rows that leave the owners alone

performed-owners : (board : Board) (m : Shared) (th : ThreadState) (access : Access) (kind : Kind) →
    (performed_row board m th access kind).shared.owners ≡ m.owners
performed-owners board m th access Read = refl
performed-owners board m th access Write = refl
performed-owners board m th access Fetch = refl

access-owners : (board : Board) (m : Shared) (th : ThreadState) (access : Access) (granted : Bool) →
    (access_row board m th access granted).shared.owners ≡ m.owners
access-owners board m th access true = performed-owners board m th access access.kind
access-owners board m th access false = refl

enable-owners : (m : Shared) (th : ThreadState) (line : ℕ) (on own : Bool) → (irq_enable_row m th line on own).shared.owners ≡ m.owners
enable-owners m th line on true = refl
enable-owners m th line on false = refl

handled-owners : (b : ℕ) (m : Shared) (th : ThreadState) (context : Option Context) → (irq_return_row b m th context).shared.owners ≡ m.owners
handled-owners b m th None = refl
handled-owners b m th (Some context) = refl

read-owners : (m : Shared) (th : ThreadState) (r : ℕ) (value : Option ℕ) → (gw_read_row m th r value).shared.owners ≡ m.owners
read-owners m th r None = refl
read-owners m th r (Some value) = refl

write-owners : (board : Board) (m : Shared) (th : ThreadState) (word : Option Word) → (gw_write_row board m th word).shared.owners ≡ m.owners
write-owners board m th None = refl
write-owners board m th (Some word) = refl

post-owners : (who : Who) (m : Shared) (th after : ThreadState) (gate : Option RpcGate) →
    (rpc_post_row who m th after gate).shared.owners ≡ m.owners
post-owners who m th after None = refl
post-owners who m th after (Some gate) = by_room who.room
  where
    by_room : (b : Bool) → (rpc_post_row (record who { room = b }) m th after (Some gate)).shared.owners ≡ m.owners
    by_room true = refl
    by_room false = refl

take-owners : (m : Shared) (th : ThreadState) (server : Bool) (serving : Option Ticket) → (rpc_take_row m th server serving).shared.owners ≡ m.owners
take-owners m th false serving = refl
take-owners m th true None = refl
take-owners m th true (Some ticket) = refl

return-owners : (b : ℕ) (m : Shared) (th : ThreadState) (v : ℕ) (serving : Option Ticket) → (rpc_return_row b m th v serving).shared.owners ≡ m.owners
return-owners b m th v None = refl
return-owners b m th v (Some ticket) = refl

result-owners : (m : Shared) (th : ThreadState) (r : ℕ) (ticket : Ticket) (answer : Collected) →
    (rpc_result_row m th r ticket answer).shared.owners ≡ m.owners
result-owners m th r ticket got.Waiting = refl
result-owners m th r ticket (got.Done value) = refl
result-owners m th r ticket got.NoSuch = refl

look-owners : (who : Who) (m : Shared) (th : ThreadState) (awaited : Awaited) (answer : Collected) →
    (look_row who m th awaited answer).shared.owners ≡ m.owners
look-owners who m th awaited got.Waiting = refl
look-owners who m th awaited (got.Done value) = refl
look-owners who m th awaited got.NoSuch = refl

waiting-owners : (who : Who) (m : Shared) (th : ThreadState) (awaited : Option Awaited) → (waiting_row who m th awaited).shared.owners ≡ m.owners
waiting-owners who m th None = refl
waiting-owners who m th (Some awaited) = look-owners who m th awaited (collected_by (own_ticket who awaited.seq) m.calls)

start-owners : (cfg : Config) (b : ℕ) (m : Shared) (th : ThreadState) (ticket : Ticket) (next : Option Call) →
    (start_row cfg b m th ticket next).shared.owners ≡ m.owners
start-owners cfg b m th ticket None = refl
start-owners cfg b m th ticket (Some call) = refl

-- a server's event leaves the owners alone
pub server-owners : (cfg : Config) (b : ℕ) (m : Shared) (th : ThreadState) (ticket : Option Ticket) →
    (server_row cfg b m th ticket).shared.owners ≡ m.owners
server-owners cfg b m th None = refl
server-owners cfg b m th (Some ticket) = start-owners cfg b m th ticket (next_call ticket b m.calls)

-- ---- page calls

with_owner-length : (owner : Option BoxId) (frames : List ℕ) (owners : List (Option BoxId)) →
    length (with_owner owner frames owners) ≡ length owners
with_owner-length owner [] owners = refl
with_owner-length owner (frame ∷ frames) owners =
    with_owner-length owner frames (slice_set owners frame owner) ∙ length-set owners frame owner

done : (b : Bool) {X : Type 0} → (true && true) ≡ false → X
done b none = absurd (let e : true ≡ false = none in cc)

alloc-owners : (board : Board) (b : ℕ) (m : Shared) (th : ThreadState) (table : ℕ) (answer : Result (List ℕ) ℕ) →
    KeepsOwners m (pages_alloc_row board b m th table answer).shared true (pages_alloc_row board b m th table answer).reply
alloc-owners board b m th table (Err status) = keeps m (pages_alloc_row board b m th table (Err status)) true refl
alloc-owners board b m th table (Ok frames) = record {
  count = with_owner-length (Some (record { 0 = b })) frames m.owners;
  same = λ none. done true none;
}

free-owners : (m : Shared) (th : ThreadState) (answer : Result ℕ ℕ) →
    KeepsOwners m (page_free_row m th answer).shared true (page_free_row m th answer).reply
free-owners m th (Err status) = keeps m (page_free_row m th (Err status)) true refl
free-owners m th (Ok frame) = record { count = length-set m.owners frame None; same = λ none. done true none }

-- ---- turns

kernel-owners : (cfg : Config) (who : Who) (part : BoxPart) (m : Shared) (th : ThreadState) (c : KernelCall) →
    KeepsOwners m (kernel_row cfg who part m th c).shared (is_page_call c) (kernel_row cfg who part m th c).reply
kernel-owners cfg who part m th (call.PagesAlloc n t) =
    alloc-owners cfg.board who.home.0 m th (register th t) (allocation cfg.board.heap (may_write_table cfg who part m th n t) (register th n) m.owners)
kernel-owners cfg who part m th (call.PageFree a) = free-owners m th (freeing cfg.board.heap m.owners who.home.0 (register th a))
kernel-owners cfg who part m th (call.IrqOn n) =
    keeps m (irq_enable_row m th n true (has_line n part.irqs)) false (enable-owners m th n true (has_line n part.irqs))
kernel-owners cfg who part m th (call.IrqOff n) =
    keeps m (irq_enable_row m th n false (has_line n part.irqs)) false (enable-owners m th n false (has_line n part.irqs))
kernel-owners cfg who part m th call.IrqReturn =
    let context = handled_context m.lines part who.home.0 who.thread.0 in
    keeps m (irq_return_row who.home.0 m th context) false (handled-owners who.home.0 m th context)
kernel-owners cfg who part m th (call.GwRead d n) =
    let value = register_read cfg.registers cfg.board m.memory who.home.0 n in
    keeps m (gw_read_row m th d value) false (read-owners m th d value)
kernel-owners cfg who part m th (call.GwWrite s n) =
    let word = register_write cfg.registers cfg.board m.memory who.home.0 n (register th s) in
    keeps m (gw_write_row cfg.board m th word) false (write-owners cfg.board m th word)
kernel-owners cfg who part m th (call.RpcCall d n) =
    let gate = gateway_for who.home.0 (slice_get cfg.gateways n) in
    keeps m (rpc_post_row who m th (posted th d) gate) false (post-owners who m th (posted th d) gate)
kernel-owners cfg who part m th (call.RpcSync n looks) =
    let gate = gateway_for who.home.0 (slice_get cfg.gateways n) in
    keeps m (rpc_post_row who m th (posted_and_waiting th looks) gate) false (post-owners who m th (posted_and_waiting th looks) gate)
kernel-owners cfg who part m th call.RpcTake =
    let serving = served_ticket m.serving who.home.0 in
    keeps m (rpc_take_row m th (is_server who part) serving) false (take-owners m th (is_server who part) serving)
kernel-owners cfg who part m th (call.RpcReturn s) =
    let serving = serving_of who part m.serving in
    keeps m (rpc_return_row who.home.0 m th (register th s) serving) false (return-owners who.home.0 m th (register th s) serving)
kernel-owners cfg who part m th (call.RpcResult d s) =
    let ticket = own_ticket who (register th s) in
    keeps m (rpc_result_row m th d ticket (collected_by ticket m.calls)) false (result-owners m th d ticket (collected_by ticket m.calls))

row-owners : (cfg : Config) (who : Who) (part : BoxPart) (m : Shared) (th : ThreadState) (granted : Bool) (n : Next) →
    KeepsOwners m (row_of cfg who part m th granted n).shared (is_page_turn n) (row_of cfg who part m th granted n).reply
row-owners cfg who part m th granted next.Look = keeps m (waiting_row who m th th.awaited) false (waiting-owners who m th th.awaited)
row-owners cfg who part m th granted (next.Deliver irq) = keeps m (row_of cfg who part m th granted (next.Deliver irq)) false refl
row-owners cfg who part m th granted (next.Local i) = keeps m (row_of cfg who part m th granted (next.Local i)) false refl
row-owners cfg who part m th granted (next.Access access) =
    keeps m (access_row cfg.board m th access granted) false (access-owners cfg.board m th access granted)
row-owners cfg who part m th granted (next.Unaligned at) = keeps m (row_of cfg who part m th granted (next.Unaligned at)) false refl
row-owners cfg who part m th granted (next.Kernel c) = kernel-owners cfg who part m th c
row-owners cfg who part m th granted next.Nowhere = keeps m (row_of cfg who part m th granted next.Nowhere) false refl

-- a turn keeps the owners, but for a page call that was done
pub turn-owners : (cfg : Config) (who : Who) (part : BoxPart) (budget : ℕ) (m : Shared) (th : ThreadState) (granted : Bool) (n : Next) →
    KeepsOwners m (turn_row cfg who part budget m th granted n).shared (is_page_turn n) (turn_row cfg who part budget m th granted n).reply
turn-owners cfg who part budget m th granted n = row-owners cfg who part m (counted th) granted n
