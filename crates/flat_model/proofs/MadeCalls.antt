-- What an event leaves of the calls: how many each thread has made, and how many there are.
use Rattle.std.proofs.Common.{◌≡◌, ℕ, ◌+◌, ◌-◌, ◌≤◌, Bool, true, false, not, cond, Option, Some, None, List, [], ◌∷◌, ◌++◌, refl, sym, ap, ◌∙◌, subst, arith, length, nat_eq, sum_by}
use Rattle.std.specs.Prelude.{◌==◌, Result, Ok, Err}
use Rattle.std.specs.List.{slice_get}
use Rattle.std.proofs.lemmas.Bool.Decides.{nat_tests}
use Rattle.std.proofs.lemmas.List.{length-append, length-map}
use Rattle.std.proofs.lemmas.List.Sums.{sum_by-cons, sum_by_push}
use Rattle.addr_base.specs.declared.identity.Ticket.{Ticket}
use Rattle.addr_base.specs.declared.rights.Kind.{Kind}
use Rattle.addr_base.specs.declared.rights.Kind.TheVariants.{Read, Write, Fetch}
use Rattle.flat_model.specs.declared.accesses.Access.{Access}
use Rattle.flat_model.specs.declared.actors.Who.{Who}
use Rattle.flat_model.specs.declared.boards.Board.{Board}
use Rattle.flat_model.specs.declared.boards.Word.{Word}
use Rattle.flat_model.specs.declared.classes.KernelCall.{KernelCall}
use Rattle.flat_model.specs.declared.classes.KernelCall.TheVariants as call
use Rattle.flat_model.specs.declared.classes.LocalInstr.{LocalInstr}
use Rattle.flat_model.specs.declared.classes.LocalInstr.TheVariants as local
use Rattle.flat_model.specs.declared.events.Collected.{Collected}
use Rattle.flat_model.specs.declared.events.Collected.TheVariants as got
use Rattle.flat_model.specs.declared.events.Reply.{Reply}
use Rattle.flat_model.specs.declared.events.Reply.TheVariants as reply
use Rattle.flat_model.specs.declared.next.Next.{Next}
use Rattle.flat_model.specs.declared.next.Next.TheVariants as next
use Rattle.flat_model.specs.declared.parts.BoxPart.{BoxPart}
use Rattle.flat_model.specs.declared.parts.Config.{Config}
use Rattle.flat_model.specs.declared.parts.RpcGate.{RpcGate}
use Rattle.flat_model.specs.declared.states.Awaited.{Awaited}
use Rattle.flat_model.specs.declared.states.Call.{Call}
use Rattle.flat_model.specs.declared.states.CallState.{CallState}
use Rattle.flat_model.specs.declared.states.CallState.TheVariants as state
use Rattle.flat_model.specs.declared.states.Context.{Context}
use Rattle.flat_model.specs.declared.states.Shared.{Shared}
use Rattle.flat_model.specs.declared.states.ThreadState.{ThreadState}
use Rattle.flat_model.specs.AccessRows.{access_row, performed_row}
use Rattle.flat_model.specs.CallRows.{call_by, gateway_for, is_server, look_row, no_result_row, own_ticket, rpc_post_row, rpc_result_row, rpc_return_row, rpc_take_row, served_ticket, server_row, serving_of, start_row}
use Rattle.flat_model.specs.Calls.{calls_of, collected_by, in_state, is_open_call, next_call, with_state}
use Rattle.flat_model.specs.Interrupts.{handled_context, has_line}
use Rattle.flat_model.specs.LineRows.{irq_enable_row, irq_return_row}
use Rattle.flat_model.specs.Local.{local_row}
use Rattle.flat_model.specs.Outcome.{Outcome}
use Rattle.flat_model.specs.PageRows.{page_free_row, pages_alloc_row}
use Rattle.flat_model.specs.Pages.{allocation, freeing}
use Rattle.flat_model.specs.RegisterRows.{gw_read_row, gw_write_row}
use Rattle.flat_model.specs.Registers.{register_read, register_write}
use Rattle.flat_model.specs.Thread.{counted, moved, register}
use Rattle.flat_model.specs.ThreadEvents.{looking, posted, posted_and_waiting, timed_out}
use Rattle.flat_model.specs.Turn.{kernel_row, may_write_table, row_of, turn_row, waiting_row, within_budget}
use Rattle.flat_model.proofs.Budgets.{bounded-calls}

-- the thread with this number made as many calls as it counted, no other made one, and at most one was made
pub record Makes (t : ℕ) (before after : List Call) (count counted : ℕ) : Type 0 where
  pub own : calls_of t after + count ≡ calls_of t before + counted
  pub others : (u : ℕ) → (u ≡ t → ⊥) → calls_of u after ≡ calls_of u before
  pub few : length after ≤ length before + 1

none : (t : ℕ) (calls : List Call) (count : ℕ) → Makes t calls calls count count
none t calls count = record { own = refl; others = λ u other. refl; few = omega arith }

-- ---- a change of a call's state

abbrev of_thread : ℕ → Call → ℕ
of_thread u call = cond (nat_eq call.ticket.thread.0 u) 1 0

same-thread : (u : ℕ) (ticket : Ticket) (s : CallState) (call : Call) → of_thread u (in_state ticket s call) ≡ of_thread u call
same-thread u ticket s call = by_test (is_open_call ticket call)
  where
    by_test : (b : Bool) → of_thread u (cond b (record call { state = s }) call) ≡ of_thread u call
    by_test true = refl
    by_test false = refl

calls_of-state : (u : ℕ) (ticket : Ticket) (s : CallState) (calls : List Call) → calls_of u (with_state ticket s calls) ≡ calls_of u calls
calls_of-state u ticket s [] = refl
calls_of-state u ticket s (call ∷ calls) =
    sum_by-cons (of_thread u) (in_state ticket s call) (with_state ticket s calls)
    ∙ ap (λ n. n + sum_by (of_thread u) (with_state ticket s calls)) (same-thread u ticket s call)
    ∙ ap (λ n. of_thread u call + n) (calls_of-state u ticket s calls)
    ∙ sym (sum_by-cons (of_thread u) call calls)

changes : (t : ℕ) (ticket : Ticket) (s : CallState) (calls : List Call) (count : ℕ) → Makes t calls (with_state ticket s calls) count count
changes t ticket s calls count =
    let long : length (with_state ticket s calls) ≡ length calls = length-map calls (in_state ticket s) in
    record {
      own = ap (λ n. n + count) (calls_of-state t ticket s calls);
      others = λ u other. calls_of-state u ticket s calls;
      few = omega (arith, long);
    }

-- ---- a call that is posted

own-one : (u : ℕ) (call : Call) → call.ticket.thread.0 ≡ u → of_thread u call ≡ 1
own-one u call is = let same : nat_eq call.ticket.thread.0 u ≡ true = grind (arith, nat_tests) in ap (λ b. cond b 1 0) same

other-none : (u : ℕ) (call : Call) → (u ≡ call.ticket.thread.0 → ⊥) → of_thread u call ≡ 0
other-none u call other =
    let apart : nat_eq call.ticket.thread.0 u ≡ false = grind (arith, nat_tests) in ap (λ b. cond b 1 0) apart

posts : (calls : List Call) (call : Call) (count : ℕ) → Makes call.ticket.thread.0 calls (calls ++ call ∷ []) count (count + 1)
posts calls call count =
    let mine = sum_by_push (of_thread call.ticket.thread.0) calls call in
    let one = own-one call.ticket.thread.0 call refl in
    let long = length-append calls (call ∷ []) in
    record {
      own = ap (λ n. n + count) (mine ∙ ap (λ n. calls_of call.ticket.thread.0 calls + n) one) ∙ omega arith;
      others = λ u other. sum_by_push (of_thread u) calls call ∙ ap (λ n. calls_of u calls + n) (other-none u call other) ∙ omega arith;
      few = omega (arith, long);
    }

-- ---- rows: each leaves the thread's own count with the calls

abbrev pub RowMakes : Who → Shared → ThreadState → Outcome → Type 0
RowMakes who m th out = Makes who.thread.0 m.calls out.shared.calls th.count out.thread.count

still : (t : ℕ) (m : Shared) (th after : ThreadState) → after.count ≡ th.count → Makes t m.calls m.calls th.count after.count
still t m th after same = subst (Makes t m.calls m.calls th.count) (sym same) (none t m.calls th.count)

local-count : (th : ThreadState) (home : ℕ) (i : LocalInstr) → (local_row th home i).0.count ≡ th.count
local-count th home (local.Set d w) = refl
local-count th home (local.Mov d s) = refl
local-count th home (local.Add d a b) = refl
local-count th home (local.Sub d a b) = refl
local-count th home (local.And d a b) = refl
local-count th home (local.Orr d a b) = refl
local-count th home (local.Eor d a b) = refl
local-count th home (local.Jump n) = refl
local-count th home (local.Jz a n) = by_test (register th a == 0)
  where
    by_test : (b : Bool) → (cond b (record th { pc = n }) (moved th)).count ≡ th.count
    by_test true = refl
    by_test false = refl
local-count th home (local.Jnz a n) = by_test (not (register th a == 0))
  where
    by_test : (b : Bool) → (cond b (record th { pc = n }) (moved th)).count ≡ th.count
    by_test true = refl
    by_test false = refl
local-count th home (local.BoxId d) = refl
local-count th home local.Halt = refl

performed-makes : (t : ℕ) (board : Board) (m : Shared) (th : ThreadState) (access : Access) (kind : Kind) →
    Makes t m.calls (performed_row board m th access kind).shared.calls th.count (performed_row board m th access kind).thread.count
performed-makes t board m th access Read = none t m.calls th.count
performed-makes t board m th access Write = none t m.calls th.count
performed-makes t board m th access Fetch = none t m.calls th.count

access-makes : (t : ℕ) (board : Board) (m : Shared) (th : ThreadState) (access : Access) (granted : Bool) →
    Makes t m.calls (access_row board m th access granted).shared.calls th.count (access_row board m th access granted).thread.count
access-makes t board m th access true = performed-makes t board m th access access.kind
access-makes t board m th access false = none t m.calls th.count

late-count : (th : ThreadState) (awaited : Awaited) → (no_result_row th awaited).0.count ≡ th.count
late-count th awaited = by_looks (nat_eq (awaited.looks - 1) 0)
  where
    by_looks : (b : Bool) →
        (cond {A = ThreadState × Reply} b (timed_out th awaited.seq, reply.Status 1) (looking th awaited.seq (awaited.looks - 1), reply.Waiting)).0.count
        ≡ th.count
    by_looks true = refl
    by_looks false = refl

look-makes : (who : Who) (m : Shared) (th : ThreadState) (awaited : Awaited) (answer : Collected) → RowMakes who m th (look_row who m th awaited answer)
look-makes who m th awaited got.Waiting = still who.thread.0 m th (no_result_row th awaited).0 (late-count th awaited)
look-makes who m th awaited (got.Done value) = changes who.thread.0 (own_ticket who awaited.seq) state.Collected m.calls th.count
look-makes who m th awaited got.NoSuch = still who.thread.0 m th (no_result_row th awaited).0 (late-count th awaited)

waiting-makes : (who : Who) (m : Shared) (th : ThreadState) (awaited : Option Awaited) → RowMakes who m th (waiting_row who m th awaited)
waiting-makes who m th None = none who.thread.0 m.calls th.count
waiting-makes who m th (Some awaited) = look-makes who m th awaited (collected_by (own_ticket who awaited.seq) m.calls)

alloc-makes : (who : Who) (board : Board) (b : ℕ) (m : Shared) (th : ThreadState) (table : ℕ) (answer : Result (List ℕ) ℕ) →
    RowMakes who m th (pages_alloc_row board b m th table answer)
alloc-makes who board b m th table (Err status) = none who.thread.0 m.calls th.count
alloc-makes who board b m th table (Ok frames) = none who.thread.0 m.calls th.count

free-makes : (who : Who) (m : Shared) (th : ThreadState) (answer : Result ℕ ℕ) → RowMakes who m th (page_free_row m th answer)
free-makes who m th (Err status) = none who.thread.0 m.calls th.count
free-makes who m th (Ok frame) = none who.thread.0 m.calls th.count

enable-makes : (who : Who) (m : Shared) (th : ThreadState) (line : ℕ) (on own : Bool) → RowMakes who m th (irq_enable_row m th line on own)
enable-makes who m th line on true = none who.thread.0 m.calls th.count
enable-makes who m th line on false = none who.thread.0 m.calls th.count

handled-makes : (who : Who) (b : ℕ) (m : Shared) (th : ThreadState) (context : Option Context) → RowMakes who m th (irq_return_row b m th context)
handled-makes who b m th None = none who.thread.0 m.calls th.count
handled-makes who b m th (Some context) = none who.thread.0 m.calls th.count

read-makes : (who : Who) (m : Shared) (th : ThreadState) (r : ℕ) (value : Option ℕ) → RowMakes who m th (gw_read_row m th r value)
read-makes who m th r None = none who.thread.0 m.calls th.count
read-makes who m th r (Some value) = none who.thread.0 m.calls th.count

write-makes : (who : Who) (board : Board) (m : Shared) (th : ThreadState) (word : Option Word) → RowMakes who m th (gw_write_row board m th word)
write-makes who board m th None = none who.thread.0 m.calls th.count
write-makes who board m th (Some word) = none who.thread.0 m.calls th.count

post-makes : (who : Who) (m : Shared) (th after : ThreadState) (gate : Option RpcGate) → after.count ≡ th.count + 1 →
    RowMakes who m th (rpc_post_row who m th after gate)
post-makes who m th after None more = none who.thread.0 m.calls th.count
post-makes who m th after (Some gate) more = by_room who.room
  where
    by_room : (b : Bool) → RowMakes who m th (rpc_post_row (record who { room = b }) m th after (Some gate))
    by_room true = subst (Makes who.thread.0 m.calls (m.calls ++ call_by who th gate ∷ []) th.count) (sym more) (posts m.calls (call_by who th gate) th.count)
    by_room false = none who.thread.0 m.calls th.count

take-makes : (who : Who) (m : Shared) (th : ThreadState) (server : Bool) (serving : Option Ticket) → RowMakes who m th (rpc_take_row m th server serving)
take-makes who m th false serving = none who.thread.0 m.calls th.count
take-makes who m th true (Some ticket) = none who.thread.0 m.calls th.count
take-makes who m th true None = none who.thread.0 m.calls th.count

return-makes : (who : Who) (b : ℕ) (m : Shared) (th : ThreadState) (v : ℕ) (serving : Option Ticket) → RowMakes who m th (rpc_return_row b m th v serving)
return-makes who b m th v None = none who.thread.0 m.calls th.count
return-makes who b m th v (Some ticket) = changes who.thread.0 ticket (state.Done v) m.calls th.count

result-makes : (who : Who) (m : Shared) (th : ThreadState) (r : ℕ) (ticket : Ticket) (answer : Collected) →
    RowMakes who m th (rpc_result_row m th r ticket answer)
result-makes who m th r ticket got.Waiting = none who.thread.0 m.calls th.count
result-makes who m th r ticket (got.Done value) = changes who.thread.0 ticket state.Collected m.calls th.count
result-makes who m th r ticket got.NoSuch = none who.thread.0 m.calls th.count

kernel-makes : (cfg : Config) (who : Who) (part : BoxPart) (m : Shared) (th : ThreadState) (c : KernelCall) →
    RowMakes who m th (kernel_row cfg who part m th c)
kernel-makes cfg who part m th (call.PagesAlloc n t) =
    alloc-makes who cfg.board who.home.0 m th (register th t) (allocation cfg.board.heap (may_write_table cfg who part m th n t) (register th n) m.owners)
kernel-makes cfg who part m th (call.PageFree a) = free-makes who m th (freeing cfg.board.heap m.owners who.home.0 (register th a))
kernel-makes cfg who part m th (call.IrqOn n) = enable-makes who m th n true (has_line n part.irqs)
kernel-makes cfg who part m th (call.IrqOff n) = enable-makes who m th n false (has_line n part.irqs)
kernel-makes cfg who part m th call.IrqReturn =
    handled-makes who who.home.0 m th (handled_context m.lines part who.home.0 who.thread.0)
kernel-makes cfg who part m th (call.GwRead d n) =
    read-makes who m th d (register_read cfg.registers cfg.board m.memory who.home.0 n)
kernel-makes cfg who part m th (call.GwWrite s n) =
    write-makes who cfg.board m th (register_write cfg.registers cfg.board m.memory who.home.0 n (register th s))
kernel-makes cfg who part m th (call.RpcCall d n) =
    post-makes who m th (posted th d) (gateway_for who.home.0 (slice_get cfg.gateways n)) refl
kernel-makes cfg who part m th (call.RpcSync n looks) =
    post-makes who m th (posted_and_waiting th looks) (gateway_for who.home.0 (slice_get cfg.gateways n)) refl
kernel-makes cfg who part m th call.RpcTake = take-makes who m th (is_server who part) (served_ticket m.serving who.home.0)
kernel-makes cfg who part m th (call.RpcReturn s) = return-makes who who.home.0 m th (register th s) (serving_of who part m.serving)
kernel-makes cfg who part m th (call.RpcResult d s) =
    result-makes who m th d (own_ticket who (register th s)) (collected_by (own_ticket who (register th s)) m.calls)

row-makes : (cfg : Config) (who : Who) (part : BoxPart) (m : Shared) (th : ThreadState) (granted : Bool) (n : Next) →
    RowMakes who m th (row_of cfg who part m th granted n)
row-makes cfg who part m th granted next.Look = waiting-makes who m th th.awaited
row-makes cfg who part m th granted (next.Deliver irq) = none who.thread.0 m.calls th.count
row-makes cfg who part m th granted (next.Local i) = still who.thread.0 m th (local_row th who.home.0 i).0 (local-count th who.home.0 i)
row-makes cfg who part m th granted (next.Access access) = access-makes who.thread.0 cfg.board m th access granted
row-makes cfg who part m th granted (next.Unaligned at) = none who.thread.0 m.calls th.count
row-makes cfg who part m th granted (next.Kernel c) = kernel-makes cfg who part m th c
row-makes cfg who part m th granted next.Nowhere = none who.thread.0 m.calls th.count

start-makes : (t : ℕ) (cfg : Config) (b : ℕ) (m : Shared) (th : ThreadState) (ticket : Ticket) (next : Option Call) →
    Makes t m.calls (start_row cfg b m th ticket next).shared.calls th.count (start_row cfg b m th ticket next).thread.count
start-makes t cfg b m th ticket None = none t m.calls th.count
start-makes t cfg b m th ticket (Some call) = changes t ticket state.Started m.calls th.count

server-makes : (t : ℕ) (cfg : Config) (b : ℕ) (m : Shared) (th : ThreadState) (ticket : Option Ticket) →
    Makes t m.calls (server_row cfg b m th ticket).shared.calls th.count (server_row cfg b m th ticket).thread.count
server-makes t cfg b m th None = none t m.calls th.count
server-makes t cfg b m th (Some ticket) = start-makes t cfg b m th ticket (next_call ticket b m.calls)

-- ---- an event of a thread that has not ended

pub within-makes : (t : ℕ) (calls : List Call) (count budget : ℕ) (out : Outcome) → Makes t calls out.shared.calls count out.thread.count →
    Makes t calls (within_budget budget out).shared.calls count (within_budget budget out).thread.count
within-makes t calls count budget out row =
    subst (Makes t calls out.shared.calls count) (sym (bounded-calls budget out.thread)) row

-- a turn
pub turn-makes : (cfg : Config) (who : Who) (part : BoxPart) (budget : ℕ) (m : Shared) (th : ThreadState) (granted : Bool) (n : Next) →
    RowMakes who m th (turn_row cfg who part budget m th granted n)
turn-makes cfg who part budget m th granted n =
    within-makes who.thread.0 m.calls th.count budget (row_of cfg who part m (counted th) granted n) (row-makes cfg who part m (counted th) granted n)

-- a server's event
pub serve-makes : (t : ℕ) (cfg : Config) (b budget : ℕ) (m : Shared) (th : ThreadState) (ticket : Option Ticket) →
    Makes t m.calls (within_budget budget (server_row cfg b m (counted th) ticket)).shared.calls th.count
    (within_budget budget (server_row cfg b m (counted th) ticket)).thread.count
serve-makes t cfg b budget m th ticket =
    within-makes t m.calls th.count budget (server_row cfg b m (counted th) ticket) (server-makes t cfg b m (counted th) ticket)
