-- How steps and calls are counted, and that budgets bound the steps.
use Rattle.std.proofs.Common.{◌≡◌, ℕ, ◌+◌, ◌-◌, ◌<◌, ◌≤◌, Bool, true, false, not, cond, Option, Some, None, List, refl, sym, ◌∙◌, arith, nat_eq, nat_le}
use Rattle.std.specs.Prelude.{◌==◌, Result, Ok, Err}
use Rattle.std.specs.List.{slice_get}
use Rattle.std.proofs.lemmas.Bool.{true≢false}
use Rattle.std.proofs.lemmas.Bool.Decides.{nat_tests}
use Rattle.addr_base.specs.declared.identity.Ticket.{Ticket}
use Rattle.addr_base.specs.declared.rights.Kind.{Kind}
use Rattle.addr_base.specs.declared.rights.Kind.TheVariants.{Read, Write, Fetch}
use Rattle.flat_model.specs.declared.accesses.Access.{Access}
use Rattle.flat_model.specs.declared.actors.Who.{Who}
use Rattle.flat_model.specs.declared.boards.Board.{Board}
use Rattle.flat_model.specs.declared.boards.Word.{Word}
use Rattle.flat_model.specs.declared.classes.KernelCall.{KernelCall}
use Rattle.flat_model.specs.declared.classes.KernelCall.TheVariants as call
use Rattle.flat_model.specs.declared.classes.LocalInstr.{LocalInstr}
use Rattle.flat_model.specs.declared.classes.LocalInstr.TheVariants as local
use Rattle.flat_model.specs.declared.events.Collected.{Collected}
use Rattle.flat_model.specs.declared.events.Collected.TheVariants as got
use Rattle.flat_model.specs.declared.events.Mode.{Mode}
use Rattle.flat_model.specs.declared.events.Mode.TheVariants as mode
use Rattle.flat_model.specs.declared.events.Reply.{Reply}
use Rattle.flat_model.specs.declared.events.Reply.TheVariants as reply
use Rattle.flat_model.specs.declared.next.Next.{Next}
use Rattle.flat_model.specs.declared.next.Next.TheVariants as next
use Rattle.flat_model.specs.declared.parts.BoxPart.{BoxPart}
use Rattle.flat_model.specs.declared.parts.Config.{Config}
use Rattle.flat_model.specs.declared.parts.RpcGate.{RpcGate}
use Rattle.flat_model.specs.declared.states.Awaited.{Awaited}
use Rattle.flat_model.specs.declared.states.Call.{Call}
use Rattle.flat_model.specs.declared.states.Context.{Context}
use Rattle.flat_model.specs.declared.states.Shared.{Shared}
use Rattle.flat_model.specs.declared.states.ThreadState.{ThreadState}
use Rattle.flat_model.specs.AccessRows.{access_row, performed_row}
use Rattle.flat_model.specs.CallRows.{gateway_for, is_server, no_result_row, look_row, own_ticket, rpc_post_row, rpc_result_row, rpc_return_row, rpc_take_row, served_ticket, server_row, serving_of, start_row}
use Rattle.flat_model.specs.Calls.{collected_by, next_call}
use Rattle.flat_model.specs.Interrupts.{handled_context, has_line}
use Rattle.flat_model.specs.LineRows.{irq_enable_row, irq_return_row}
use Rattle.flat_model.specs.Local.{local_row}
use Rattle.flat_model.specs.Outcome.{Outcome}
use Rattle.flat_model.specs.PageRows.{page_free_row, pages_alloc_row}
use Rattle.flat_model.specs.Pages.{allocation, freeing}
use Rattle.flat_model.specs.RegisterRows.{gw_read_row, gw_write_row}
use Rattle.flat_model.specs.Registers.{register_read, register_write}
use Rattle.flat_model.specs.Stepping.{HasSteps}
use Rattle.flat_model.specs.Thread.{bounded, counted, has_ended, is_stopped, moved, register}
use Rattle.flat_model.specs.ThreadEvents.{looking, posted, posted_and_waiting, timed_out}
use Rattle.flat_model.specs.Turn.{kernel_row, may_write_table, row_of, turn_row, waiting_row, within_budget}

stopped-ended : (th : ThreadState) (m : Mode) → is_stopped m ≡ true → has_ended (record th { mode = m }) ≡ true
stopped-ended th mode.Ready stopped = cc
stopped-ended th mode.Waiting stopped = cc
stopped-ended th mode.Halted stopped = refl
stopped-ended th mode.Faulted stopped = refl
stopped-ended th mode.Spent stopped = refl

within-by : (budget : ℕ) (th : ThreadState) (stopped spent : Bool) →
    is_stopped th.mode ≡ stopped → nat_le budget th.steps ≡ spent →
    has_ended (cond stopped th (cond spent (record th { mode = mode.Spent }) th)) ≡ false →
    (cond stopped th (cond spent (record th { mode = mode.Spent }) th)).steps < budget
within-by budget th true spent stopped_is spent_is live =
    absurd (let ended : has_ended th ≡ true = stopped-ended th th.mode stopped_is in true≢false (sym ended ∙ live))
within-by budget th false true stopped_is spent_is live = absurd (true≢false live)
within-by budget th false false stopped_is spent_is live = grind (arith, nat_tests)

-- a thread that may still run has steps below its budget
pub bounded-within : (budget : ℕ) (th : ThreadState) →
    has_ended (bounded budget th) ≡ false → (bounded budget th).steps < budget
bounded-within budget th live = within-by budget th (is_stopped th.mode) (nat_le budget th.steps) refl refl live

-- no step of its own is counted, and at most one call
pub record Counts (before after : ThreadState) : Type 0 where
  pub steps : after.steps ≡ before.steps
  pub calls : after.count ≤ before.count + 1

counts : (before after : ThreadState) → after.steps ≡ before.steps → after.count ≡ before.count → Counts before after
counts before after steps calls = record { steps = steps; calls = omega (arith, calls) }

bounded-steps : (budget : ℕ) (th : ThreadState) → (bounded budget th).steps ≡ th.steps
bounded-steps budget th = by_tests (is_stopped th.mode) (nat_le budget th.steps)
  where
    by_tests : (stopped spent : Bool) → (cond stopped th (cond spent (record th { mode = mode.Spent }) th)).steps ≡ th.steps
    by_tests true spent = refl
    by_tests false true = refl
    by_tests false false = refl

pub bounded-calls : (budget : ℕ) (th : ThreadState) → (bounded budget th).count ≡ th.count
bounded-calls budget th = by_tests (is_stopped th.mode) (nat_le budget th.steps)
  where
    by_tests : (stopped spent : Bool) → (cond stopped th (cond spent (record th { mode = mode.Spent }) th)).count ≡ th.count
    by_tests true spent = refl
    by_tests false true = refl
    by_tests false false = refl

-- ---- rows

branch-counts : (th : ThreadState) (place : ℕ) (b : Bool) → Counts th (cond b (record th { pc = place }) (moved th))
branch-counts th place true = counts th (record th { pc = place }) refl refl
branch-counts th place false = counts th (moved th) refl refl

local-counts : (th : ThreadState) (home : ℕ) (i : LocalInstr) → Counts th (local_row th home i).0
local-counts th home (local.Set d w) = counts th _ refl refl
local-counts th home (local.Mov d s) = counts th _ refl refl
local-counts th home (local.Add d a b) = counts th _ refl refl
local-counts th home (local.Sub d a b) = counts th _ refl refl
local-counts th home (local.And d a b) = counts th _ refl refl
local-counts th home (local.Orr d a b) = counts th _ refl refl
local-counts th home (local.Eor d a b) = counts th _ refl refl
local-counts th home (local.Jump n) = counts th _ refl refl
local-counts th home (local.Jz a n) = branch-counts th n (register th a == 0)
local-counts th home (local.Jnz a n) = branch-counts th n (not (register th a == 0))
local-counts th home (local.BoxId d) = counts th _ refl refl
local-counts th home local.Halt = counts th _ refl refl

performed-counts : (board : Board) (m : Shared) (th : ThreadState) (access : Access) (kind : Kind) →
    Counts th (performed_row board m th access kind).thread
performed-counts board m th access Read = counts th _ refl refl
performed-counts board m th access Write = counts th _ refl refl
performed-counts board m th access Fetch = counts th _ refl refl

access-counts : (board : Board) (m : Shared) (th : ThreadState) (access : Access) (granted : Bool) →
    Counts th (access_row board m th access granted).thread
access-counts board m th access true = performed-counts board m th access access.kind
access-counts board m th access false = counts th _ refl refl

late-counts : (th : ThreadState) (awaited : Awaited) → Counts th (no_result_row th awaited).0
late-counts th awaited = by_looks (nat_eq (awaited.looks - 1) 0)
  where
    by_looks : (b : Bool) → Counts th
        (cond {A = ThreadState × Reply} b (timed_out th awaited.seq, reply.Status 1) (looking th awaited.seq (awaited.looks - 1), reply.Waiting)).0
    by_looks true = counts th (timed_out th awaited.seq) refl refl
    by_looks false = counts th (looking th awaited.seq (awaited.looks - 1)) refl refl

look-counts : (who : Who) (m : Shared) (th : ThreadState) (awaited : Awaited) (answer : Collected) →
    Counts th (look_row who m th awaited answer).thread
look-counts who m th awaited got.Waiting = late-counts th awaited
look-counts who m th awaited (got.Done value) = counts th _ refl refl
look-counts who m th awaited got.NoSuch = late-counts th awaited

waiting-counts : (who : Who) (m : Shared) (th : ThreadState) (awaited : Option Awaited) →
    Counts th (waiting_row who m th awaited).thread
waiting-counts who m th None = counts th th refl refl
waiting-counts who m th (Some awaited) = look-counts who m th awaited (collected_by (own_ticket who awaited.seq) m.calls)

alloc-counts : (board : Board) (b : ℕ) (m : Shared) (th : ThreadState) (table : ℕ) (answer : Result (List ℕ) ℕ) →
    Counts th (pages_alloc_row board b m th table answer).thread
alloc-counts board b m th table (Err status) = counts th _ refl refl
alloc-counts board b m th table (Ok frames) = counts th _ refl refl

free-counts : (m : Shared) (th : ThreadState) (answer : Result ℕ ℕ) → Counts th (page_free_row m th answer).thread
free-counts m th (Err status) = counts th _ refl refl
free-counts m th (Ok frame) = counts th _ refl refl

enable-counts : (m : Shared) (th : ThreadState) (line : ℕ) (on own : Bool) → Counts th (irq_enable_row m th line on own).thread
enable-counts m th line on true = counts th _ refl refl
enable-counts m th line on false = counts th _ refl refl

handled-counts : (b : ℕ) (m : Shared) (th : ThreadState) (context : Option Context) → Counts th (irq_return_row b m th context).thread
handled-counts b m th None = counts th _ refl refl
handled-counts b m th (Some context) = counts th _ refl refl

read-counts : (m : Shared) (th : ThreadState) (r : ℕ) (value : Option ℕ) → Counts th (gw_read_row m th r value).thread
read-counts m th r None = counts th _ refl refl
read-counts m th r (Some value) = counts th _ refl refl

write-counts : (board : Board) (m : Shared) (th : ThreadState) (word : Option Word) → Counts th (gw_write_row board m th word).thread
write-counts board m th None = counts th _ refl refl
write-counts board m th (Some word) = counts th _ refl refl

post-counts : (who : Who) (m : Shared) (th after : ThreadState) (gate : Option RpcGate) → Counts th after →
    Counts th (rpc_post_row who m th after gate).thread
post-counts who m th after None posts = counts th _ refl refl
post-counts who m th after (Some gate) posts = by_room who.room
  where
    by_room : (b : Bool) → Counts th (rpc_post_row (record who { room = b }) m th after (Some gate)).thread
    by_room true = posts
    by_room false = counts th _ refl refl

take-counts : (m : Shared) (th : ThreadState) (server : Bool) (serving : Option Ticket) → Counts th (rpc_take_row m th server serving).thread
take-counts m th false serving = counts th _ refl refl
take-counts m th true (Some ticket) = counts th _ refl refl
take-counts m th true None = counts th _ refl refl

return-counts : (b : ℕ) (m : Shared) (th : ThreadState) (v : ℕ) (serving : Option Ticket) → Counts th (rpc_return_row b m th v serving).thread
return-counts b m th v None = counts th _ refl refl
return-counts b m th v (Some ticket) = counts th _ refl refl

result-counts : (m : Shared) (th : ThreadState) (r : ℕ) (ticket : Ticket) (answer : Collected) →
    Counts th (rpc_result_row m th r ticket answer).thread
result-counts m th r ticket got.Waiting = counts th _ refl refl
result-counts m th r ticket (got.Done value) = counts th _ refl refl
result-counts m th r ticket got.NoSuch = counts th _ refl refl

kernel-counts : (cfg : Config) (who : Who) (part : BoxPart) (m : Shared) (th : ThreadState) (c : KernelCall) →
    Counts th (kernel_row cfg who part m th c).thread
kernel-counts cfg who part m th (call.PagesAlloc n t) =
    alloc-counts cfg.board who.home.0 m th (register th t) (allocation cfg.board.heap (may_write_table cfg who part m th n t) (register th n) m.owners)
kernel-counts cfg who part m th (call.PageFree a) = free-counts m th (freeing cfg.board.heap m.owners who.home.0 (register th a))
kernel-counts cfg who part m th (call.IrqOn n) = enable-counts m th n true (has_line n part.irqs)
kernel-counts cfg who part m th (call.IrqOff n) = enable-counts m th n false (has_line n part.irqs)
kernel-counts cfg who part m th call.IrqReturn =
    handled-counts who.home.0 m th (handled_context m.lines part who.home.0 who.thread.0)
kernel-counts cfg who part m th (call.GwRead d n) =
    read-counts m th d (register_read cfg.registers cfg.board m.memory who.home.0 n)
kernel-counts cfg who part m th (call.GwWrite s n) =
    write-counts cfg.board m th (register_write cfg.registers cfg.board m.memory who.home.0 n (register th s))
kernel-counts cfg who part m th (call.RpcCall d n) =
    post-counts who m th (posted th d) (gateway_for who.home.0 (slice_get cfg.gateways n)) (record { steps = refl; calls = omega arith })
kernel-counts cfg who part m th (call.RpcSync n looks) =
    post-counts who m th (posted_and_waiting th looks) (gateway_for who.home.0 (slice_get cfg.gateways n)) (record { steps = refl; calls = omega arith })
kernel-counts cfg who part m th call.RpcTake = take-counts m th (is_server who part) (served_ticket m.serving who.home.0)
kernel-counts cfg who part m th (call.RpcReturn s) = return-counts who.home.0 m th (register th s) (serving_of who part m.serving)
kernel-counts cfg who part m th (call.RpcResult d s) =
    result-counts m th d (own_ticket who (register th s)) (collected_by (own_ticket who (register th s)) m.calls)

row-counts : (cfg : Config) (who : Who) (part : BoxPart) (m : Shared) (th : ThreadState) (granted : Bool) (n : Next) →
    Counts th (row_of cfg who part m th granted n).thread
row-counts cfg who part m th granted next.Look = waiting-counts who m th th.awaited
row-counts cfg who part m th granted (next.Deliver irq) = counts th _ refl refl
row-counts cfg who part m th granted (next.Local i) = local-counts th who.home.0 i
row-counts cfg who part m th granted (next.Access access) = access-counts cfg.board m th access granted
row-counts cfg who part m th granted (next.Unaligned at) = counts th _ refl refl
row-counts cfg who part m th granted (next.Kernel c) = kernel-counts cfg who part m th c
row-counts cfg who part m th granted next.Nowhere = counts th _ refl refl

start-counts : (cfg : Config) (b : ℕ) (m : Shared) (th : ThreadState) (ticket : Ticket) (next : Option Call) →
    Counts th (start_row cfg b m th ticket next).thread
start-counts cfg b m th ticket None = counts th _ refl refl
start-counts cfg b m th ticket (Some call) = counts th _ refl refl

server-counts : (cfg : Config) (b : ℕ) (m : Shared) (th : ThreadState) (ticket : Option Ticket) →
    Counts th (server_row cfg b m th ticket).thread
server-counts cfg b m th None = counts th _ refl refl
server-counts cfg b m th (Some ticket) = start-counts cfg b m th ticket (next_call ticket b m.calls)

-- ---- an event of a thread that has not ended

-- one step is counted, and at most one call
pub record CountsOne (before after : ThreadState) : Type 0 where
  pub steps : after.steps ≡ before.steps + 1
  pub calls : after.count ≤ before.count + 1

counts_one : (budget : ℕ) (before : ThreadState) (out : Outcome) → Counts (counted before) out.thread →
    CountsOne before (within_budget budget out).thread
counts_one budget before out row = record {
  steps = bounded-steps budget out.thread ∙ row.steps;
  calls = omega (arith, bounded-calls budget out.thread, row.calls);
}

pub turn-counts : (cfg : Config) (who : Who) (part : BoxPart) (budget : ℕ) (m : Shared) (th : ThreadState) (granted : Bool) (n : Next) →
    CountsOne th (turn_row cfg who part budget m th granted n).thread
turn-counts cfg who part budget m th granted n =
    counts_one budget th (row_of cfg who part m (counted th) granted n) (row-counts cfg who part m (counted th) granted n)

pub serve-counts : (cfg : Config) (b budget : ℕ) (m : Shared) (th : ThreadState) (ticket : Option Ticket) →
    CountsOne th (within_budget budget (server_row cfg b m (counted th) ticket)).thread
serve-counts cfg b budget m th ticket =
    counts_one budget th (server_row cfg b m (counted th) ticket) (server-counts cfg b m (counted th) ticket)

-- a thread that may still run after an event has steps left
pub has_steps : (budget : ℕ) (before : ThreadState) (out : Outcome) → before.count ≤ before.steps →
    CountsOne before (within_budget budget out).thread →
    has_ended (within_budget budget out).thread ≡ false → HasSteps budget (within_budget budget out).thread
has_steps budget before out few one live = record {
  steps = bounded-within budget out.thread live;
  calls = omega (arith, few, one.steps, one.calls);
}
