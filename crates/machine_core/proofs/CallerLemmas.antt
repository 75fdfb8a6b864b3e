-- Each call that was made is of a thread of the configuration.
use Rattle.std.proofs.Common.{◌≡◌, ℕ, ◌<◌, Bool, true, false, ◌&&◌, cond, Option, Some, None, List, [], ◌∷◌, length, refl, sym, subst, arith}
use Rattle.std.specs.Prelude.{find}
use Rattle.std.proofs.lemmas.Bool.{and_parts}
use Rattle.std.proofs.lemmas.Bool.Decides.{nat_tests}
use Rattle.addr_base.specs.declared.identity.ThreadId.{ThreadId}
use Rattle.addr_base.specs.declared.identity.Ticket.{Ticket}
use Rattle.addr_base.specs.declared.rights.Kind.{Kind}
use Rattle.addr_base.specs.declared.rights.Kind.TheVariants.{Read, Write, Fetch}
use Rattle.flat_model.specs.declared.accesses.Access.{Access}
use Rattle.flat_model.specs.declared.actors.Who.{Who}
use Rattle.flat_model.specs.declared.boards.Board.{Board}
use Rattle.flat_model.specs.declared.boards.Word.{Word}
use Rattle.flat_model.specs.declared.classes.KernelCall.{KernelCall}
use Rattle.flat_model.specs.declared.classes.KernelCall.TheVariants as call
use Rattle.flat_model.specs.declared.events.Choice.{Choice}
use Rattle.flat_model.specs.declared.events.Choice.TheVariants as choice
use Rattle.flat_model.specs.declared.events.Collected.{Collected}
use Rattle.flat_model.specs.declared.events.Collected.TheVariants as got
use Rattle.flat_model.specs.declared.events.Reply.{Reply}
use Rattle.flat_model.specs.declared.next.Next.{Next}
use Rattle.flat_model.specs.declared.next.Next.TheVariants as next
use Rattle.flat_model.specs.declared.parts.BoxPart.{BoxPart}
use Rattle.flat_model.specs.declared.parts.Config.{Config}
use Rattle.flat_model.specs.declared.parts.RpcGate.{RpcGate}
use Rattle.flat_model.specs.declared.states.Awaited.{Awaited}
use Rattle.flat_model.specs.declared.states.Call.{Call}
use Rattle.flat_model.specs.declared.states.CallState.{CallState}
use Rattle.flat_model.specs.declared.states.CallState.TheVariants as state
use Rattle.flat_model.specs.declared.states.Context.{Context}
use Rattle.flat_model.specs.declared.states.Flat.{Flat}
use Rattle.flat_model.specs.declared.states.Shared.{Shared}
use Rattle.flat_model.specs.declared.states.ThreadState.{ThreadState}
use Rattle.std.specs.Prelude.{Result, Ok, Err, slice_get}
use Rattle.flat_model.specs.AccessRows.{access_row, performed_row}
use Rattle.flat_model.specs.Actors.{Actor, actor_of, who_acts}
use Rattle.flat_model.specs.CallRows.{gateway_for, is_server, look_row, own_ticket, rpc_post_row, rpc_result_row, rpc_return_row, rpc_take_row, served_ticket, server_row, serving_of, start_row}
use Rattle.flat_model.specs.Calls.{collected_by, in_state, is_open_call, next_call, with_state}
use Rattle.flat_model.specs.Interrupts.{handled_context, has_line}
use Rattle.flat_model.specs.LineRows.{irq_enable_row, irq_return_row}
use Rattle.flat_model.specs.Next.{holds_next, next_of_actor}
use Rattle.flat_model.specs.Outcome.{Outcome}
use Rattle.flat_model.specs.PageRows.{page_free_row, pages_alloc_row}
use Rattle.flat_model.specs.Pages.{allocation, freeing}
use Rattle.flat_model.specs.RegisterRows.{gw_read_row, gw_write_row}
use Rattle.flat_model.specs.Registers.{register_read, register_write}
use Rattle.flat_model.specs.Step.{fitting_step, serve_by, step, turn_by}
use Rattle.flat_model.specs.Thread.{counted, register}
use Rattle.flat_model.specs.ThreadEvents.{posted, posted_and_waiting}
use Rattle.flat_model.specs.Turn.{kernel_row, may_write_table, row_of, waiting_row}
use Rattle.flat_model.specs.Want.{fits, fits_with_room, fits_without_room, is_thread, want_of}
use Rattle.flat_model.proofs.Elements.{each-append, each-map}
use Rattle.flat_model.proofs.StepCases.{step-fits, step-unfit}
use Rattle.machine_core.specs.Kept.{HasCallers}

module _ (cfg : Config) where
  in_state-ticket : (ticket : Ticket) (s : CallState) (c : Call) → (in_state ticket s c).ticket ≡ c.ticket
  in_state-ticket ticket s c = by_open (is_open_call ticket c)
    where
      by_open : (b : Bool) → (cond b (record c { state = s }) c).ticket ≡ c.ticket
      by_open true = refl
      by_open false = refl

  -- a call's state says nothing of its thread
  pub with_state-callers : (ticket : Ticket) (s : CallState) (calls : List Call) → HasCallers cfg calls → HasCallers cfg (with_state ticket s calls)
  with_state-callers ticket s calls has =
      each-map (in_state ticket s) (λ (c : Call). c.ticket.thread.0 < length cfg.threads) (λ (c : Call). c.ticket.thread.0 < length cfg.threads)
      (λ c below. subst (λ (k : Ticket). k.thread.0 < length cfg.threads) (sym (in_state-ticket ticket s c)) below) calls has

  -- ---- rows

  -- what a row leaves
  abbrev Keeps : Shared → Outcome → Type 0
  Keeps m out = HasCallers cfg m.calls → HasCallers cfg out.shared.calls

  performed-callers : (board : Board) (m : Shared) (th : ThreadState) (access : Access) (kind : Kind) → Keeps m (performed_row board m th access kind)
  performed-callers board m th access Read has = has
  performed-callers board m th access Write has = has
  performed-callers board m th access Fetch has = has

  access-callers : (board : Board) (m : Shared) (th : ThreadState) (access : Access) (granted : Bool) → Keeps m (access_row board m th access granted)
  access-callers board m th access true has = performed-callers board m th access access.kind has
  access-callers board m th access false has = has

  alloc-callers : (board : Board) (b : ℕ) (m : Shared) (th : ThreadState) (table : ℕ) (answer : Result (List ℕ) ℕ) →
      Keeps m (pages_alloc_row board b m th table answer)
  alloc-callers board b m th table (Err status) has = has
  alloc-callers board b m th table (Ok frames) has = has

  free-callers : (m : Shared) (th : ThreadState) (answer : Result ℕ ℕ) → Keeps m (page_free_row m th answer)
  free-callers m th (Err status) has = has
  free-callers m th (Ok frame) has = has

  enable-callers : (m : Shared) (th : ThreadState) (line : ℕ) (on own : Bool) → Keeps m (irq_enable_row m th line on own)
  enable-callers m th line on true has = has
  enable-callers m th line on false has = has

  handled-callers : (b : ℕ) (m : Shared) (th : ThreadState) (context : Option Context) → Keeps m (irq_return_row b m th context)
  handled-callers b m th None has = has
  handled-callers b m th (Some context) has = has

  read-callers : (m : Shared) (th : ThreadState) (r : ℕ) (value : Option ℕ) → Keeps m (gw_read_row m th r value)
  read-callers m th r None has = has
  read-callers m th r (Some value) has = has

  write-callers : (board : Board) (m : Shared) (th : ThreadState) (word : Option Word) → Keeps m (gw_write_row board m th word)
  write-callers board m th None has = has
  write-callers board m th (Some word) has = has

  post-callers : (who : Who) (m : Shared) (th after : ThreadState) (gate : Option RpcGate) → who.thread.0 < length cfg.threads →
      Keeps m (rpc_post_row who m th after gate)
  post-callers who m th after None there has = has
  post-callers who m th after (Some gate) there has = by_room who.room
    where
      by_room : (b : Bool) → HasCallers cfg (rpc_post_row (record who { room = b }) m th after (Some gate)).shared.calls
      by_room true = each-append (λ (c : Call). c.ticket.thread.0 < length cfg.threads) m.calls _ has (there, tt)
      by_room false = has

  take-callers : (m : Shared) (th : ThreadState) (server : Bool) (serving : Option Ticket) → Keeps m (rpc_take_row m th server serving)
  take-callers m th false serving has = has
  take-callers m th true None has = has
  take-callers m th true (Some ticket) has = has

  return-callers : (b : ℕ) (m : Shared) (th : ThreadState) (v : ℕ) (serving : Option Ticket) → Keeps m (rpc_return_row b m th v serving)
  return-callers b m th v None has = has
  return-callers b m th v (Some ticket) has = with_state-callers ticket (state.Done v) m.calls has

  result-callers : (m : Shared) (th : ThreadState) (r : ℕ) (ticket : Ticket) (answer : Collected) → Keeps m (rpc_result_row m th r ticket answer)
  result-callers m th r ticket got.Waiting has = has
  result-callers m th r ticket (got.Done value) has = with_state-callers ticket state.Collected m.calls has
  result-callers m th r ticket got.NoSuch has = has

  look-callers : (who : Who) (m : Shared) (th : ThreadState) (awaited : Awaited) (answer : Collected) → Keeps m (look_row who m th awaited answer)
  look-callers who m th awaited got.Waiting has = has
  look-callers who m th awaited (got.Done value) has = with_state-callers (own_ticket who awaited.seq) state.Collected m.calls has
  look-callers who m th awaited got.NoSuch has = has

  waiting-callers : (who : Who) (m : Shared) (th : ThreadState) (awaited : Option Awaited) → Keeps m (waiting_row who m th awaited)
  waiting-callers who m th None has = has
  waiting-callers who m th (Some awaited) has = look-callers who m th awaited (collected_by (own_ticket who awaited.seq) m.calls) has

  kernel-callers : (who : Who) (part : BoxPart) (m : Shared) (th : ThreadState) (c : KernelCall) → who.thread.0 < length cfg.threads →
      Keeps m (kernel_row cfg who part m th c)
  kernel-callers who part m th (call.PagesAlloc n t) there has =
      alloc-callers cfg.board who.home.0 m th (register th t) (allocation cfg.board.heap (may_write_table cfg who part m th n t) (register th n) m.owners) has
  kernel-callers who part m th (call.PageFree a) there has = free-callers m th (freeing cfg.board.heap m.owners who.home.0 (register th a)) has
  kernel-callers who part m th (call.IrqOn n) there has = enable-callers m th n true (has_line n part.irqs) has
  kernel-callers who part m th (call.IrqOff n) there has = enable-callers m th n false (has_line n part.irqs) has
  kernel-callers who part m th call.IrqReturn there has =
      handled-callers who.home.0 m th (handled_context m.lines part who.home.0 who.thread.0) has
  kernel-callers who part m th (call.GwRead d n) there has =
      read-callers m th d (register_read cfg.registers cfg.board m.memory who.home.0 n) has
  kernel-callers who part m th (call.GwWrite s n) there has =
      write-callers cfg.board m th (register_write cfg.registers cfg.board m.memory who.home.0 n (register th s)) has
  kernel-callers who part m th (call.RpcCall d n) there has =
      post-callers who m th (posted th d) (gateway_for who.home.0 (slice_get cfg.gateways n)) there has
  kernel-callers who part m th (call.RpcSync n looks) there has =
      post-callers who m th (posted_and_waiting th looks) (gateway_for who.home.0 (slice_get cfg.gateways n)) there has
  kernel-callers who part m th call.RpcTake there has =
      take-callers m th (is_server who part) (served_ticket m.serving who.home.0) has
  kernel-callers who part m th (call.RpcReturn s) there has =
      return-callers who.home.0 m th (register th s) (serving_of who part m.serving) has
  kernel-callers who part m th (call.RpcResult d s) there has =
      result-callers m th d (own_ticket who (register th s)) (collected_by (own_ticket who (register th s)) m.calls) has

  row-callers : (who : Who) (part : BoxPart) (m : Shared) (th : ThreadState) (granted : Bool) (n : Next) → who.thread.0 < length cfg.threads →
      Keeps m (row_of cfg who part m th granted n)
  row-callers who part m th granted next.Look there has = waiting-callers who m th th.awaited has
  row-callers who part m th granted (next.Deliver irq) there has = has
  row-callers who part m th granted (next.Local i) there has = has
  row-callers who part m th granted (next.Access access) there has = access-callers cfg.board m th access granted has
  row-callers who part m th granted (next.Unaligned at) there has = has
  row-callers who part m th granted (next.Kernel c) there has = kernel-callers who part m th c there has
  row-callers who part m th granted next.Nowhere there has = has

  start-callers : (b : ℕ) (m : Shared) (th : ThreadState) (ticket : Ticket) (found : Option Call) → Keeps m (start_row cfg b m th ticket found)
  start-callers b m th ticket None has = has
  start-callers b m th ticket (Some c) has = with_state-callers ticket state.Started m.calls has

  server-callers : (b : ℕ) (m : Shared) (th : ThreadState) (ticket : Option Ticket) → Keeps m (server_row cfg b m th ticket)
  server-callers b m th None has = has
  server-callers b m th (Some ticket) has = start-callers b m th ticket (next_call ticket b m.calls) has

  -- ---- steps

  turn-callers : (f : Flat) (t : ThreadId) (room : Bool) (a : Option Actor) → t.0 < length cfg.threads →
      HasCallers cfg f.shared.calls → HasCallers cfg (turn_by cfg f t room a).0.shared.calls
  turn-callers f t room None there has = has
  turn-callers f t room (Some a) there has =
      let n = next_of_actor f.shared.lines a t.0 in
      row-callers (who_acts a t room) a.part f.shared (counted a.thread) (holds_next cfg.board a.program.home.0 a.part f.shared.owners n) n there has

  serve-callers : (f : Flat) (t : ThreadId) (ticket : Option Ticket) (a : Option Actor) →
      HasCallers cfg f.shared.calls → HasCallers cfg (serve_by cfg f t ticket a).0.shared.calls
  serve-callers f t ticket None has = has
  serve-callers f t ticket (Some a) has = server-callers a.program.home.0 f.shared (counted a.thread) ticket has

  is-there : (t : ThreadId) (b : Bool) → (is_thread cfg t && b) ≡ true → t.0 < length cfg.threads
  is-there t b fit = let there : is_thread cfg t ≡ true = (and_parts (is_thread cfg t) b fit).0 in grind (arith, nat_tests)

  fitting-callers : (f : Flat) (c : Choice) → fits cfg f c ≡ true → HasCallers cfg f.shared.calls → HasCallers cfg (fitting_step cfg f c).0.shared.calls
  fitting-callers f (choice.Turn t true) fit has = turn-callers f t true (actor_of cfg f t.0) (is-there t (fits_with_room (want_of cfg f t.0)) fit) has
  fitting-callers f (choice.Turn t false) fit has = turn-callers f t false (actor_of cfg f t.0) (is-there t (fits_without_room cfg f t.0 (want_of cfg f t.0)) fit) has
  fitting-callers f (choice.Start t ticket) fit has = serve-callers f t (Some ticket) (actor_of cfg f t.0) has
  fitting-callers f (choice.Idle t) fit has = serve-callers f t None (actor_of cfg f t.0) has
  fitting-callers f (choice.Ring line by) fit has = has

  -- a step leaves it so
  pub step-callers : (f : Flat) (c : Choice) → HasCallers cfg f.shared.calls → HasCallers cfg (step cfg f c).0.shared.calls
  step-callers f c has = by_fit (fits cfg f c) refl
    where
      by_fit : (b : Bool) → fits cfg f c ≡ b → HasCallers cfg (step cfg f c).0.shared.calls
      by_fit true fit = subst (λ (p : Flat × Reply). HasCallers cfg p.0.shared.calls) (sym (step-fits cfg f c fit)) (fitting-callers f c fit has)
      by_fit false fit = subst (λ (p : Flat × Reply). HasCallers cfg p.0.shared.calls) (sym (step-unfit cfg f c fit)) has

  -- and so is one that was found
  pub found-caller : (passes : Call → Bool) (calls : List Call) (c : Call) → HasCallers cfg calls → find passes calls ≡ Some c →
      c.ticket.thread.0 < length cfg.threads
  found-caller passes [] c has found = absurd (let e : None ≡ Some c = found in cc)
  found-caller passes (x ∷ xs) c has found = by_pass (passes x) (λ later. found-caller passes xs c has.1 later) found
    where
      by_pass : (b : Bool) → (find passes xs ≡ Some c → c.ticket.thread.0 < length cfg.threads) →
          cond b (Some x) (find passes xs) ≡ Some c → c.ticket.thread.0 < length cfg.threads
      by_pass true rest here = let same : x ≡ c = cc in subst (λ (y : Call). y.ticket.thread.0 < length cfg.threads) same has.0
      by_pass false rest later = rest later
