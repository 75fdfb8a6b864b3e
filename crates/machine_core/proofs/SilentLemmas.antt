-- An event that posts nothing has no target.
use Rattle.std.proofs.Common.{◌≡◌, ℕ, ◌-◌, ◌<◌, Bool, true, false, ◌&&◌, not, cond, Option, Some, None, refl, sym, ap, ◌∙◌, nat_eq, length, List}
use Rattle.std.specs.Prelude.{Result, Ok, Err}
use Rattle.std.specs.List.{slice_get}
use Rattle.std.specs.Option.{option_map}
use Rattle.std.proofs.lemmas.Bool.{and_parts, true≢false}
use Rattle.addr_base.specs.declared.identity.BoxId.{BoxId}
use Rattle.addr_base.specs.declared.identity.Line.{Line}
use Rattle.addr_base.specs.declared.identity.ThreadId.{ThreadId}
use Rattle.addr_base.specs.declared.identity.Ticket.{Ticket}
use Rattle.addr_base.specs.declared.rights.Kind.{Kind}
use Rattle.addr_base.specs.declared.rights.Kind.TheVariants.{Read, Write, Fetch}
use Rattle.flat_model.specs.declared.accesses.Access.{Access}
use Rattle.flat_model.specs.declared.actors.Who.{Who}
use Rattle.flat_model.specs.declared.boards.Board.{Board}
use Rattle.flat_model.specs.declared.boards.Word.{Word}
use Rattle.flat_model.specs.declared.classes.KernelCall.{KernelCall}
use Rattle.flat_model.specs.declared.classes.KernelCall.TheVariants as call
use Rattle.flat_model.specs.declared.classes.LocalInstr.{LocalInstr}
use Rattle.flat_model.specs.declared.classes.LocalInstr.TheVariants as local
use Rattle.flat_model.specs.declared.events.Choice.{Choice}
use Rattle.flat_model.specs.declared.events.Choice.TheVariants as choice
use Rattle.flat_model.specs.declared.events.Collected.{Collected}
use Rattle.flat_model.specs.declared.events.Collected.TheVariants as got
use Rattle.flat_model.specs.declared.events.Reply.{Reply}
use Rattle.flat_model.specs.declared.events.Reply.TheVariants as reply
use Rattle.flat_model.specs.declared.next.Next.{Next}
use Rattle.flat_model.specs.declared.next.Next.TheVariants as next
use Rattle.flat_model.specs.declared.parts.BoxPart.{BoxPart}
use Rattle.flat_model.specs.declared.parts.Config.{Config}
use Rattle.flat_model.specs.declared.parts.RpcGate.{RpcGate}
use Rattle.flat_model.specs.declared.states.Awaited.{Awaited}
use Rattle.flat_model.specs.declared.states.Call.{Call}
use Rattle.flat_model.specs.declared.states.Context.{Context}
use Rattle.flat_model.specs.declared.states.Flat.{Flat}
use Rattle.flat_model.specs.declared.states.Shared.{Shared}
use Rattle.flat_model.specs.declared.states.ThreadState.{ThreadState}
use Rattle.flat_model.specs.AccessRows.{access_row, performed_row}
use Rattle.flat_model.specs.Actors.{Actor, actor_of, who_acts}
use Rattle.flat_model.specs.CallRows.{call_by, gateway_for, is_server, look_row, no_result_row, own_ticket, rpc_post_row, rpc_result_row, rpc_return_row, rpc_take_row, served_ticket, server_row, serving_of, start_row}
use Rattle.flat_model.specs.Calls.{collected_by, next_call}
use Rattle.flat_model.specs.Interrupts.{handled_context, has_line}
use Rattle.flat_model.specs.LineRows.{irq_enable_row, irq_return_row}
use Rattle.flat_model.specs.Local.{local_row}
use Rattle.flat_model.specs.Next.{holds_next, next_of_actor}
use Rattle.flat_model.specs.PageRows.{page_free_row, pages_alloc_row}
use Rattle.flat_model.specs.Pages.{allocation, freeing}
use Rattle.flat_model.specs.RegisterRows.{gw_read_row, gw_write_row}
use Rattle.flat_model.specs.Registers.{register_read, register_write}
use Rattle.flat_model.specs.Step.{reply_to, rung, serve_by, state_after, turn_by}
use Rattle.flat_model.specs.Thread.{counted, register}
use Rattle.flat_model.specs.ThreadEvents.{looking, posted, posted_and_waiting, timed_out}
use Rattle.flat_model.specs.Turn.{kernel_row, may_write_table, row_of, waiting_row}
use Rattle.flat_model.specs.Want.{fits, is_owned_line, want_by, want_by_call, want_of_actor, want_room}
use Rattle.flat_model.proofs.StepCases.{step-fits}
use Rattle.machine_core.specs.declared.deeds.Deed.{Deed}
use Rattle.machine_core.specs.declared.deeds.Deed.TheVariants as deed
use Rattle.machine_core.specs.Deeds.{choice_by}
use Rattle.machine_core.specs.Entries.{call_posted, noted_now}
use Rattle.machine_core.specs.Ready.{IsKnown, IsReady}
use Rattle.machine_core.specs.State.{ended_in}
use Rattle.machine_core.specs.Turns.{is_plain, takes_full, takes_next, takes_ring, takes_turn, want_in}
use Rattle.machine_core.specs.View.{MachineView, world_of}
use Rattle.machine_core.proofs.ReadyLemmas.{full-ready, next-ready, turn-ready}
use Rattle.machine_core.proofs.TurnLemmas.{step-live}

-- an event answered so posted nothing
abbrev IsSilent : Flat → Reply → Type 0
IsSilent g r = call_posted g r ≡ None

module _ (g : Flat) where
  -- ---- rows

  local-silent : (th : ThreadState) (home : ℕ) (i : LocalInstr) → IsSilent g (local_row th home i).1
  local-silent th home (local.Set d w) = refl
  local-silent th home (local.Mov d s) = refl
  local-silent th home (local.Add d a b) = refl
  local-silent th home (local.Sub d a b) = refl
  local-silent th home (local.And d a b) = refl
  local-silent th home (local.Orr d a b) = refl
  local-silent th home (local.Eor d a b) = refl
  local-silent th home (local.Jump n) = refl
  local-silent th home (local.Jz a n) = refl
  local-silent th home (local.Jnz a n) = refl
  local-silent th home (local.BoxId d) = refl
  local-silent th home local.Halt = refl

  performed-silent : (board : Board) (m : Shared) (th : ThreadState) (access : Access) (kind : Kind) → IsSilent g (performed_row board m th access kind).reply
  performed-silent board m th access Read = refl
  performed-silent board m th access Write = refl
  performed-silent board m th access Fetch = refl

  access-silent : (board : Board) (m : Shared) (th : ThreadState) (access : Access) (granted : Bool) → IsSilent g (access_row board m th access granted).reply
  access-silent board m th access true = performed-silent board m th access access.kind
  access-silent board m th access false = refl

  late-silent : (th : ThreadState) (awaited : Awaited) → IsSilent g (no_result_row th awaited).1
  late-silent th awaited = by_looks (nat_eq (awaited.looks - 1) 0)
    where
      by_looks : (b : Bool) →
          IsSilent g (cond {A = ThreadState × Reply} b (timed_out th awaited.seq, reply.Status 1) (looking th awaited.seq (awaited.looks - 1), reply.Waiting)).1
      by_looks true = refl
      by_looks false = refl

  look-silent : (who : Who) (m : Shared) (th : ThreadState) (awaited : Awaited) (answer : Collected) → IsSilent g (look_row who m th awaited answer).reply
  look-silent who m th awaited got.Waiting = late-silent th awaited
  look-silent who m th awaited (got.Done value) = refl
  look-silent who m th awaited got.NoSuch = late-silent th awaited

  waiting-silent : (who : Who) (m : Shared) (th : ThreadState) (awaited : Option Awaited) → IsSilent g (waiting_row who m th awaited).reply
  waiting-silent who m th None = refl
  waiting-silent who m th (Some awaited) = look-silent who m th awaited (collected_by (own_ticket who awaited.seq) m.calls)

  alloc-silent : (board : Board) (b : ℕ) (m : Shared) (th : ThreadState) (table : ℕ) (answer : Result (List ℕ) ℕ) →
      IsSilent g (pages_alloc_row board b m th table answer).reply
  alloc-silent board b m th table (Err status) = refl
  alloc-silent board b m th table (Ok frames) = refl

  free-silent : (m : Shared) (th : ThreadState) (answer : Result ℕ ℕ) → IsSilent g (page_free_row m th answer).reply
  free-silent m th (Err status) = refl
  free-silent m th (Ok frame) = refl

  enable-silent : (m : Shared) (th : ThreadState) (line : ℕ) (on own : Bool) → IsSilent g (irq_enable_row m th line on own).reply
  enable-silent m th line on true = refl
  enable-silent m th line on false = refl

  handled-silent : (b : ℕ) (m : Shared) (th : ThreadState) (context : Option Context) → IsSilent g (irq_return_row b m th context).reply
  handled-silent b m th None = refl
  handled-silent b m th (Some context) = refl

  read-silent : (m : Shared) (th : ThreadState) (r : ℕ) (value : Option ℕ) → IsSilent g (gw_read_row m th r value).reply
  read-silent m th r None = refl
  read-silent m th r (Some value) = refl

  write-silent : (board : Board) (m : Shared) (th : ThreadState) (word : Option Word) → IsSilent g (gw_write_row board m th word).reply
  write-silent board m th None = refl
  write-silent board m th (Some word) = refl

  -- a call is posted with room alone, and by a thread that wants it
  post-silent : (who : Who) (m : Shared) (th after : ThreadState) (gate : Option RpcGate) → (who.room && not (is_plain (want_room gate))) ≡ false →
      IsSilent g (rpc_post_row who m th after gate).reply
  post-silent who m th after None quiet = refl
  post-silent who m th after (Some gate) quiet = by_room who.room quiet
    where
      by_room : (b : Bool) → (b && true) ≡ false → IsSilent g (rpc_post_row (record who { room = b }) m th after (Some gate)).reply
      by_room true quiet_room = absurd (true≢false quiet_room)
      by_room false _ = refl

  take-silent : (m : Shared) (th : ThreadState) (server : Bool) (serving : Option Ticket) → IsSilent g (rpc_take_row m th server serving).reply
  take-silent m th false serving = refl
  take-silent m th true (Some ticket) = refl
  take-silent m th true None = refl

  return-silent : (b : ℕ) (m : Shared) (th : ThreadState) (v : ℕ) (serving : Option Ticket) → IsSilent g (rpc_return_row b m th v serving).reply
  return-silent b m th v None = refl
  return-silent b m th v (Some ticket) = refl

  result-silent : (m : Shared) (th : ThreadState) (r : ℕ) (ticket : Ticket) (answer : Collected) → IsSilent g (rpc_result_row m th r ticket answer).reply
  result-silent m th r ticket got.Waiting = refl
  result-silent m th r ticket (got.Done value) = refl
  result-silent m th r ticket got.NoSuch = refl

  kernel-silent : (cfg : Config) (who : Who) (part : BoxPart) (m : Shared) (seen : Shared) (th : ThreadState) (c : KernelCall) →
      (who.room && not (is_plain (want_by_call cfg who part seen c))) ≡ false → IsSilent g (kernel_row cfg who part m th c).reply
  kernel-silent cfg who part m seen th (call.PagesAlloc n t) quiet =
      alloc-silent cfg.board who.home.0 m th (register th t) (allocation cfg.board.heap (may_write_table cfg who part m th n t) (register th n) m.owners)
  kernel-silent cfg who part m seen th (call.PageFree a) quiet = free-silent m th (freeing cfg.board.heap m.owners who.home.0 (register th a))
  kernel-silent cfg who part m seen th (call.IrqOn n) quiet = enable-silent m th n true (has_line n part.irqs)
  kernel-silent cfg who part m seen th (call.IrqOff n) quiet = enable-silent m th n false (has_line n part.irqs)
  kernel-silent cfg who part m seen th call.IrqReturn quiet = handled-silent who.home.0 m th (handled_context m.lines part who.home.0 who.thread.0)
  kernel-silent cfg who part m seen th (call.GwRead d n) quiet = read-silent m th d (register_read cfg.registers cfg.board m.memory who.home.0 n)
  kernel-silent cfg who part m seen th (call.GwWrite s n) quiet =
      write-silent cfg.board m th (register_write cfg.registers cfg.board m.memory who.home.0 n (register th s))
  kernel-silent cfg who part m seen th (call.RpcCall d n) quiet =
      post-silent who m th (posted th d) (gateway_for who.home.0 (slice_get cfg.gateways n)) quiet
  kernel-silent cfg who part m seen th (call.RpcSync n looks) quiet =
      post-silent who m th (posted_and_waiting th looks) (gateway_for who.home.0 (slice_get cfg.gateways n)) quiet
  kernel-silent cfg who part m seen th call.RpcTake quiet = take-silent m th (is_server who part) (served_ticket m.serving who.home.0)
  kernel-silent cfg who part m seen th (call.RpcReturn s) quiet = return-silent who.home.0 m th (register th s) (serving_of who part m.serving)
  kernel-silent cfg who part m seen th (call.RpcResult d s) quiet =
      result-silent m th d (own_ticket who (register th s)) (collected_by (own_ticket who (register th s)) m.calls)

  row-silent : (cfg : Config) (who : Who) (part : BoxPart) (m : Shared) (th : ThreadState) (granted : Bool) (n : Next) →
      (who.room && not (is_plain (want_by cfg who part m n))) ≡ false → IsSilent g (row_of cfg who part m th granted n).reply
  row-silent cfg who part m th granted next.Look quiet = waiting-silent who m th th.awaited
  row-silent cfg who part m th granted (next.Deliver irq) quiet = refl
  row-silent cfg who part m th granted (next.Local i) quiet = local-silent th who.home.0 i
  row-silent cfg who part m th granted (next.Access access) quiet = access-silent cfg.board m th access granted
  row-silent cfg who part m th granted (next.Unaligned at) quiet = refl
  row-silent cfg who part m th granted (next.Kernel c) quiet = kernel-silent cfg who part m m th c quiet
  row-silent cfg who part m th granted next.Nowhere quiet = refl

  start-silent : (cfg : Config) (b : ℕ) (m : Shared) (th : ThreadState) (ticket : Ticket) (found : Option Call) →
      IsSilent g (start_row cfg b m th ticket found).reply
  start-silent cfg b m th ticket None = refl
  start-silent cfg b m th ticket (Some call) = refl

  server-silent : (cfg : Config) (b : ℕ) (m : Shared) (th : ThreadState) (ticket : Option Ticket) → IsSilent g (server_row cfg b m th ticket).reply
  server-silent cfg b m th None = refl
  server-silent cfg b m th (Some ticket) = start-silent cfg b m th ticket (next_call ticket b m.calls)

  -- ---- events

  module _ (cfg : Config) (f : Flat) (t : ThreadId) where
    turn-by : (room : Bool) (o : Option Actor) → (room && not (is_plain (want_of_actor cfg f.shared t o))) ≡ false → IsSilent g (turn_by cfg f t room o).1
    turn-by room None quiet = refl
    turn-by true (Some a) quiet =
        let n = next_of_actor f.shared.lines a t.0 in
        row-silent cfg (who_acts a t true) a.part f.shared (counted a.thread) (holds_next cfg.board a.program.home.0 a.part f.shared.owners n) n quiet
    turn-by false (Some a) quiet =
        let n = next_of_actor f.shared.lines a t.0 in
        row-silent cfg (who_acts a t false) a.part f.shared (counted a.thread) (holds_next cfg.board a.program.home.0 a.part f.shared.owners n) n refl

    serve-by : (ticket : Option Ticket) (o : Option Actor) → IsSilent g (serve_by cfg f t ticket o).1
    serve-by ticket None = refl
    serve-by ticket (Some a) = server-silent cfg a.program.home.0 f.shared (counted a.thread) ticket

    turn-reply : (room : Bool) → (room && not (is_plain (want_of_actor cfg f.shared t (actor_of cfg f t.0)))) ≡ false →
        fits cfg f (choice.Turn t room) ≡ true → IsSilent g (reply_to cfg f (choice.Turn t room))
    turn-reply room quiet fit =
        ap (λ (p : Flat × Reply). call_posted g p.1) (step-fits cfg f (choice.Turn t room) fit) ∙ turn-by room (actor_of cfg f t.0) quiet

    serve-reply : (ticket : Option Ticket) → fits cfg f (choice_by t (deed.Serve ticket)) ≡ true → IsSilent g (reply_to cfg f (choice_by t (deed.Serve ticket)))
    serve-reply None fit = ap (λ (p : Flat × Reply). call_posted g p.1) (step-fits cfg f (choice.Idle t) fit) ∙ serve-by None (actor_of cfg f t.0)
    serve-reply (Some ticket) fit =
        ap (λ (p : Flat × Reply). call_posted g p.1) (step-fits cfg f (choice.Start t ticket) fit) ∙ serve-by (Some ticket) (actor_of cfg f t.0)

-- the entry of an event that posted nothing has no target
no-target : (v : MachineView) (c : Choice) → IsSilent (state_after v.config (world_of v).flat c) (reply_to v.config (world_of v).flat c) →
    (noted_now v c).target ≡ None
no-target v c silent = ap (option_map (λ (call : Call). call.target)) silent

module _ (v : MachineView) (t : ThreadId) (there : t.0 < length v.config.threads) where
  -- a turn of a thread that wants neither room nor the next call has no target
  pub turn-target : takes_turn v t ≡ true → ended_in (world_of v) t.0 ≡ false → (noted_now v (choice.Turn t true)).target ≡ None
  turn-target takes live =
      let ready = turn-ready v t there takes live in
      no-target v (choice.Turn t true)
      (turn-reply (state_after v.config (world_of v).flat (choice.Turn t true)) v.config (world_of v).flat t true (ap not takes) ready.fit)

  -- nor has a turn without room
  pub full-target : (b : BoxId) → takes_full v t b ≡ true → (noted_now v (choice.Turn t false)).target ≡ None
  full-target b takes =
      let ready = full-ready v t there b takes in
      no-target v (choice.Turn t false)
      (turn-reply (state_after v.config (world_of v).flat (choice.Turn t false)) v.config (world_of v).flat t false refl ready.fit)

  -- nor has a start
  pub start-target : (b : BoxId) → takes_next v t b ≡ true → (ticket : Ticket) → ticket.thread.0 < length v.config.threads →
      (noted_now v (choice.Start t ticket)).target ≡ None
  start-target b takes ticket known =
      let ready = next-ready v t there b takes (Some ticket) known in
      no-target v (choice.Start t ticket)
      (serve-reply (state_after v.config (world_of v).flat (choice.Start t ticket)) v.config (world_of v).flat t (Some ticket) ready.fit)

  -- nor has an idle look
  pub idle-target : (b : BoxId) → takes_next v t b ≡ true → (noted_now v (choice.Idle t)).target ≡ None
  idle-target b takes =
      let ready = next-ready v t there b takes None tt in
      no-target v (choice.Idle t)
      (serve-reply (state_after v.config (world_of v).flat (choice.Idle t)) v.config (world_of v).flat t None ready.fit)

-- nor has a ring
pub ring-target : (v : MachineView) (line : Line) (number : ℕ) → takes_ring v line number ≡ true → (noted_now v (choice.Ring line number)).target ≡ None
ring-target v line number takes =
    let owned = (and_parts (is_owned_line v.config line.0) _ takes).0 in
    no-target v (choice.Ring line number)
    (ap (λ (p : Flat × Reply). call_posted (state_after v.config (world_of v).flat (choice.Ring line number)) p.1)
    (step-fits v.config (world_of v).flat (choice.Ring line number) owned))
