-- What each event does to the calls, told by its choice and its reply.
use Rattle.std.proofs.Common.{◌≡◌, ℕ, ◌+◌, ◌-◌, Bool, true, false, ◌&&◌, cond, List, [], ◌∷◌, ◌++◌, Option, Some, None, refl, sym, ap, ◌∙◌, subst, nat_eq, is_none, if◌then◌else◌}
use Rattle.std.specs.Prelude.{Result, Ok, Err, slice_get, slice_set}
use Rattle.std.specs.Option.{option_map, option_map_or}
use Rattle.std.proofs.lemmas.Bool.{and_parts, eqb-true}
use Rattle.std.proofs.lemmas.Option.{none-some}
use Rattle.addr_base.specs.declared.identity.BoxId.{BoxId}
use Rattle.addr_base.specs.declared.identity.ThreadId.{ThreadId}
use Rattle.addr_base.specs.declared.identity.Ticket.{Ticket}
use Rattle.addr_base.specs.declared.rights.Kind.{Kind}
use Rattle.addr_base.specs.declared.rights.Kind.TheVariants.{Read, Write, Fetch}
use Rattle.flat_model.specs.declared.accesses.Access.{Access}
use Rattle.flat_model.specs.declared.actors.Who.{Who}
use Rattle.flat_model.specs.declared.boards.Board.{Board}
use Rattle.flat_model.specs.declared.boards.Word.{Word}
use Rattle.flat_model.specs.declared.classes.KernelCall.{KernelCall}
use Rattle.flat_model.specs.declared.classes.KernelCall.TheVariants as call
use Rattle.flat_model.specs.declared.classes.LocalInstr.{LocalInstr}
use Rattle.flat_model.specs.declared.classes.LocalInstr.TheVariants as local
use Rattle.flat_model.specs.declared.events.Choice.{Choice}
use Rattle.flat_model.specs.declared.events.Choice.TheVariants as choice
use Rattle.flat_model.specs.declared.events.Collected.{Collected}
use Rattle.flat_model.specs.declared.events.Collected.TheVariants as got
use Rattle.flat_model.specs.declared.events.Reply.{Reply}
use Rattle.flat_model.specs.declared.events.Reply.TheVariants as reply
use Rattle.flat_model.specs.declared.events.Want.{Want}
use Rattle.flat_model.specs.declared.events.Want.TheVariants as want
use Rattle.flat_model.specs.declared.next.Next.{Next}
use Rattle.flat_model.specs.declared.next.Next.TheVariants as next
use Rattle.flat_model.specs.declared.parts.BoxPart.{BoxPart}
use Rattle.flat_model.specs.declared.parts.Config.{Config}
use Rattle.flat_model.specs.declared.parts.RpcGate.{RpcGate}
use Rattle.flat_model.specs.declared.parts.ThreadPart.{ThreadPart}
use Rattle.flat_model.specs.declared.states.Awaited.{Awaited}
use Rattle.flat_model.specs.declared.states.Call.{Call}
use Rattle.flat_model.specs.declared.states.CallState.TheVariants as state
use Rattle.flat_model.specs.declared.states.Context.{Context}
use Rattle.flat_model.specs.declared.states.Flat.{Flat}
use Rattle.flat_model.specs.declared.states.Shared.{Shared}
use Rattle.flat_model.specs.declared.states.ThreadState.{ThreadState}
use Rattle.flat_model.specs.AccessRows.{access_row, performed_row}
use Rattle.flat_model.specs.Acting.{is_free_server}
use Rattle.flat_model.specs.Actors.{Actor, IsActor, actor_of, who_acts}
use Rattle.flat_model.specs.CallRows.{call_by, gateway_for, home_of, is_server, look_row, no_result_row, own_ticket, rpc_post_row, rpc_result_row, rpc_return_row, rpc_take_row, served_ticket, serving_of, start_row, started_from}
use Rattle.flat_model.specs.Calls.{calls_of, collected_by, next_call, with_state}
use Rattle.flat_model.specs.Interrupts.{handled_context, has_line}
use Rattle.flat_model.specs.LineRows.{irq_enable_row, irq_return_row}
use Rattle.flat_model.specs.Local.{local_row}
use Rattle.flat_model.specs.Next.{holds_next, next_of_actor}
use Rattle.flat_model.specs.Outcome.{Outcome, by_itself, refused_row}
use Rattle.flat_model.specs.PageRows.{page_free_row, pages_alloc_row}
use Rattle.flat_model.specs.Pages.{allocation, freeing}
use Rattle.flat_model.specs.RegisterRows.{gw_read_row, gw_write_row}
use Rattle.flat_model.specs.Registers.{register_read, register_write}
use Rattle.flat_model.specs.Step.{fitting_step, reply_to, serve_by, state_after, turn_by}
use Rattle.flat_model.specs.Stepping.{KeepsCounts}
use Rattle.flat_model.specs.Thread.{counted, register}
use Rattle.flat_model.specs.ThreadEvents.{looking, posted, posted_and_waiting, timed_out}
use Rattle.flat_model.specs.Turn.{kernel_row, may_write_table, row_of, waiting_row}
use Rattle.flat_model.specs.Want.{fits, is_thread, want_by, want_by_call, want_of, want_of_actor, want_room, wants_next}
use Rattle.flat_model.proofs.ActorLemmas.{actor-is}
use Rattle.flat_model.proofs.StepCases.{step-fits}
use Rattle.flat_model.proofs.WantLemmas.{want-free}
use Rattle.uvisor_run.specs.CallLaws.{IsServerOf, asked_by, asked_by_call, asked_in, asked_of}

-- whether the reply neither tells a new call's number nor gives a result that was asked for
abbrev pub is_quiet : Option ℕ → Reply → Bool
is_quiet asked (reply.Posted seq) = false
is_quiet asked (reply.Value value) = is_none asked
is_quiet asked reply.Ended = true
is_quiet asked reply.Done = true
is_quiet asked (reply.Status status) = true
is_quiet asked reply.Waiting = true
is_quiet asked (reply.Irq line) = true
is_quiet asked (reply.Given frames) = true
is_quiet asked (reply.Fault why at) = true
is_quiet asked reply.Halted = true
is_quiet asked (reply.Begun started) = true

-- whether the reply is that of a start
abbrev pub is_begun : Reply → Bool
is_begun (reply.Begun started) = true
is_begun reply.Ended = false
is_begun reply.Done = false
is_begun (reply.Value value) = false
is_begun (reply.Status status) = false
is_begun (reply.Posted seq) = false
is_begun reply.Waiting = false
is_begun (reply.Irq line) = false
is_begun (reply.Given frames) = false
is_begun (reply.Fault why at) = false
is_begun reply.Halted = false

-- the ticket of this number of the thread
abbrev pub ticket_of : ThreadId → ℕ → Ticket
ticket_of t seq = record { thread = t; seq = seq }

-- what a turn does to the calls
pub data TurnDoes (t : ThreadId) (room : Bool) (w : Want) (asked : Option ℕ) (calls after : List Call) (serving kept : List (Option Ticket)) (r : Reply) : Type 0 where
  stays : after ≡ calls → kept ≡ serving → is_quiet asked r ≡ true → TurnDoes t room w asked calls after serving kept r
  posts : (new : Call) → new.state ≡ state.Posted → kept ≡ serving → new.ticket ≡ ticket_of t (calls_of t.0 calls + 1) → room ≡ true → w ≡ want.Room new.target → r ≡ reply.Posted new.ticket.seq → after ≡ calls ++ new ∷ [] → TurnDoes t room w asked calls after serving kept r
  finishes : (ticket : Ticket) (value b : ℕ) → served_ticket serving b ≡ Some ticket → kept ≡ slice_set serving b None → r ≡ reply.Done → after ≡ with_state ticket (state.Done value) calls → TurnDoes t room w asked calls after serving kept r
  collects : (seq value : ℕ) → kept ≡ serving → asked ≡ Some seq → collected_by (ticket_of t seq) calls ≡ got.Done value → r ≡ reply.Value value → after ≡ with_state (ticket_of t seq) state.Collected calls → TurnDoes t room w asked calls after serving kept r

-- ---- rows that leave the calls

abbrev IsQuiet : Option ℕ → Shared → Outcome → Type 0
IsQuiet asked m out = (out.shared.calls ≡ m.calls) × (out.shared.serving ≡ m.serving) × (is_quiet asked out.reply ≡ true)

performed-quiet : (board : Board) (m : Shared) (th : ThreadState) (access : Access) (kind : Kind) → IsQuiet None m (performed_row board m th access kind)
performed-quiet board m th access Read = (refl, refl, refl)
performed-quiet board m th access Write = (refl, refl, refl)
performed-quiet board m th access Fetch = (refl, refl, refl)

access-quiet : (board : Board) (m : Shared) (th : ThreadState) (access : Access) (granted : Bool) → IsQuiet None m (access_row board m th access granted)
access-quiet board m th access true = performed-quiet board m th access access.kind
access-quiet board m th access false = (refl, refl, refl)

alloc-quiet : (board : Board) (b : ℕ) (m : Shared) (th : ThreadState) (table : ℕ) (answer : Result (List ℕ) ℕ) → IsQuiet None m (pages_alloc_row board b m th table answer)
alloc-quiet board b m th table (Err status) = (refl, refl, refl)
alloc-quiet board b m th table (Ok frames) = (refl, refl, refl)

free-quiet : (m : Shared) (th : ThreadState) (answer : Result ℕ ℕ) → IsQuiet None m (page_free_row m th answer)
free-quiet m th (Err status) = (refl, refl, refl)
free-quiet m th (Ok frame) = (refl, refl, refl)

enable-quiet : (m : Shared) (th : ThreadState) (line : ℕ) (on own : Bool) → IsQuiet None m (irq_enable_row m th line on own)
enable-quiet m th line on true = (refl, refl, refl)
enable-quiet m th line on false = (refl, refl, refl)

handled-quiet : (b : ℕ) (m : Shared) (th : ThreadState) (context : Option Context) → IsQuiet None m (irq_return_row b m th context)
handled-quiet b m th None = (refl, refl, refl)
handled-quiet b m th (Some context) = (refl, refl, refl)

read-quiet : (m : Shared) (th : ThreadState) (r : ℕ) (value : Option ℕ) → IsQuiet None m (gw_read_row m th r value)
read-quiet m th r None = (refl, refl, refl)
read-quiet m th r (Some value) = (refl, refl, refl)

write-quiet : (board : Board) (m : Shared) (th : ThreadState) (word : Option Word) → IsQuiet None m (gw_write_row board m th word)
write-quiet board m th None = (refl, refl, refl)
write-quiet board m th (Some word) = (refl, refl, refl)

take-quiet : (m : Shared) (th : ThreadState) (server : Bool) (serving : Option Ticket) → IsQuiet None m (rpc_take_row m th server serving)
take-quiet m th false serving = (refl, refl, refl)
take-quiet m th true None = (refl, refl, refl)
take-quiet m th true (Some ticket) = (refl, refl, refl)

local-quiet : (m : Shared) (th : ThreadState) (home : ℕ) (i : LocalInstr) → IsQuiet None m (by_itself m (local_row th home i))
local-quiet m th home (local.Set d w) = (refl, refl, refl)
local-quiet m th home (local.Mov d s) = (refl, refl, refl)
local-quiet m th home (local.Add d a b) = (refl, refl, refl)
local-quiet m th home (local.Sub d a b) = (refl, refl, refl)
local-quiet m th home (local.And d a b) = (refl, refl, refl)
local-quiet m th home (local.Orr d a b) = (refl, refl, refl)
local-quiet m th home (local.Eor d a b) = (refl, refl, refl)
local-quiet m th home (local.Jump n) = (refl, refl, refl)
local-quiet m th home (local.Jz a n) = (refl, refl, refl)
local-quiet m th home (local.Jnz a n) = (refl, refl, refl)
local-quiet m th home (local.BoxId d) = (refl, refl, refl)
local-quiet m th home local.Halt = (refl, refl, refl)

late-quiet : (asked : Option ℕ) (th : ThreadState) (awaited : Awaited) → is_quiet asked (no_result_row th awaited).1 ≡ true
late-quiet asked th awaited = by_looks (nat_eq (awaited.looks - 1) 0)
  where
    by_looks : (b : Bool) →
        is_quiet asked (cond {A = ThreadState × Reply} b (timed_out th awaited.seq, reply.Status 1) (looking th awaited.seq (awaited.looks - 1), reply.Waiting)).1 ≡ true
    by_looks true = refl
    by_looks false = refl

-- ---- rows of calls

-- what a row of the thread's turn does
abbrev RowDoes : Who → Want → Option ℕ → Shared → Outcome → Type 0
RowDoes who w asked m out = TurnDoes who.thread who.room w asked m.calls out.shared.calls m.serving out.shared.serving out.reply

post-does : (who : Who) (m : Shared) (th after : ThreadState) (gate : Option RpcGate) → calls_of who.thread.0 m.calls ≡ th.count →
    RowDoes who (want_room gate) None m (rpc_post_row who m th after gate)
post-does who m th after None counts = stays refl refl refl
post-does who m th after (Some gate) counts = by_room who.room refl
  where
    by_room : (b : Bool) → who.room ≡ b → RowDoes who (want.Room gate.target) None m
        (if b then record { shared = record m { calls = m.calls ++ call_by who th gate ∷ [] }; thread = after; reply = reply.Posted (th.count + 1) } else refused_row m th 3)
    by_room true room = posts (call_by who th gate) refl refl (ap (λ n. ticket_of who.thread (n + 1)) (sym counts)) room refl refl refl
    by_room false room = stays refl refl refl

return-does : (who : Who) (w : Want) (b : ℕ) (m : Shared) (th : ThreadState) (v : ℕ) (serving : Option Ticket) →
    ((ticket : Ticket) → serving ≡ Some ticket → served_ticket m.serving b ≡ Some ticket) → RowDoes who w None m (rpc_return_row b m th v serving)
return-does who w b m th v None served = stays refl refl refl
return-does who w b m th v (Some ticket) served = finishes ticket v b (served ticket refl) refl refl refl

-- what the acting thread serves, its box's server serves
serving-served : (who : Who) (part : BoxPart) (serving : List (Option Ticket)) (ticket : Ticket) → serving_of who part serving ≡ Some ticket →
    served_ticket serving who.home.0 ≡ Some ticket
serving-served who part serving ticket is = by_server (is_server who part) is
  where
    by_server : (b : Bool) → (if b then served_ticket serving who.home.0 else None) ≡ Some ticket → served_ticket serving who.home.0 ≡ Some ticket
    by_server true here = here
    by_server false none = absurd (none-some ticket none)

result-does : (who : Who) (w : Want) (m : Shared) (th : ThreadState) (r seq : ℕ) (answer : Collected) → collected_by (own_ticket who seq) m.calls ≡ answer →
    RowDoes who w (Some seq) m (rpc_result_row m th r (own_ticket who seq) answer)
result-does who w m th r seq got.NoSuch is = stays refl refl refl
result-does who w m th r seq got.Waiting is = stays refl refl refl
result-does who w m th r seq (got.Done value) is = collects seq value refl refl is refl refl

look-does : (who : Who) (w : Want) (m : Shared) (th : ThreadState) (awaited : Awaited) (answer : Collected) → collected_by (own_ticket who awaited.seq) m.calls ≡ answer →
    RowDoes who w (Some awaited.seq) m (look_row who m th awaited answer)
look-does who w m th awaited got.NoSuch is = stays refl refl (late-quiet (Some awaited.seq) th awaited)
look-does who w m th awaited got.Waiting is = stays refl refl (late-quiet (Some awaited.seq) th awaited)
look-does who w m th awaited (got.Done value) is = collects awaited.seq value refl refl is refl refl

waiting-does : (who : Who) (w : Want) (m : Shared) (th : ThreadState) (awaited : Option Awaited) →
    RowDoes who w (option_map (λ (a : Awaited). a.seq) awaited) m (waiting_row who m th awaited)
waiting-does who w m th None = stays refl refl refl
waiting-does who w m th (Some awaited) = look-does who w m th awaited (collected_by (own_ticket who awaited.seq) m.calls) refl

module _ (cfg : Config) (who : Who) (part : BoxPart) (m : Shared) (th : ThreadState) (counts : calls_of who.thread.0 m.calls ≡ th.count) where
  kernel-does : (c : KernelCall) →
      RowDoes who (want_by_call cfg (record who { room = true }) part m c) (asked_by_call th c) m (kernel_row cfg who part m (counted th) c)
  kernel-does (call.PagesAlloc n t) =
      let it = alloc-quiet cfg.board who.home.0 m (counted th) (register th t) (allocation cfg.board.heap (may_write_table cfg who part m (counted th) n t) (register th n) m.owners) in stays it.0 it.1 it.2
  kernel-does (call.PageFree a) = let it = free-quiet m (counted th) (freeing cfg.board.heap m.owners who.home.0 (register th a)) in stays it.0 it.1 it.2
  kernel-does (call.IrqOn n) = let it = enable-quiet m (counted th) n true (has_line n part.irqs) in stays it.0 it.1 it.2
  kernel-does (call.IrqOff n) = let it = enable-quiet m (counted th) n false (has_line n part.irqs) in stays it.0 it.1 it.2
  kernel-does call.IrqReturn =
      let it = handled-quiet who.home.0 m (counted th) (handled_context m.lines part who.home.0 who.thread.0) in stays it.0 it.1 it.2
  kernel-does (call.GwRead d n) =
      let it = read-quiet m (counted th) d (register_read cfg.registers cfg.board m.memory who.home.0 n) in stays it.0 it.1 it.2
  kernel-does (call.GwWrite s n) =
      let it = write-quiet cfg.board m (counted th) (register_write cfg.registers cfg.board m.memory who.home.0 n (register th s)) in stays it.0 it.1 it.2
  kernel-does (call.RpcCall d n) =
      post-does who m (counted th) (posted (counted th) d) (gateway_for who.home.0 (slice_get cfg.gateways n)) counts
  kernel-does (call.RpcSync n looks) =
      post-does who m (counted th) (posted_and_waiting (counted th) looks) (gateway_for who.home.0 (slice_get cfg.gateways n)) counts
  kernel-does call.RpcTake =
      let it = take-quiet m (counted th) (is_server who part) (served_ticket m.serving who.home.0) in stays it.0 it.1 it.2
  kernel-does (call.RpcReturn s) =
      return-does who want.Plain who.home.0 m (counted th) (register th s) (serving_of who part m.serving) (serving-served who part m.serving)
  kernel-does (call.RpcResult d s) =
      result-does who want.Plain m (counted th) d (register th s) (collected_by (own_ticket who (register th s)) m.calls) refl

  row-does : (granted : Bool) (n : Next) →
      RowDoes who (want_by cfg (record who { room = true }) part m n) (asked_in th n) m (row_of cfg who part m (counted th) granted n)
  row-does granted next.Look = waiting-does who want.Plain m (counted th) th.awaited
  row-does granted (next.Deliver irq) = stays refl refl refl
  row-does granted (next.Local i) = let it = local-quiet m (counted th) who.home.0 i in stays it.0 it.1 it.2
  row-does granted (next.Access access) = let it = access-quiet cfg.board m (counted th) access granted in stays it.0 it.1 it.2
  row-does granted (next.Unaligned at) = stays refl refl refl
  row-does granted (next.Kernel c) = kernel-does c
  row-does granted next.Nowhere = stays refl refl refl

-- ---- events

-- what a start does to the calls: the ticket's call was next, or nothing changes
pub data StartDoes (cfg : Config) (t : ThreadId) (ticket : Ticket) (calls after : List Call) (serving kept : List (Option Ticket)) (r : Reply) : Type 0 where
  waits : after ≡ calls → kept ≡ serving → is_begun r ≡ false → StartDoes cfg t ticket calls after serving kept r
  begins : (found : Call) → kept ≡ slice_set serving (home_of cfg t.0).0 (Some ticket) → IsServerOf cfg (home_of cfg t.0) t → next_call ticket (home_of cfg t.0).0 calls ≡ Some found → after ≡ with_state ticket state.Started calls → r ≡ reply.Begun (started_from cfg found) → StartDoes cfg t ticket calls after serving kept r

-- what the event of a choice does to the calls
abbrev pub EventDoes : Config → Flat → Choice → Shared → Reply → Type 0
EventDoes cfg f (choice.Turn t room) after r = TurnDoes t room (want_of cfg f t.0) (asked_of cfg f t.0) f.shared.calls after.calls f.shared.serving after.serving r
EventDoes cfg f (choice.Start t ticket) after r = StartDoes cfg t ticket f.shared.calls after.calls f.shared.serving after.serving r
EventDoes cfg f (choice.Idle t) after r = (after.calls ≡ f.shared.calls) × (after.serving ≡ f.shared.serving)
EventDoes cfg f (choice.Ring line by) after r = (after.calls ≡ f.shared.calls) × (after.serving ≡ f.shared.serving)

same_thread : (t u : ThreadId) → t.0 ≡ u.0 → t ≡ u
same_thread t u same = ap (λ n. record { 0 = n }) same

home-acting : (cfg : Config) (f : Flat) (t : ℕ) (a : Actor) → IsActor cfg f t a → home_of cfg t ≡ a.program.home
home-acting cfg f t a it =
    ap (λ (o : Option ThreadPart). option_map_or (λ (thread : ThreadPart). thread.home) o (record { 0 = 0 })) it.program

module _ (cfg : Config) (f : Flat) (t : ThreadId) where
  turn-does : (room : Bool) (o : Option Actor) → actor_of cfg f t.0 ≡ o → KeepsCounts f →
      TurnDoes t room (want_of_actor cfg f.shared t o) (asked_by f t.0 o) f.shared.calls (turn_by cfg f t room o).0.shared.calls f.shared.serving (turn_by cfg f t room o).0.shared.serving (turn_by cfg f t room o).1
  turn-does room None is counts = stays refl refl refl
  turn-does room (Some a) is counts =
      let n = next_of_actor f.shared.lines a t.0 in
      row-does cfg (who_acts a t room) a.part f.shared a.thread (counts t.0 a.thread (actor-is cfg f t.0 a is).thread)
      (holds_next cfg.board a.program.home.0 a.part f.shared.owners n) n

  server-acting : (a : Actor) → IsActor cfg f t.0 a → wants_next (want_of_actor cfg f.shared t (Some a)) ≡ true → IsServerOf cfg (home_of cfg t.0) t
  server-acting a it wants =
      let n = next_of_actor f.shared.lines a t.0 in
      let free : is_free_server (who_acts a t true) a.part f.shared ≡ true = want-free cfg (who_acts a t true) a.part f.shared n wants in
      let serves : is_server (who_acts a t true) a.part ≡ true =
      (and_parts (is_server (who_acts a t true) a.part) (is_none (served_ticket f.shared.serving a.program.home.0)) free).0 in
      let same : a.part.server ≡ t = same_thread a.part.server t (sym (eqb-true t.0 a.part.server.0 serves)) in
      subst (λ (b : BoxId). IsServerOf cfg b t) (sym (home-acting cfg f t.0 a it))
      (ap (option_map (λ (part : BoxPart). part.server)) it.part ∙ ap (λ (u : ThreadId). Some u) same)

  start-does : (ticket : Ticket) (o : Option Actor) → actor_of cfg f t.0 ≡ o → wants_next (want_of_actor cfg f.shared t o) ≡ true →
      StartDoes cfg t ticket f.shared.calls (serve_by cfg f t (Some ticket) o).0.shared.calls f.shared.serving (serve_by cfg f t (Some ticket) o).0.shared.serving (serve_by cfg f t (Some ticket) o).1
  start-does ticket None is wants = waits refl refl refl
  start-does ticket (Some a) is wants = by_call (next_call ticket a.program.home.0 f.shared.calls) refl
    where
      by_call : (o : Option Call) → next_call ticket a.program.home.0 f.shared.calls ≡ o →
          StartDoes cfg t ticket f.shared.calls (start_row cfg a.program.home.0 f.shared (counted a.thread) ticket o).shared.calls
          f.shared.serving (start_row cfg a.program.home.0 f.shared (counted a.thread) ticket o).shared.serving
          (start_row cfg a.program.home.0 f.shared (counted a.thread) ticket o).reply
      by_call None none = waits refl refl refl
      by_call (Some call) found =
          let it = actor-is cfg f t.0 a is in
          begins call
          (ap (λ (b : BoxId). slice_set f.shared.serving b.0 (Some ticket)) (sym (home-acting cfg f t.0 a it)))
          (server-acting a it wants)
          (subst (λ (b : BoxId). next_call ticket b.0 f.shared.calls ≡ Some call) (sym (home-acting cfg f t.0 a it)) found) refl refl

  idle-does : (o : Option Actor) → ((serve_by cfg f t None o).0.shared.calls ≡ f.shared.calls) × ((serve_by cfg f t None o).0.shared.serving ≡ f.shared.serving)
  idle-does None = (refl, refl)
  idle-does (Some a) = (refl, refl)

fitting-does : (cfg : Config) (f : Flat) (c : Choice) → fits cfg f c ≡ true → KeepsCounts f →
    EventDoes cfg f c (fitting_step cfg f c).0.shared (fitting_step cfg f c).1
fitting-does cfg f (choice.Turn t room) fit counts = turn-does cfg f t room (actor_of cfg f t.0) refl counts
fitting-does cfg f (choice.Start t ticket) fit counts =
    start-does cfg f t ticket (actor_of cfg f t.0) refl
    (and_parts (is_thread cfg t && is_thread cfg ticket.thread) (wants_next (want_of cfg f t.0)) fit).1
fitting-does cfg f (choice.Idle t) fit counts = idle-does cfg f t (actor_of cfg f t.0)
fitting-does cfg f (choice.Ring line by) fit counts = (refl, refl)

-- what a choice that fits does to the calls
pub step-does : (cfg : Config) (f : Flat) (c : Choice) → fits cfg f c ≡ true → KeepsCounts f →
    EventDoes cfg f c (state_after cfg f c).shared (reply_to cfg f c)
step-does cfg f c fit counts =
    subst (λ (p : Flat × Reply). EventDoes cfg f c p.0.shared p.1) (sym (step-fits cfg f c fit)) (fitting-does cfg f c fit counts)
