-- A turn with room of a thread that wants room posts a call to that box.
use Rattle.std.proofs.Common.{◌≡◌, ℕ, suc, ◌+◌, ◌-◌, ◌<◌, Bool, true, false, Option, Some, None, List, [], ◌∷◌, ◌++◌, refl, sym, ap, ◌∙◌, subst, length, arith}
use Rattle.std.specs.Prelude.{slice_get}
use Rattle.std.specs.Option.{option_map}
use Rattle.std.proofs.lemmas.Bool.{and_from, false≢true}
use Rattle.std.proofs.lemmas.Bool.Decides.{nat_tests}
use Rattle.std.proofs.lemmas.List.{length-append}
use Rattle.addr_base.specs.declared.identity.BoxId.{BoxId}
use Rattle.addr_base.specs.declared.identity.ThreadId.{ThreadId}
use Rattle.addr_base.specs.declared.identity.Ticket.{Ticket}
use Rattle.flat_model.specs.declared.actors.Who.{Who}
use Rattle.flat_model.specs.declared.classes.KernelCall.{KernelCall}
use Rattle.flat_model.specs.declared.classes.KernelCall.TheVariants as call
use Rattle.flat_model.specs.declared.events.Choice.TheVariants as choice
use Rattle.flat_model.specs.declared.events.Reply.{Reply}
use Rattle.flat_model.specs.declared.events.Reply.TheVariants as reply
use Rattle.flat_model.specs.declared.events.Want.{Want}
use Rattle.flat_model.specs.declared.events.Want.TheVariants as want
use Rattle.flat_model.specs.declared.next.Next.{Next}
use Rattle.flat_model.specs.declared.next.Next.TheVariants as next
use Rattle.flat_model.specs.declared.parts.BoxPart.{BoxPart}
use Rattle.flat_model.specs.declared.parts.Config.{Config}
use Rattle.flat_model.specs.declared.parts.RpcGate.{RpcGate}
use Rattle.flat_model.specs.declared.states.Call.{Call}
use Rattle.flat_model.specs.declared.states.Flat.{Flat}
use Rattle.flat_model.specs.declared.states.Shared.{Shared}
use Rattle.flat_model.specs.declared.states.ThreadState.{ThreadState}
use Rattle.flat_model.specs.Acting.{is_free_server}
use Rattle.flat_model.specs.Actors.{Actor, actor_of, who_acts}
use Rattle.flat_model.specs.CallRows.{call_by, gateway_for, is_server, rpc_post_row, served_ticket}
use Rattle.flat_model.specs.Next.{holds_next, next_of_actor}
use Rattle.flat_model.specs.Outcome.{Outcome}
use Rattle.flat_model.specs.Step.{reply_to, settled, state_after, step}
use Rattle.flat_model.specs.Thread.{counted}
use Rattle.flat_model.specs.ThreadEvents.{posted, posted_and_waiting}
use Rattle.flat_model.specs.Turn.{kernel_row, row_of, turn_row, within_budget}
use Rattle.flat_model.specs.Want.{fits, want_by, want_by_call, want_next, want_of, want_of_actor, want_room}
use Rattle.machine_core.specs.declared.deeds.Deed.TheVariants as deed
use Rattle.machine_core.specs.Entries.{Posts, call_posted, last_call, noted_entry}
use Rattle.machine_core.specs.Ready.{IsReady}
use Rattle.machine_core.specs.Turns.{is_plain, is_room_in, takes_claim, ticket_of, want_in}
use Rattle.machine_core.specs.View.{MachineView, world_of}
use Rattle.machine_core.proofs.TurnLemmas.{step-live}

-- the room that is wanted
room-is : (b c : BoxId) → want.Room b ≡ want.Room c → b ≡ c
room-is b c is = cc

pub some-is : {X : Type 0} (x y : X) → Some x ≡ Some y → x ≡ y
some-is x y is = cc

-- a row posts a call of the actor's thread to the box
pub record PostsRow (who : Who) (b : BoxId) (m : Shared) (out : Outcome) : Type 0 where
  pub call : Call
  pub calls : out.shared.calls ≡ m.calls ++ call ∷ []
  pub target : call.target ≡ b
  pub thread : call.ticket.thread ≡ who.thread
  pub reply : out.reply ≡ reply.Posted call.ticket.seq

module _ (cfg : Config) (a : Actor) (t : ThreadId) (b : BoxId) (m : Shared) where
  posts-gate : (th after : ThreadState) (gate : Option RpcGate) → want_room gate ≡ want.Room b →
      PostsRow (who_acts a t true) b m (rpc_post_row (who_acts a t true) m th after gate)
  posts-gate th after None wants = absurd (let e : want.Plain ≡ want.Room b = wants in cc)
  posts-gate th after (Some gate) wants = record {
    call = call_by (who_acts a t true) th gate;
    calls = refl;
    target = room-is gate.target b wants;
    thread = refl;
    reply = refl;
  }

  not-next : (s : Bool) {X : Type 0} → want_next s ≡ want.Room b → X
  not-next true wants = absurd (let e : want.Next ≡ want.Room b = wants in cc)
  not-next false wants = absurd (let e : want.Plain ≡ want.Room b = wants in cc)

  not-plain : {X : Type 0} → want.Plain ≡ want.Room b → X
  not-plain wants = absurd (cc)

  posts-call : (th : ThreadState) (c : KernelCall) → want_by_call cfg (who_acts a t true) a.part m c ≡ want.Room b →
      PostsRow (who_acts a t true) b m (kernel_row cfg (who_acts a t true) a.part m th c)
  posts-call th (call.PagesAlloc n r) wants = not-plain wants
  posts-call th (call.PageFree r) wants = not-plain wants
  posts-call th (call.IrqOn n) wants = not-plain wants
  posts-call th (call.IrqOff n) wants = not-plain wants
  posts-call th call.IrqReturn wants = not-plain wants
  posts-call th (call.GwRead d n) wants = not-plain wants
  posts-call th (call.GwWrite s n) wants = not-plain wants
  posts-call th (call.RpcCall d n) wants = posts-gate th (posted th d) (gateway_for a.program.home.0 (slice_get cfg.gateways n)) wants
  posts-call th (call.RpcSync n looks) wants =
      posts-gate th (posted_and_waiting th looks) (gateway_for a.program.home.0 (slice_get cfg.gateways n)) wants
  posts-call th call.RpcTake wants = not-next (is_free_server (who_acts a t true) a.part m) wants
  posts-call th (call.RpcReturn s) wants = not-plain wants
  posts-call th (call.RpcResult d s) wants = not-plain wants

  posts-row : (th : ThreadState) (granted : Bool) (n : Next) → want_by cfg (who_acts a t true) a.part m n ≡ want.Room b →
      PostsRow (who_acts a t true) b m (row_of cfg (who_acts a t true) a.part m th granted n)
  posts-row th granted next.Look wants = not-plain wants
  posts-row th granted (next.Deliver irq) wants = not-plain wants
  posts-row th granted (next.Local i) wants = not-plain wants
  posts-row th granted (next.Access access) wants = not-plain wants
  posts-row th granted (next.Unaligned at) wants = not-plain wants
  posts-row th granted (next.Kernel c) wants = posts-call th c wants
  posts-row th granted next.Nowhere wants = not-plain wants

-- a step posts a call of the thread to the box
pub record PostsStep (t : ThreadId) (b : BoxId) (f : Flat) (after : Flat × Reply) : Type 0 where
  pub call : Call
  pub calls : after.0.shared.calls ≡ f.shared.calls ++ call ∷ []
  pub target : call.target ≡ b
  pub thread : call.ticket.thread ≡ t
  pub reply : after.1 ≡ reply.Posted call.ticket.seq

posts-settled : (a : Actor) (t : ThreadId) (b : BoxId) (f : Flat) (out : Outcome) (steps : ℕ) → PostsRow (who_acts a t true) b f.shared out →
    PostsStep t b f (settled f t.0 (within_budget steps out))
posts-settled a t b f out steps row = record { call = row.call; calls = row.calls; target = row.target; thread = row.thread; reply = row.reply }

pub posts-step : (cfg : Config) (f : Flat) (t : ThreadId) (b : BoxId) → want_of cfg f t.0 ≡ want.Room b → fits cfg f (choice.Turn t true) ≡ true →
    PostsStep t b f (step cfg f (choice.Turn t true))
posts-step cfg f t b wants fit = by_actor (actor_of cfg f t.0) refl
  where
    by_actor : (o : Option Actor) → actor_of cfg f t.0 ≡ o → PostsStep t b f (step cfg f (choice.Turn t true))
    by_actor None none = absurd (let e : want.Plain ≡ want.Room b = sym (ap (want_of_actor cfg f.shared t) none) ∙ wants in cc)
    by_actor (Some a) acting =
        let n = next_of_actor f.shared.lines a t.0 in
        let granted = holds_next cfg.board a.program.home.0 a.part f.shared.owners n in
        subst (PostsStep t b f) (sym (step-live cfg f t a acting (deed.Turn true) fit))
        (posts-settled a t b f (row_of cfg (who_acts a t true) a.part f.shared (counted a.thread) granted n) a.program.steps
        (posts-row cfg a t b f.shared (counted a.thread) granted n (sym (ap (want_of_actor cfg f.shared t) acting) ∙ wants)))

last-pushed : (calls : List Call) (call : Call) → slice_get (calls ++ call ∷ []) (length calls) ≡ Some call
last-pushed [] call = refl
last-pushed (c ∷ calls) call = last-pushed calls call

last-is : (calls : List Call) (call : Call) → last_call (calls ++ call ∷ []) ≡ Some call
last-is calls call =
    let at : length (calls ++ call ∷ []) - 1 ≡ length calls = omega (arith, length-append calls (call ∷ [])) in
    ap (slice_get (calls ++ call ∷ [])) at ∙ last-pushed calls call

module _ (v : MachineView) (t : ThreadId) (b : BoxId) (takes : takes_claim v t b ≡ true) (ready : IsReady v t (deed.Turn true)) where
  wanted : (w : Want) → is_room_in b.0 w ≡ true → w ≡ want.Room b
  wanted want.Plain room = absurd (false≢true room)
  wanted (want.Room target) room =
      let same : target.0 ≡ b.0 = grind (arith, nat_tests) in ap (λ n. want.Room (record { 0 = n })) same
  wanted want.Next room = absurd (false≢true room)

  -- the step posts a call
  pub posting : PostsStep t b (world_of v).flat (step v.config (world_of v).flat (choice.Turn t true))
  posting = posts-step v.config (world_of v).flat t b (wanted (want_in v t) takes) ready.fit

  called : call_posted (state_after v.config (world_of v).flat (choice.Turn t true)) (reply_to v.config (world_of v).flat (choice.Turn t true))
      ≡ Some posting.call
  called =
      ap (call_posted (state_after v.config (world_of v).flat (choice.Turn t true))) posting.reply
      ∙ ap last_call posting.calls ∙ last-is (world_of v).flat.shared.calls posting.call

  -- the ticket of the reply is that of the call
  pub posts-ticket : ticket_of t (reply_to v.config (world_of v).flat (choice.Turn t true)) ≡ Some posting.call.ticket
  posts-ticket =
      ap (ticket_of t) posting.reply
      ∙ ap (λ (u : ThreadId). Some (record { thread = u; seq = posting.call.ticket.seq })) (sym posting.thread)

  -- the turn posts the call
  pub posts-turn : Posts v t b posting.call.ticket
  posts-turn = record {
    thread = posting.thread;
    call = ap (option_map (λ (call : Call). call.ticket)) called;
    noted =
        ap (λ (o : Option Call). record { entry = record { choice = choice.Turn t true; reply = reply_to v.config (world_of v).flat (choice.Turn t true) }; target = option_map (λ (call : Call). call.target) o }) called
        ∙ ap (λ (r : Reply). record { entry = record { choice = choice.Turn t true; reply = r }; target = Some posting.call.target }) posting.reply
        ∙ ap (λ (x : BoxId). record { entry = record { choice = choice.Turn t true; reply = reply.Posted posting.call.ticket.seq }; target = Some x }) posting.target;
  }

  -- the answer to it is the ticket of the call that it posts
  pub posts-answer : (r : Reply) → r ≡ reply_to v.config (world_of v).flat (choice.Turn t true) → ticket_of t r ≡ Some posting.call.ticket
  posts-answer r is = ap (ticket_of t) is ∙ posts-ticket
