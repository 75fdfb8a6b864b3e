-- The calls at each place of a legal log: what the next entry does to them, and that each was posted before.
use Rattle.std.proofs.Common.{◌≡◌, ℕ, zero, suc, ◌+◌, ◌<◌, ◌≤◌, Bool, true, List, [], ◌∷◌, ◌++◌, Option, Some, refl, sym, ap, ◌∙◌, subst, arith, nat_eq, inl, inr}
use Rattle.std.specs.List.{AllByRecursion}
use Rattle.std.proofs.lemmas.Bool.{and_parts, cases_order, eqb-true, false≢true, true≢false}
use Rattle.addr_base.specs.declared.identity.BoxId.{BoxId}
use Rattle.addr_base.specs.declared.identity.ThreadId.{ThreadId}
use Rattle.addr_base.specs.declared.identity.Ticket.{Ticket}
use Rattle.flat_model.specs.declared.events.Choice.{Choice}
use Rattle.flat_model.specs.declared.events.Choice.TheVariants as choice
use Rattle.flat_model.specs.declared.events.Reply.{Reply}
use Rattle.flat_model.specs.declared.events.Reply.TheVariants as reply
use Rattle.flat_model.specs.declared.events.Started.{Started}
use Rattle.flat_model.specs.declared.events.Want.{Want}
use Rattle.flat_model.specs.declared.events.Want.TheVariants as want
use Rattle.flat_model.specs.declared.logs.Log.{Log}
use Rattle.flat_model.specs.declared.parts.Config.{Config}
use Rattle.flat_model.specs.declared.states.Call.{Call}
use Rattle.flat_model.specs.declared.states.CallState.{CallState}
use Rattle.flat_model.specs.declared.states.CallState.TheVariants as state
use Rattle.flat_model.specs.declared.states.Flat.{Flat}
use Rattle.flat_model.specs.declared.states.Shared.{Shared}
use Rattle.flat_model.specs.CallRows.{home_of}
use Rattle.flat_model.specs.Calls.{calls_of, in_state, is_posted, is_posted_to, next_call, with_state}
use Rattle.flat_model.specs.Legal.{IsLegal}
use Rattle.flat_model.specs.Run.{opening_state}
use Rattle.flat_model.specs.Sound.{IsSound}
use Rattle.flat_model.specs.Step.{state_after}
use Rattle.flat_model.specs.Want.{want_of}
use Rattle.flat_model.proofs.Elements.{each-append, each-map, each_weaker}
use Rattle.uvisor_run.specs.CallLaws.{IsEntryAt, IsServerOf, PostsAt, WasPosted, state_at}
use Rattle.uvisor_run.proofs.CallEvents.{EventDoes, StartDoes, TurnDoes, begins, collects, finishes, posts, stays, step-does, ticket_of, waits}
use Rattle.uvisor_run.proofs.CallStates.{CallsGo, IsInOrder, calls_of-own, each-find, find-pass, go-counts, grow, in_order-go, in_state-target, in_state-ticket, move, next-is, same-ticket, stay, waits_by}
use Rattle.uvisor_run.proofs.LogPlaces.{Place, climbs, end, entry, going-at, place_at, step-at}

-- the calls before the entry at this place
abbrev pub calls_at : Config → Log → ℕ → List Call
calls_at cfg log i = (state_at cfg log i).shared.calls

calls-opening : (cfg : Config) → (opening_state cfg).shared.calls ≡ []
unfolding opening_state
calls-opening cfg = refl

-- ---- what an event may do

turn-go : (t : ThreadId) (room : Bool) (w : Want) (asked : Option ℕ) (calls after : List Call) (serving kept : List (Option Ticket)) (r : Reply) → TurnDoes t room w asked calls after serving kept r → CallsGo calls after
turn-go t room w asked calls after serving kept r (stays is left quiet) = stay is
turn-go t room w asked calls after serving kept r (posts c new left ticket free target told is) =
    grow c
    (ap (λ (k : Ticket). k.seq) ticket ∙ ap (λ u. calls_of u calls + 1) (sym (ap (λ (k : Ticket). k.thread.0) ticket))) is
turn-go t room w asked calls after serving kept r (finishes ticket value b served left told is) = move ticket (state.Done value) refl is
turn-go t room w asked calls after serving kept r (collects seq value left asks there told is) = move (ticket_of t seq) state.Collected refl is

start-go : (cfg : Config) (t : ThreadId) (ticket : Ticket) (calls after : List Call) (serving kept : List (Option Ticket)) (r : Reply) → StartDoes cfg t ticket calls after serving kept r → CallsGo calls after
start-go cfg t ticket calls after serving kept r (waits is left told) = stay is
start-go cfg t ticket calls after serving kept r (begins c left server found is told) = move ticket state.Started refl is

event-go : (cfg : Config) (f : Flat) (c : Choice) (after : Shared) (r : Reply) → EventDoes cfg f c after r → CallsGo f.shared.calls after.calls
event-go cfg f (choice.Turn t room) after r it = turn-go t room _ _ f.shared.calls after.calls f.shared.serving after.serving r it
event-go cfg f (choice.Start t ticket) after r it = start-go cfg t ticket f.shared.calls after.calls f.shared.serving after.serving r it
event-go cfg f (choice.Idle t) after r it = stay it.0
event-go cfg f (choice.Ring line by) after r it = stay it.0

-- a turn that tells a new call's number tells the next one of its thread
told-number : (t : ThreadId) (room : Bool) (w : Want) (asked : Option ℕ) (calls after : List Call) (serving kept : List (Option Ticket)) (seq : ℕ) → TurnDoes t room w asked calls after serving kept (reply.Posted seq) →
    (seq ≡ calls_of t.0 calls + 1) × (seq ≤ calls_of t.0 after)
told-number t room w asked calls after serving kept seq (stays is left quiet) = absurd (false≢true quiet)
told-number t room w asked calls after serving kept seq (posts c new left ticket free target told is) =
    let same : seq ≡ c.ticket.seq = cc in
    let number : c.ticket.seq ≡ calls_of t.0 calls + 1 = ap (λ (k : Ticket). k.seq) ticket in
    let own : calls_of t.0 (calls ++ c ∷ []) ≡ calls_of t.0 calls + 1 =
    subst (λ u. calls_of u (calls ++ c ∷ []) ≡ calls_of u calls + 1) (ap (λ (k : Ticket). k.thread.0) ticket) (calls_of-own calls c) in
    let more : calls_of t.0 after ≡ calls_of t.0 (calls ++ c ∷ []) = ap (calls_of t.0) is in
    (same ∙ number, omega (arith, same, number, own, more))
told-number t room w asked calls after serving kept seq (finishes ticket value b served left told is) = absurd (let e : reply.Posted seq ≡ reply.Done = told in cc)
told-number t room w asked calls after serving kept seq (collects number value left asks there told is) = absurd (let e : reply.Posted seq ≡ reply.Value value = told in cc)

-- a start that is told as begun took the next call
pub record Begins (cfg : Config) (t : ThreadId) (ticket : Ticket) (calls after : List Call) : Type 0 where
  pub call : Call
  pub server : IsServerOf cfg (home_of cfg t.0) t
  pub next : next_call ticket (home_of cfg t.0).0 calls ≡ Some call
  pub is : after ≡ with_state ticket state.Started calls

pub told-begun : (cfg : Config) (t : ThreadId) (ticket : Ticket) (calls after : List Call) (serving kept : List (Option Ticket)) (started : Started) → StartDoes cfg t ticket calls after serving kept (reply.Begun started) →
    Begins cfg t ticket calls after
told-begun cfg t ticket calls after serving kept started (waits is left told) = absurd (true≢false told)
told-begun cfg t ticket calls after serving kept started (begins c left server found is told) = record { call = c; server = server; next = found; is = is }

-- the call that was next is the ticket's, is posted to the box, and each has what it has
pub record IsNext (ticket : Ticket) (b : ℕ) (calls : List Call) (c : Call) : Type 0 where
  pub same : ticket ≡ c.ticket
  pub posted : is_posted c.state ≡ true
  pub target : c.target.0 ≡ b
  pub passes : waits_by ticket.thread.0 b c ≡ true

pub is-next : (ticket : Ticket) (b : ℕ) (calls : List Call) (c : Call) → next_call ticket b calls ≡ Some c → IsNext ticket b calls c
is-next ticket b calls c found =
    let it = next-is ticket b calls c found in
    let pass = find-pass (waits_by ticket.thread.0 b) calls c it.0 in
    let to = and_parts (is_posted c.state) (nat_eq c.target.0 b) (and_parts (is_posted_to b c) (nat_eq c.ticket.thread.0 ticket.thread.0) pass).0 in
    record { same = same-ticket ticket c.ticket it.1; posted = to.0; target = eqb-true c.target.0 b to.1; passes = pass }

-- its number is one that its thread has made
pub number-made : (ticket : Ticket) (b : ℕ) (calls : List Call) (c : Call) → IsInOrder calls → next_call ticket b calls ≡ Some c →
    ticket.seq ≤ calls_of ticket.thread.0 calls
number-made ticket b calls c order found =
    subst (λ (k : Ticket). k.seq ≤ calls_of k.thread.0 calls) (sym (is-next ticket b calls c found).same)
    (each-find (λ (d : Call). d.ticket.seq ≤ calls_of d.ticket.thread.0 calls) (waits_by ticket.thread.0 b) calls c order.below (next-is ticket b calls c found).0)

-- each of the calls was posted before this place
abbrev pub WerePosted : Config → Log → ℕ → List Call → Type 0
WerePosted cfg log i calls = AllByRecursion (λ c. WasPosted cfg log i c.ticket c.target) calls

-- ---- places

module _ (cfg : Config) (log : Log) (sound : IsSound cfg) (legal : IsLegal cfg log) where
  -- what the entry at a place does to the calls
  pub does-at : (i : ℕ) (c : Choice) (r : Reply) → IsEntryAt log i c r → EventDoes cfg (state_at cfg log i) c (state_at cfg log (suc i)).shared r
  does-at i c r here =
      let f : Flat = state_at cfg log i in
      let it = step-at cfg log sound legal i c r here in
      subst (λ (g : Flat). EventDoes cfg (state_at cfg log i) c g.shared r) (sym it.goes)
      (subst (λ (x : Reply). EventDoes cfg (state_at cfg log i) c (state_after cfg (state_at cfg log i) c).shared x) (sym it.reply)
      (step-does cfg f c it.fit (going-at cfg log sound legal i).counts))

  pub go-at : (i : ℕ) → CallsGo (calls_at cfg log i) (calls_at cfg log (suc i))
  go-at i = by_place (place_at cfg log sound legal i)
    where
      by_place : Place cfg log i → CallsGo (calls_at cfg log i) (calls_at cfg log (suc i))
      by_place (entry c r here) = event-go cfg (state_at cfg log i) c (state_at cfg log (suc i)).shared r (does-at i c r here)
      by_place (end is) = stay (ap (λ (f : Flat). f.shared.calls) is)

  -- the calls are in order at each place
  pub order-at : (i : ℕ) → IsInOrder (calls_at cfg log i)
  order-at zero = subst IsInOrder (sym (calls-opening cfg)) (record { below = tt; ascends = tt })
  order-at (suc i) = in_order-go (calls_at cfg log i) (calls_at cfg log (suc i)) (go-at i) (order-at i)

  -- how many calls a thread made only grows
  pub counts-climb : (u i j : ℕ) → i ≤ j → calls_of u (calls_at cfg log i) ≤ calls_of u (calls_at cfg log j)
  counts-climb u i j low =
      climbs (λ k. calls_of u (calls_at cfg log i) ≤ calls_of u (calls_at cfg log k)) i
      (λ k few. let up = go-counts u (calls_at cfg log k) (calls_at cfg log (suc k)) (go-at k) in omega (arith, few, up)) j low (omega arith)

  -- ---- posting

  pub number-posted : (i : ℕ) (ticket : Ticket) (b : BoxId) → PostsAt cfg log i ticket b →
      (ticket.seq ≡ calls_of ticket.thread.0 (calls_at cfg log i) + 1) × (ticket.seq ≤ calls_of ticket.thread.0 (calls_at cfg log (suc i)))
  number-posted i ticket b it =
      told-number ticket.thread true _ _ (calls_at cfg log i) (calls_at cfg log (suc i)) _ _ ticket.seq
      (does-at i (choice.Turn ticket.thread true) (reply.Posted ticket.seq) it.entry)

  -- a thread's later call has the higher number
  pub numbers-ascend : (first second : Ticket) (b c : BoxId) (p q : ℕ) → first.thread ≡ second.thread →
      PostsAt cfg log p first b → PostsAt cfg log q second c → p < q → first.seq < second.seq
  numbers-ascend first second b c p q same one two less =
      let low = (number-posted p first b one).1 in
      let up = counts-climb first.thread.0 (suc p) q less in
      let high = (number-posted q second c two).0 in
      let equal : calls_of first.thread.0 (calls_at cfg log q) ≡ calls_of second.thread.0 (calls_at cfg log q) =
      ap (λ (t : ThreadId). calls_of t.0 (calls_at cfg log q)) same in
      omega (arith, low, up, high, equal)

  -- no two entries post the same ticket
  pub posted-once : (ticket : Ticket) (b c : BoxId) (i j : ℕ) → PostsAt cfg log i ticket b → PostsAt cfg log j ticket c → i ≡ j
  posted-once ticket b c i j one two = elim (cases_order i j) [
    | inl same ↦ same
    | inr (inl before) ↦ absurd (let less = numbers-ascend ticket ticket b c i j refl one two before in omega (arith, less))
    | inr (inr behind) ↦ absurd (let less = numbers-ascend ticket ticket c b j i refl two one behind in omega (arith, less))
  ]

  later-posted : (i : ℕ) (calls : List Call) → WerePosted cfg log i calls → WerePosted cfg log (suc i) calls
  later-posted i calls all =
      each_weaker (λ (c : Call). WasPosted cfg log i c.ticket c.target) (λ (c : Call). WasPosted cfg log (suc i) c.ticket c.target)
      (λ c it. record { place = it.place; earlier = let less = it.earlier in omega (arith, less); posts = it.posts }) calls all

  moved-posted : (i : ℕ) (ticket : Ticket) (s : CallState) (calls : List Call) → WerePosted cfg log i calls → WerePosted cfg log i (with_state ticket s calls)
  moved-posted i ticket s calls all =
      each-map (in_state ticket s) (λ (c : Call). WasPosted cfg log i c.ticket c.target) (λ (c : Call). WasPosted cfg log i c.ticket c.target)
      (λ c it. subst (λ (b : BoxId). WasPosted cfg log i (in_state ticket s c).ticket b) (sym (in_state-target ticket s c))
      (subst (λ (k : Ticket). WasPosted cfg log i k c.target) (sym (in_state-ticket ticket s c)) it)) calls all

  turn-posted : (i : ℕ) (t : ThreadId) (room : Bool) (asked : Option ℕ) (r : Reply) (after : List Call) (serving kept : List (Option Ticket)) → IsEntryAt log i (choice.Turn t room) r →
      WerePosted cfg log i (calls_at cfg log i) → TurnDoes t room (want_of cfg (state_at cfg log i) t.0) asked (calls_at cfg log i) after serving kept r → WerePosted cfg log (suc i) after
  turn-posted i t room asked r after serving kept here all (stays is left quiet) =
      subst (WerePosted cfg log (suc i)) (sym is) (later-posted i (calls_at cfg log i) all)
  turn-posted i t room asked r after serving kept here all (posts c new left ticket free target told is) =
      let mine : t ≡ c.ticket.thread = sym (ap (λ (k : Ticket). k.thread) ticket) in
      let there : IsEntryAt log i (choice.Turn t true) (reply.Posted c.ticket.seq) =
      subst (λ (x : Reply). IsEntryAt log i (choice.Turn t true) x) told (subst (λ (x : Bool). IsEntryAt log i (choice.Turn t x) r) free here) in
      subst (WerePosted cfg log (suc i)) (sym is)
      (each-append (λ (d : Call). WasPosted cfg log (suc i) d.ticket d.target) (calls_at cfg log i) (c ∷ []) (later-posted i (calls_at cfg log i) all) (
        record {
          place = i;
          earlier = omega arith;
          posts = record {
            entry = subst (λ (x : ThreadId). IsEntryAt log i (choice.Turn x true) (reply.Posted c.ticket.seq)) mine there;
            target = subst (λ (x : ThreadId). want_of cfg (state_at cfg log i) x.0 ≡ want.Room c.target) mine target;
          };
        },
        tt,
      ))
  turn-posted i t room asked r after serving kept here all (finishes ticket value b served left told is) =
      subst (WerePosted cfg log (suc i)) (sym is)
      (moved-posted (suc i) ticket (state.Done value) (calls_at cfg log i) (later-posted i (calls_at cfg log i) all))
  turn-posted i t room asked r after serving kept here all (collects seq value left asks there told is) =
      subst (WerePosted cfg log (suc i)) (sym is)
      (moved-posted (suc i) (ticket_of t seq) state.Collected (calls_at cfg log i) (later-posted i (calls_at cfg log i) all))

  start-posted : (i : ℕ) (t : ThreadId) (ticket : Ticket) (r : Reply) (after : List Call) (serving kept : List (Option Ticket)) → WerePosted cfg log i (calls_at cfg log i) →
      StartDoes cfg t ticket (calls_at cfg log i) after serving kept r → WerePosted cfg log (suc i) after
  start-posted i t ticket r after serving kept all (waits is left told) = subst (WerePosted cfg log (suc i)) (sym is) (later-posted i (calls_at cfg log i) all)
  start-posted i t ticket r after serving kept all (begins c left server found is told) =
      subst (WerePosted cfg log (suc i)) (sym is)
      (moved-posted (suc i) ticket state.Started (calls_at cfg log i) (later-posted i (calls_at cfg log i) all))

  event-posted : (i : ℕ) (c : Choice) (r : Reply) (after : Shared) → IsEntryAt log i c r → WerePosted cfg log i (calls_at cfg log i) →
      EventDoes cfg (state_at cfg log i) c after r → WerePosted cfg log (suc i) after.calls
  event-posted i (choice.Turn t room) r after here all it = turn-posted i t room _ r after.calls _ _ here all it
  event-posted i (choice.Start t ticket) r after here all it = start-posted i t ticket r after.calls _ _ all it
  event-posted i (choice.Idle t) r after here all it = subst (WerePosted cfg log (suc i)) (sym it.0) (later-posted i (calls_at cfg log i) all)
  event-posted i (choice.Ring line by) r after here all it = subst (WerePosted cfg log (suc i)) (sym it.0) (later-posted i (calls_at cfg log i) all)

  place-posted : (i : ℕ) → WerePosted cfg log i (calls_at cfg log i) → Place cfg log i → WerePosted cfg log (suc i) (calls_at cfg log (suc i))
  place-posted i all (entry c r here) = event-posted i c r (state_at cfg log (suc i)).shared here all (does-at i c r here)
  place-posted i all (end is) =
      subst (WerePosted cfg log (suc i)) (sym (ap (λ (f : Flat). f.shared.calls) is)) (later-posted i (calls_at cfg log i) all)

  -- each call was posted before
  pub posted-at : (i : ℕ) → WerePosted cfg log i (calls_at cfg log i)
  posted-at zero = subst (WerePosted cfg log 0) (sym (calls-opening cfg)) tt
  posted-at (suc i) = place-posted i (posted-at i) (place_at cfg log sound legal i)
