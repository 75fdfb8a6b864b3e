-- A result is given once, to the thread that posted the call, and in no other way.
use Rattle.std.proofs.Common.{◌≡◌, ℕ, suc, ◌<◌, ◌≤◌, ◌⊎◌, Bool, true, false, cond, not, List, [], ◌∷◌, ◌++◌, Option, Some, None, map, refl, sym, ap, ◌∙◌, subst, inl, inr}
use Rattle.std.specs.Prelude.{find}
use Rattle.std.specs.List.{AllByRecursion}
use Rattle.std.specs.Option.{option_map_or}
use Rattle.std.proofs.lemmas.Bool.{and_cases, and_left, and_parts, and_right, both_ways, cases_Bool, cases_order, false≢true, true≢false}
use Rattle.std.proofs.lemmas.Option.{none-some, same_Some}
use Rattle.addr_base.specs.declared.identity.BoxId.{BoxId}
use Rattle.addr_base.specs.declared.identity.ThreadId.{ThreadId}
use Rattle.addr_base.specs.declared.identity.Ticket.{Ticket}
use Rattle.flat_model.specs.declared.events.Choice.{Choice}
use Rattle.flat_model.specs.declared.events.Choice.TheVariants as choice
use Rattle.flat_model.specs.declared.events.Collected.TheVariants as got
use Rattle.flat_model.specs.declared.events.Reply.{Reply}
use Rattle.flat_model.specs.declared.events.Reply.TheVariants as reply
use Rattle.flat_model.specs.declared.events.Want.{Want}
use Rattle.flat_model.specs.declared.logs.Log.{Log}
use Rattle.flat_model.specs.declared.parts.Config.{Config}
use Rattle.flat_model.specs.declared.states.Call.{Call}
use Rattle.flat_model.specs.declared.states.CallState.{CallState}
use Rattle.flat_model.specs.declared.states.CallState.TheVariants as state
use Rattle.flat_model.specs.declared.states.Flat.{Flat}
use Rattle.flat_model.specs.declared.states.Shared.{Shared}
use Rattle.flat_model.specs.Calls.{calls_of, collected_by, collected_in, in_state, is_collected, is_open_call, is_posted, open_call, same_ticket, with_state}
use Rattle.flat_model.specs.Legal.{IsLegal}
use Rattle.flat_model.specs.Sound.{IsSound}
use Rattle.flat_model.specs.Want.{want_of}
use Rattle.uvisor_run.specs.CallLaws.{GivesAt, IsEntryAt, WasPosted, asked_of, result_at, state_at}
use Rattle.uvisor_run.proofs.CallEvents.{EventDoes, StartDoes, TurnDoes, begins, collects, finishes, posts, stays, ticket_of, waits}
use Rattle.uvisor_run.proofs.CallOrder.{each-made}
use Rattle.uvisor_run.proofs.CallStates.{Lasting, calls_of-state, each-find, find-pass, lasting-go, same-ticket, ticket-apart}
use Rattle.uvisor_run.proofs.CallsAt.{calls_at, does-at, go-at, order-at, posted-at}
use Rattle.uvisor_run.proofs.LogPlaces.{Place, climbs, end, entry, place_at}

-- a turn that gives a result for which it asked collects it
told-value : (t : ThreadId) (room : Bool) (w : Want) (seq : ℕ) (calls after : List Call) (serving kept : List (Option Ticket)) (value : ℕ) → TurnDoes t room w (Some seq) calls after serving kept (reply.Value value) →
    (collected_by (ticket_of t seq) calls ≡ got.Done value) × (after ≡ with_state (ticket_of t seq) state.Collected calls)
told-value t room w seq calls after serving kept value (stays is left quiet) = absurd (false≢true quiet)
told-value t room w seq calls after serving kept value (posts c new left ticket free target told is) = absurd (let e : reply.Value value ≡ reply.Posted c.ticket.seq = told in cc)
told-value t room w seq calls after serving kept value (finishes ticket result b served left told is) = absurd (let e : reply.Value value ≡ reply.Done = told in cc)
told-value t room w seq calls after serving kept value (collects number result left asks there told is) =
    let same : seq ≡ number = same_Some seq number asks in
    let equal : value ≡ result = let e : reply.Value value ≡ reply.Value result = told in cc in (
      subst (λ n. collected_by (ticket_of t n) calls ≡ got.Done value) (sym same) (there ∙ ap (λ (n : ℕ). got.Done n) (sym equal)),
      subst (λ n. after ≡ with_state (ticket_of t n) state.Collected calls) (sym same) is,
    )

-- a result that is there is that of a call of the ticket that is not collected
pub done-open : (ticket : Ticket) (calls : List Call) (value : ℕ) → collected_by ticket calls ≡ got.Done value →
    (c : Call) × (open_call ticket calls ≡ Some c) × (collected_in c.state ≡ got.Done value)
done-open ticket calls value there = by_open (open_call ticket calls) refl there
  where
    by_open : (o : Option Call) → open_call ticket calls ≡ o → option_map_or (λ (c : Call). collected_in c.state) o got.NoSuch ≡ got.Done value →
        (c : Call) × (open_call ticket calls ≡ Some c) × (collected_in c.state ≡ got.Done value)
    by_open None is none = absurd (let e : got.NoSuch ≡ got.Done value = none in cc)
    by_open (Some c) is some = (c, is, some)

-- ---- a result that was given is there no more

-- the call is not the ticket's, or it is collected
abbrev IsClosed : Ticket → Call → Type 0
IsClosed ticket c = is_open_call ticket c ≡ false

closed-moved : (ticket other : Ticket) (s : CallState) (c : Call) → is_posted s ≡ false → IsClosed ticket c → IsClosed ticket (in_state other s c)
closed-moved ticket other s c later closed = by_open (is_open_call other c) refl
  where
    by_open : (b : Bool) → is_open_call other c ≡ b → IsClosed ticket (cond b (record c { state = s }) c)
    by_open true is = elim (and_cases (same_ticket ticket c.ticket) (not (is_collected c.state)) closed) [
      | inl apart ↦ and_left (same_ticket ticket c.ticket) (not (is_collected s)) apart
      | inr gone ↦ absurd (both_ways (not (is_collected c.state)) gone (and_parts (same_ticket other c.ticket) (not (is_collected c.state)) is).1)
    ]
    by_open false is = closed

closed-fresh : (ticket : Ticket) (c : Call) → (c.ticket.thread.0 ≡ ticket.thread.0 → ticket.seq < c.ticket.seq) → IsClosed ticket c
closed-fresh ticket c later = and_left (same_ticket ticket c.ticket) (not (is_collected c.state)) (ticket-apart ticket c.ticket later)

closed-collected : (ticket : Ticket) (c : Call) → IsClosed ticket (in_state ticket state.Collected c)
closed-collected ticket c = by_open (is_open_call ticket c) refl
  where
    by_open : (b : Bool) → is_open_call ticket c ≡ b → IsClosed ticket (cond b (record c { state = state.Collected }) c)
    by_open true is = and_right (same_ticket ticket c.ticket) false refl
    by_open false is = is

find-none : (passes : Call → Bool) (calls : List Call) → AllByRecursion (λ (c : Call). passes c ≡ false) calls → find passes calls ≡ None
find-none passes [] all = refl
find-none passes (c ∷ calls) all = ap (λ b. cond b (Some c) (find passes calls)) all.0 ∙ find-none passes calls all.1

none-found : (passes : Call → Bool) (calls : List Call) → find passes calls ≡ None → AllByRecursion (λ (c : Call). passes c ≡ false) calls
none-found passes [] none = tt
none-found passes (c ∷ calls) none = by_pass (passes c) refl (λ later. none-found passes calls later) none
  where
    by_pass : (b : Bool) → passes c ≡ b → (find passes calls ≡ None → AllByRecursion (λ (d : Call). passes d ≡ false) calls) → cond b (Some c) (find passes calls) ≡ None →
        AllByRecursion (λ (d : Call). passes d ≡ false) (c ∷ calls)
    by_pass true pass rest here = absurd (none-some c (sym here))
    by_pass false pass rest later = (pass, rest later)

-- ---- the calls of a ticket where there is nothing to get

-- an open call gives something
open-some : (s : CallState) → is_collected s ≡ false → collected_in s ≡ got.NoSuch → ⊥
open-some state.Posted live none = let e : got.Waiting ≡ got.NoSuch = none in cc
open-some state.Started live none = let e : got.Waiting ≡ got.NoSuch = none in cc
open-some (state.Done value) live none = let e : got.Done value ≡ got.NoSuch = none in cc
open-some state.Collected live none = true≢false live

unnot : (b : Bool) → not b ≡ true → b ≡ false
unnot true is = sym is
unnot false is = refl

nothing-open : (ticket : Ticket) (calls : List Call) → collected_by ticket calls ≡ got.NoSuch → open_call ticket calls ≡ None
nothing-open ticket calls none = by_open (open_call ticket calls) refl none
  where
    by_open : (o : Option Call) → open_call ticket calls ≡ o → option_map_or (λ (c : Call). collected_in c.state) o got.NoSuch ≡ got.NoSuch → o ≡ None
    by_open None is gone = refl
    by_open (Some c) is gone =
        let pass = find-pass (is_open_call ticket) calls c is in
        absurd (open-some c.state (unnot (is_collected c.state) (and_parts (same_ticket ticket c.ticket) (not (is_collected c.state)) pass).1) gone)

ticket-other : (ticket other third : Ticket) → same_ticket other ticket ≡ false → same_ticket other third ≡ true → same_ticket ticket third ≡ false
ticket-other ticket other third another its = elim (cases_Bool (same_ticket ticket third)) [
  | inl mine ↦ absurd (both_ways (same_ticket other ticket) another
      (subst (λ (k : Ticket). same_ticket other k ≡ true) (sym (same-ticket ticket third mine)) its))
  | inr apart ↦ apart
]

-- what was open stays so, unless it is collected by this ticket
reopened : (ticket other : Ticket) (s : CallState) (c : Call) → (is_collected s ≡ false) ⊎ (same_ticket other ticket ≡ false) → IsClosed ticket (in_state other s c) → IsClosed ticket c
reopened ticket other s c spared closed = by_open (is_open_call other c) refl closed
  where
    by_open : (b : Bool) → is_open_call other c ≡ b → IsClosed ticket (cond b (record c { state = s }) c) → IsClosed ticket c
    by_open true is gone = elim (and_cases (same_ticket ticket c.ticket) (not (is_collected s)) gone) [
      | inl apart ↦ and_left (same_ticket ticket c.ticket) (not (is_collected c.state)) apart
      | inr taken ↦ elim spared [
        | inl live ↦ absurd (both_ways (not (is_collected s)) taken (ap not live))
        | inr another ↦ and_left (same_ticket ticket c.ticket) (not (is_collected c.state))
            (ticket-other ticket other c.ticket another (and_parts (same_ticket other c.ticket) (not (is_collected c.state)) is).0)
      ]
    ]
    by_open false is same = same

each-before : (P : Call → Type 0) (g : Call → Call) → ((c : Call) → P (g c) → P c) → (calls : List Call) → AllByRecursion P (map g calls) → AllByRecursion P calls
each-before P g back [] all = tt
each-before P g back (c ∷ calls) all = (back c all.0, each-before P g back calls all.1)

each-front : (P : Call → Type 0) (calls more : List Call) → AllByRecursion P (calls ++ more) → AllByRecursion P calls
each-front P [] more all = tt
each-front P (c ∷ calls) more all = (all.0, each-front P calls more all.1)

-- all calls are closed for the ticket where there is nothing to get
closed-all : (ticket : Ticket) (calls : List Call) → collected_by ticket calls ≡ got.NoSuch → AllByRecursion (IsClosed ticket) calls
closed-all ticket calls none = none-found (is_open_call ticket) calls (nothing-open ticket calls none)

-- and then no result is there
closed-not_done : (ticket : Ticket) (calls : List Call) (value : ℕ) → AllByRecursion (IsClosed ticket) calls → collected_by ticket calls ≡ got.Done value → ⊥
closed-not_done ticket calls value all there =
    let it = done-open ticket calls value there in
    none-some it.0 (sym (find-none (is_open_call ticket) calls all) ∙ it.1)

-- ---- places

module _ (cfg : Config) (log : Log) (sound : IsSound cfg) (legal : IsLegal cfg log) where
  gives : (i : ℕ) (ticket : Ticket) (value : ℕ) → GivesAt cfg log i ticket value →
      (collected_by ticket (calls_at cfg log i) ≡ got.Done value) × (calls_at cfg log (suc i) ≡ with_state ticket state.Collected (calls_at cfg log i))
  gives i ticket value it =
      told-value ticket.thread it.room (want_of cfg (state_at cfg log i) ticket.thread.0) ticket.seq (calls_at cfg log i) (calls_at cfg log (suc i)) (state_at cfg log i).shared.serving (state_at cfg log (suc i)).shared.serving value
      (subst (λ (o : Option ℕ). TurnDoes ticket.thread it.room (want_of cfg (state_at cfg log i) ticket.thread.0) o (calls_at cfg log i) (calls_at cfg log (suc i)) (state_at cfg log i).shared.serving (state_at cfg log (suc i)).shared.serving (reply.Value value))
      it.asked (does-at cfg log sound legal i (choice.Turn ticket.thread it.room) (reply.Value value) it.entry))

  closed-behind : (i : ℕ) (ticket : Ticket) (value : ℕ) → GivesAt cfg log i ticket value → AllByRecursion (IsClosed ticket) (calls_at cfg log (suc i))
  closed-behind i ticket value it =
      subst (AllByRecursion (IsClosed ticket)) (sym (gives i ticket value it).1)
      (each-made (IsClosed ticket) (in_state ticket state.Collected) (closed-collected ticket) (calls_at cfg log i))

  -- the ticket's call, which is there while its result is
  pub call-done : (i : ℕ) (ticket : Ticket) (value : ℕ) → collected_by ticket (calls_at cfg log i) ≡ got.Done value →
      (P : Ticket → BoxId → Type 0) → AllByRecursion (λ (c : Call). P c.ticket c.target) (calls_at cfg log i) → (b : BoxId) × P ticket b
  call-done i ticket value there P all =
      let it = done-open ticket (calls_at cfg log i) value there in
      let c : Call = it.0 in
      let pass = find-pass (is_open_call ticket) (calls_at cfg log i) c it.1 in
      let same = same-ticket ticket c.ticket (and_parts (same_ticket ticket c.ticket) (not (is_collected c.state)) pass).0 in (
        c.target,
        subst (λ (k : Ticket). P k c.target) (sym same)
            (each-find (λ (d : Call). P d.ticket d.target) (is_open_call ticket) (calls_at cfg log i) c all it.1),
      )

  again : (ticket : Ticket) (v w : ℕ) (i j : ℕ) → GivesAt cfg log i ticket v → GivesAt cfg log j ticket w → i < j → ⊥
  again ticket v w i j one two less =
      let made = (call-done i ticket v (gives i ticket v one).0 (λ k b. k.seq ≤ calls_of k.thread.0 (calls_at cfg log i)) (order-at cfg log sound legal i).below).1 in
      let first : Lasting (IsClosed ticket) ticket.thread.0 ticket.seq (calls_at cfg log (suc i)) =
      record {
        made = subst (λ (cs : List Call). ticket.seq ≤ calls_of ticket.thread.0 cs) (sym (gives i ticket v one).1)
            (subst (λ n. ticket.seq ≤ n) (sym (calls_of-state ticket.thread.0 ticket state.Collected (calls_at cfg log i))) made);
        each = closed-behind i ticket v one;
      } in
      let later = climbs (λ k. Lasting (IsClosed ticket) ticket.thread.0 ticket.seq (calls_at cfg log k)) (suc i)
      (λ k here. lasting-go (IsClosed ticket) ticket.thread.0 ticket.seq (closed-moved ticket) (closed-fresh ticket) (calls_at cfg log k) (calls_at cfg log (suc k)) (go-at cfg log sound legal k) here)
      j less first in
      closed-not_done ticket (calls_at cfg log j) w later.each (gives j ticket w two).0

  -- no two entries give the result of the same call
  pub given-once : (ticket : Ticket) (v w : ℕ) (i j : ℕ) → GivesAt cfg log i ticket v → GivesAt cfg log j ticket w → i ≡ j
  given-once ticket v w i j one two = elim (cases_order i j) [
    | inl same ↦ same
    | inr (inl before) ↦ absurd (again ticket v w i j one two before)
    | inr (inr behind) ↦ absurd (again ticket w v j i two one behind)
  ]

  -- the call was posted before by the thread that gets the result
  pub given-posted : (ticket : Ticket) (v : ℕ) (i : ℕ) → GivesAt cfg log i ticket v → (b : BoxId) × WasPosted cfg log i ticket b
  given-posted ticket v i it =
      call-done i ticket v (gives i ticket v it).0 (λ k b. WasPosted cfg log i k b) (posted-at cfg log sound legal i)

  -- the result is there before and gone behind
  pub given-result : (ticket : Ticket) (v : ℕ) (i : ℕ) → GivesAt cfg log i ticket v →
      (result_at cfg log i ticket ≡ got.Done v) × (result_at cfg log (suc i) ticket ≡ got.NoSuch)
  given-result ticket v i it = (
    (gives i ticket v it).0,
    ap (λ (o : Option Call). option_map_or (λ (c : Call). collected_in c.state) o got.NoSuch)
        (find-none (is_open_call ticket) (calls_at cfg log (suc i)) (closed-behind i ticket v it)),
  )

-- ---- the other way round

module _ (cfg : Config) (log : Log) (sound : IsSound cfg) (legal : IsLegal cfg log) (i : ℕ) (ticket : Ticket) (v : ℕ)
    (there : collected_by ticket (calls_at cfg log i) ≡ got.Done v) where
  stays-not : (after : List Call) → after ≡ calls_at cfg log i → AllByRecursion (IsClosed ticket) after → ⊥
  stays-not after is gone = closed-not_done ticket (calls_at cfg log i) v (subst (AllByRecursion (IsClosed ticket)) is gone) there

  moves-not : (after : List Call) (other : Ticket) (s : CallState) → (is_collected s ≡ false) ⊎ (same_ticket other ticket ≡ false) →
      after ≡ with_state other s (calls_at cfg log i) → AllByRecursion (IsClosed ticket) after → ⊥
  moves-not after other s spared is gone =
      closed-not_done ticket (calls_at cfg log i) v
      (each-before (IsClosed ticket) (in_state other s) (λ c closed. reopened ticket other s c spared closed) (calls_at cfg log i)
      (subst (AllByRecursion (IsClosed ticket)) is gone)) there

  turn-gives : (t : ThreadId) (room : Bool) (r : Reply) (after : List Call) (serving kept : List (Option Ticket)) → IsEntryAt log i (choice.Turn t room) r → AllByRecursion (IsClosed ticket) after →
      TurnDoes t room (want_of cfg (state_at cfg log i) t.0) (asked_of cfg (state_at cfg log i) t.0) (calls_at cfg log i) after serving kept r → GivesAt cfg log i ticket v
  turn-gives t room r after serving kept here gone (stays is left quiet) = absurd (stays-not after is gone)
  turn-gives t room r after serving kept here gone (posts c new left number free target told is) =
      absurd (closed-not_done ticket (calls_at cfg log i) v
      (each-front (IsClosed ticket) (calls_at cfg log i) (c ∷ []) (subst (AllByRecursion (IsClosed ticket)) is gone)) there)
  turn-gives t room r after serving kept here gone (finishes other value b served left told is) = absurd (moves-not after other (state.Done value) (inl refl) is gone)
  turn-gives t room r after serving kept here gone (collects seq value left asks found told is) = elim (cases_Bool (same_ticket (ticket_of t seq) ticket)) [
    | inr another ↦ absurd (moves-not after (ticket_of t seq) state.Collected (inr another) is gone)
    | inl same ↦
        let own : ticket_of t seq ≡ ticket = same-ticket (ticket_of t seq) ticket same in
        let dones : got.Done value ≡ got.Done v =
        sym found ∙ (ap (λ (k : Ticket). collected_by k (calls_at cfg log i)) own ∙ there) in
        let equal : value ≡ v = cc in
        let entered : IsEntryAt log i (choice.Turn t room) (reply.Value v) =
        subst (λ n. IsEntryAt log i (choice.Turn t room) (reply.Value n)) equal (subst (λ (x : Reply). IsEntryAt log i (choice.Turn t room) x) told here) in
        record {
          room = room;
          entry = subst (λ (k : Ticket). IsEntryAt log i (choice.Turn k.thread room) (reply.Value v)) own entered;
          asked = subst (λ (k : Ticket). asked_of cfg (state_at cfg log i) k.thread.0 ≡ Some k.seq) own asks;
        }
  ]

  start-not : (t : ThreadId) (other : Ticket) (r : Reply) (after : List Call) (serving kept : List (Option Ticket)) → AllByRecursion (IsClosed ticket) after → StartDoes cfg t other (calls_at cfg log i) after serving kept r → ⊥
  start-not t other r after serving kept gone (waits is left told) = stays-not after is gone
  start-not t other r after serving kept gone (begins c left server found is told) = moves-not after other state.Started (inl refl) is gone

  event-gives : (c : Choice) (r : Reply) (after : Shared) → IsEntryAt log i c r → AllByRecursion (IsClosed ticket) after.calls → EventDoes cfg (state_at cfg log i) c after r → GivesAt cfg log i ticket v
  event-gives (choice.Turn t room) r after here gone it = turn-gives t room r after.calls _ _ here gone it
  event-gives (choice.Start t other) r after here gone it = absurd (start-not t other r after.calls _ _ gone it)
  event-gives (choice.Idle t) r after here gone it = absurd (stays-not after.calls it.0 gone)
  event-gives (choice.Ring line by) r after here gone it = absurd (stays-not after.calls it.0 gone)

  place-gives : AllByRecursion (IsClosed ticket) (calls_at cfg log (suc i)) → Place cfg log i → GivesAt cfg log i ticket v
  place-gives gone (entry c r here) = event-gives c r (state_at cfg log (suc i)).shared here gone (does-at cfg log sound legal i c r here)
  place-gives gone (end is) = absurd (stays-not (calls_at cfg log (suc i)) (ap (λ (f : Flat). f.shared.calls) is) gone)

-- a result that was there and is gone was given to the ticket's thread
pub result-given : (cfg : Config) (log : Log) → IsSound cfg → IsLegal cfg log → (ticket : Ticket) (v : ℕ) (i : ℕ) → result_at cfg log i ticket ≡ got.Done v → result_at cfg log (suc i) ticket ≡ got.NoSuch → GivesAt cfg log i ticket v
result-given cfg log sound legal ticket v i there none =
    place-gives cfg log sound legal i ticket v there (closed-all ticket (calls_at cfg log (suc i)) none) (place_at cfg log sound legal i)
