-- No call is passed over: a later call of the thread to the box starts only behind the start of an earlier one.
use Rattle.std.proofs.Common.{◌≡◌, ℕ, zero, suc, ◌<◌, ◌⊎◌, length, replicate, Bool, true, false, cond, not, List, [], ◌∷◌, ◌++◌, Option, Some, None, refl, sym, ap, ◌∙◌, subst, arith, nat_eq, inl, inr}
use Rattle.std.specs.Prelude.{slice_set}
use Rattle.std.specs.List.{AllByRecursion}
use Rattle.std.proofs.lemmas.Bool.{and_from, and_parts, cases_Bool, eq-eqb, false≢true, true≢false}
use Rattle.std.proofs.lemmas.Option.{none-some, same_Some}
use Rattle.addr_base.specs.declared.identity.BoxId.{BoxId}
use Rattle.addr_base.specs.declared.identity.ThreadId.{ThreadId}
use Rattle.addr_base.specs.declared.identity.Ticket.{Ticket}
use Rattle.flat_model.specs.declared.events.Choice.{Choice}
use Rattle.flat_model.specs.declared.events.Choice.TheVariants as choice
use Rattle.flat_model.specs.declared.events.Collected.TheVariants as got
use Rattle.flat_model.specs.declared.events.Reply.{Reply}
use Rattle.flat_model.specs.declared.events.Reply.TheVariants as reply
use Rattle.flat_model.specs.declared.events.Want.{Want}
use Rattle.flat_model.specs.declared.events.Want.TheVariants as want
use Rattle.flat_model.specs.declared.logs.Log.{Log}
use Rattle.flat_model.specs.declared.parts.Config.{Config}
use Rattle.flat_model.specs.declared.states.Call.{Call}
use Rattle.flat_model.specs.declared.states.CallState.{CallState}
use Rattle.flat_model.specs.declared.states.CallState.TheVariants as state
use Rattle.flat_model.specs.declared.states.Flat.{Flat}
use Rattle.flat_model.specs.declared.states.Shared.{Shared}
use Rattle.flat_model.specs.CallRows.{home_of, served_ticket, started_from}
use Rattle.flat_model.specs.Calls.{collected_by, collected_in, in_state, is_collected, is_open_call, is_posted, is_posted_to, same_ticket, with_state}
use Rattle.flat_model.specs.Legal.{IsLegal}
use Rattle.flat_model.specs.Run.{opening_state}
use Rattle.flat_model.specs.Sound.{IsSound}
use Rattle.flat_model.specs.Want.{want_of}
use Rattle.flat_model.proofs.Elements.{each-append, each-map, each_weaker}
use Rattle.uvisor_run.specs.CallLaws.{IsEntryAt, PostsAt, StartsAt, WasPosted, state_at}
use Rattle.uvisor_run.proofs.CallEvents.{EventDoes, StartDoes, TurnDoes, begins, collects, finishes, posts, stays, ticket_of, waits}
use Rattle.uvisor_run.proofs.CallOrder.{starts}
use Rattle.uvisor_run.proofs.CallResults.{done-open}
use Rattle.uvisor_run.proofs.CallStates.{CallsGo, IsLeast, each-find, find-pass, grow, in_state-target, in_state-ticket, move, next-is, oldest-least, same-ticket, stay, waits_by}
use Rattle.uvisor_run.proofs.CallsAt.{calls_at, does-at, go-at, is-next, numbers-ascend, order-at, posted-at, posted-once}
use Rattle.uvisor_run.proofs.LogPlaces.{Place, climbs, end, entry, place_at}

-- ---- the ticket's call is among the calls

-- one of the calls is the ticket's, to this box
abbrev pub Has : Ticket → BoxId → List Call → Type 0
Has ticket b [] = ⊥
Has ticket b (c ∷ calls) = ((c.ticket ≡ ticket) × (c.target ≡ b)) ⊎ Has ticket b calls

has-last : (ticket : Ticket) (b : BoxId) (calls : List Call) (c : Call) → c.ticket ≡ ticket → c.target ≡ b → Has ticket b (calls ++ c ∷ [])
has-last ticket b [] c own to = inl (own, to)
has-last ticket b (d ∷ calls) c own to = inr (has-last ticket b calls c own to)

has-front : (ticket : Ticket) (b : BoxId) (calls more : List Call) → Has ticket b calls → Has ticket b (calls ++ more)
has-front ticket b [] more has = absurd has
has-front ticket b (c ∷ calls) more (inl here) = inl here
has-front ticket b (c ∷ calls) more (inr later) = inr (has-front ticket b calls more later)

has-state : (ticket : Ticket) (b : BoxId) (other : Ticket) (s : CallState) (calls : List Call) → Has ticket b calls → Has ticket b (with_state other s calls)
has-state ticket b other s [] has = has
has-state ticket b other s (c ∷ calls) (inl here) = inl (in_state-ticket other s c ∙ here.0, in_state-target other s c ∙ here.1)
has-state ticket b other s (c ∷ calls) (inr later) = inr (has-state ticket b other s calls later)

has-go : (ticket : Ticket) (b : BoxId) (calls after : List Call) → CallsGo calls after → Has ticket b calls → Has ticket b after
has-go ticket b calls after (stay is) has = subst (Has ticket b) (sym is) has
has-go ticket b calls after (move other s later is) has = subst (Has ticket b) (sym is) (has-state ticket b other s calls has)
has-go ticket b calls after (grow c seq is) has = subst (Has ticket b) (sym is) (has-front ticket b calls (c ∷ []) has)

-- what each call has, the ticket's has
has-each : (P : Call → Type 0) (ticket : Ticket) (b : BoxId) (calls : List Call) → Has ticket b calls → AllByRecursion P calls →
    (c : Call) × (c.ticket ≡ ticket) × (c.target ≡ b) × P c
has-each P ticket b [] has each = absurd has
has-each P ticket b (c ∷ calls) (inl here) each = (c, here.0, here.1, each.0)
has-each P ticket b (c ∷ calls) (inr later) each = has-each P ticket b calls later each.1

each-both : (P Q : Call → Type 0) (calls : List Call) → AllByRecursion P calls → AllByRecursion Q calls → AllByRecursion (λ (c : Call). P c × Q c) calls
each-both P Q [] first second = tt
each-both P Q (c ∷ calls) first second = ((first.0, second.0), each-both P Q calls first.1 second.1)

-- a turn that tells a new call's number has made the call
told-has : (t : ThreadId) (room : Bool) (w : Want) (asked : Option ℕ) (calls after : List Call) (serving kept : List (Option Ticket)) (seq : ℕ) (b : BoxId) → w ≡ want.Room b →
    TurnDoes t room w asked calls after serving kept (reply.Posted seq) → Has (ticket_of t seq) b after
told-has t room w asked calls after serving kept seq b wants (stays is left quiet) = absurd (false≢true quiet)
told-has t room w asked calls after serving kept seq b wants (posts c new left ticket free target told is) =
    let number : seq ≡ c.ticket.seq = cc in
    let rooms : want.Room c.target ≡ want.Room b = sym target ∙ wants in
    let to : c.target ≡ b = cc in
    let thread : c.ticket.thread ≡ t = ap (λ (k : Ticket). k.thread) ticket in
    let own : c.ticket ≡ ticket_of t seq = ap (λ (u : ThreadId). ticket_of u c.ticket.seq) thread ∙ ap (λ n. ticket_of t n) (sym number) in
    subst (Has (ticket_of t seq) b) (sym is) (has-last (ticket_of t seq) b calls c own to)
told-has t room w asked calls after serving kept seq b wants (finishes ticket value home served left told is) = absurd (let e : reply.Posted seq ≡ reply.Done = told in cc)
told-has t room w asked calls after serving kept seq b wants (collects number value left asks there told is) = absurd (let e : reply.Posted seq ≡ reply.Value value = told in cc)

-- ---- what is not posted has started

-- the ticket's call was started before this place
pub record HasStarted (log : Log) (i : ℕ) (ticket : Ticket) : Type 0 where
  pub place : ℕ
  pub earlier : place < i
  pub thread : ThreadId
  pub starts : StartsAt log place thread ticket

later-started : (log : Log) (i : ℕ) (ticket : Ticket) → HasStarted log i ticket → HasStarted log (suc i) ticket
later-started log i ticket it = record { place = it.place; earlier = let less = it.earlier in omega (arith, less); thread = it.thread; starts = it.starts }

-- if the call is not posted, it was started before this place
abbrev pub IsStarted : Log → ℕ → Call → Type 0
IsStarted log i c = is_posted c.state ≡ false → HasStarted log i c.ticket

-- if this is a call that is served, it was started before this place
abbrev pub IsServed : Log → ℕ → Option Ticket → Type 0
IsServed log i o = (ticket : Ticket) → o ≡ Some ticket → HasStarted log i ticket

-- each call that is not posted, and each that is served, was started before this place
pub record WereStarted (log : Log) (i : ℕ) (calls : List Call) (serving : List (Option Ticket)) : Type 0 where
  pub each : AllByRecursion (IsStarted log i) calls
  pub served : AllByRecursion (IsServed log i) serving

each-set : (P : Option Ticket → Type 0) (xs : List (Option Ticket)) (i : ℕ) (x : Option Ticket) → AllByRecursion P xs → P x → AllByRecursion P (slice_set xs i x)
each-set P [] i x each one = tt
each-set P (y ∷ ys) zero x each one = (one, each.1)
each-set P (y ∷ ys) (suc i) x each one = (each.0, each-set P ys i x each.1 one)

served-each : (log : Log) (i : ℕ) (serving : List (Option Ticket)) (b : ℕ) (ticket : Ticket) → AllByRecursion (IsServed log i) serving → served_ticket serving b ≡ Some ticket →
    HasStarted log i ticket
served-each log i [] b ticket each is = absurd (none-some ticket is)
served-each log i (o ∷ serving) zero ticket each is = each.0 ticket is
served-each log i (o ∷ serving) (suc b) ticket each is = served-each log i serving b ticket each.1 is

later-calls : (log : Log) (i : ℕ) (calls : List Call) → AllByRecursion (IsStarted log i) calls → AllByRecursion (IsStarted log (suc i)) calls
later-calls log i calls all =
    each_weaker (IsStarted log i) (IsStarted log (suc i)) (λ c it gone. later-started log i c.ticket (it gone)) calls all

later-serving : (log : Log) (i : ℕ) (serving : List (Option Ticket)) → AllByRecursion (IsServed log i) serving → AllByRecursion (IsServed log (suc i)) serving
later-serving log i serving all =
    each_weaker (IsServed log i) (IsServed log (suc i)) (λ o it ticket is. later-started log i ticket (it ticket is)) serving all

-- a call that started may go on
in_state-started : (log : Log) (i : ℕ) (ticket : Ticket) (s : CallState) (c : Call) → HasStarted log i ticket → IsStarted log i c → IsStarted log i (in_state ticket s c)
in_state-started log i ticket s c has it = by_open (is_open_call ticket c) refl
  where
    by_open : (b : Bool) → is_open_call ticket c ≡ b → IsStarted log i (cond b (record c { state = s }) c)
    by_open true is = λ gone. subst (HasStarted log i) (same-ticket ticket c.ticket (and_parts (same_ticket ticket c.ticket) (not (is_collected c.state)) is).0) has
    by_open false is = it

moved-started : (log : Log) (i : ℕ) (ticket : Ticket) (s : CallState) (calls : List Call) → HasStarted log i ticket → AllByRecursion (IsStarted log i) calls →
    AllByRecursion (IsStarted log i) (with_state ticket s calls)
moved-started log i ticket s calls has all =
    each-map (in_state ticket s) (IsStarted log i) (IsStarted log i) (λ c it. in_state-started log i ticket s c has it) calls all

done-not_posted : (s : CallState) (value : ℕ) → collected_in s ≡ got.Done value → is_posted s ≡ false
done-not_posted state.Posted value done = absurd (let e : got.Waiting ≡ got.Done value = done in cc)
done-not_posted state.Started value done = refl
done-not_posted (state.Done result) value done = refl
done-not_posted state.Collected value done = refl

-- a call whose result is there has started
done-started : (log : Log) (i : ℕ) (ticket : Ticket) (calls : List Call) (value : ℕ) → AllByRecursion (IsStarted log i) calls → collected_by ticket calls ≡ got.Done value →
    HasStarted log i ticket
done-started log i ticket calls value all there =
    let it = done-open ticket calls value there in
    let c : Call = it.0 in
    let pass = find-pass (is_open_call ticket) calls c it.1 in
    let same = same-ticket ticket c.ticket (and_parts (same_ticket ticket c.ticket) (not (is_collected c.state)) pass).0 in
    subst (HasStarted log i) (sym same) (each-find (IsStarted log i) (is_open_call ticket) calls c all it.1 (done-not_posted c.state value it.2))

opening-started : (cfg : Config) (log : Log) → WereStarted log 0 (opening_state cfg).shared.calls (opening_state cfg).shared.serving
unfolding opening_state
opening-started cfg log = record { each = tt; served = idle (length cfg.boxes) }
  where
    idle : (n : ℕ) → AllByRecursion (IsServed log 0) (replicate n None)
    idle zero = tt
    idle (suc n) = (λ ticket is. absurd (none-some ticket is), idle n)

turn-started : (log : Log) (i : ℕ) (t : ThreadId) (room : Bool) (w : Want) (asked : Option ℕ) (calls after : List Call) (serving kept : List (Option Ticket)) (r : Reply) →
    WereStarted log i calls serving → TurnDoes t room w asked calls after serving kept r → WereStarted log (suc i) after kept
turn-started log i t room w asked calls after serving kept r all (stays is left quiet) =
    record {
      each = subst (AllByRecursion (IsStarted log (suc i))) (sym is) (later-calls log i calls all.each);
      served = subst (AllByRecursion (IsServed log (suc i))) (sym left) (later-serving log i serving all.served);
    }
turn-started log i t room w asked calls after serving kept r all (posts c new left ticket free target told is) =
    record {
      each = subst (AllByRecursion (IsStarted log (suc i))) (sym is)
          (each-append (IsStarted log (suc i)) calls (c ∷ []) (later-calls log i calls all.each)
          (λ gone. absurd (true≢false (sym (ap is_posted new) ∙ gone)), tt));
      served = subst (AllByRecursion (IsServed log (suc i))) (sym left) (later-serving log i serving all.served);
    }
turn-started log i t room w asked calls after serving kept r all (finishes ticket value b served left told is) =
    record {
      each = subst (AllByRecursion (IsStarted log (suc i))) (sym is)
          (moved-started log (suc i) ticket (state.Done value) calls (later-started log i ticket (served-each log i serving b ticket all.served served))
          (later-calls log i calls all.each));
      served = subst (AllByRecursion (IsServed log (suc i))) (sym left)
          (each-set (IsServed log (suc i)) serving b None (later-serving log i serving all.served) (λ k none. absurd (none-some k none)));
    }
turn-started log i t room w asked calls after serving kept r all (collects seq value left asks there told is) =
    record {
      each = subst (AllByRecursion (IsStarted log (suc i))) (sym is)
          (moved-started log (suc i) (ticket_of t seq) state.Collected calls
          (later-started log i (ticket_of t seq) (done-started log i (ticket_of t seq) calls value all.each there)) (later-calls log i calls all.each));
      served = subst (AllByRecursion (IsServed log (suc i))) (sym left) (later-serving log i serving all.served);
    }

start-started : (cfg : Config) (log : Log) (i : ℕ) (t : ThreadId) (ticket : Ticket) (calls after : List Call) (serving kept : List (Option Ticket)) (r : Reply) →
    IsEntryAt log i (choice.Start t ticket) r → WereStarted log i calls serving → StartDoes cfg t ticket calls after serving kept r → WereStarted log (suc i) after kept
start-started cfg log i t ticket calls after serving kept r here all (waits is left told) =
    record {
      each = subst (AllByRecursion (IsStarted log (suc i))) (sym is) (later-calls log i calls all.each);
      served = subst (AllByRecursion (IsServed log (suc i))) (sym left) (later-serving log i serving all.served);
    }
start-started cfg log i t ticket calls after serving kept r here all (begins c left server found is told) =
    let now : HasStarted log (suc i) ticket = record {
      place = i;
      earlier = omega arith;
      thread = t;
      starts = record { started = started_from cfg c; entry = subst (λ (x : Reply). IsEntryAt log i (choice.Start t ticket) x) told here };
    } in
    record {
      each = subst (AllByRecursion (IsStarted log (suc i))) (sym is) (moved-started log (suc i) ticket state.Started calls now (later-calls log i calls all.each));
      served = subst (AllByRecursion (IsServed log (suc i))) (sym left)
          (each-set (IsServed log (suc i)) serving (home_of cfg t.0).0 (Some ticket) (later-serving log i serving all.served)
          (λ k some. subst (HasStarted log (suc i)) (same_Some ticket k some) now));
    }

kept-started : (log : Log) (i : ℕ) (m n : Shared) → n.calls ≡ m.calls → n.serving ≡ m.serving → WereStarted log i m.calls m.serving → WereStarted log (suc i) n.calls n.serving
kept-started log i m n is left all =
    record {
      each = subst (AllByRecursion (IsStarted log (suc i))) (sym is) (later-calls log i m.calls all.each);
      served = subst (AllByRecursion (IsServed log (suc i))) (sym left) (later-serving log i m.serving all.served);
    }

event-started : (cfg : Config) (log : Log) (i : ℕ) (f : Flat) (c : Choice) (after : Shared) (r : Reply) → IsEntryAt log i c r → WereStarted log i f.shared.calls f.shared.serving →
    EventDoes cfg f c after r → WereStarted log (suc i) after.calls after.serving
event-started cfg log i f (choice.Turn t room) after r here all it =
    turn-started log i t room _ _ f.shared.calls after.calls f.shared.serving after.serving r all it
event-started cfg log i f (choice.Start t ticket) after r here all it =
    start-started cfg log i t ticket f.shared.calls after.calls f.shared.serving after.serving r here all it
event-started cfg log i f (choice.Idle t) after r here all it = kept-started log i f.shared after it.0 it.1 all
event-started cfg log i f (choice.Ring line by) after r here all it = kept-started log i f.shared after it.0 it.1 all

-- ---- places

module _ (cfg : Config) (log : Log) (sound : IsSound cfg) (legal : IsLegal cfg log) where
  place-started : (i : ℕ) → WereStarted log i (calls_at cfg log i) (state_at cfg log i).shared.serving → Place cfg log i →
      WereStarted log (suc i) (calls_at cfg log (suc i)) (state_at cfg log (suc i)).shared.serving
  place-started i all (entry c r here) =
      event-started cfg log i (state_at cfg log i) c (state_at cfg log (suc i)).shared r here all (does-at cfg log sound legal i c r here)
  place-started i all (end is) =
      kept-started log i (state_at cfg log i).shared (state_at cfg log (suc i)).shared (ap (λ (f : Flat). f.shared.calls) is) (ap (λ (f : Flat). f.shared.serving) is) all

  started-at : (i : ℕ) → WereStarted log i (calls_at cfg log i) (state_at cfg log i).shared.serving
  started-at zero = opening-started cfg log
  started-at (suc i) = place-started i (started-at i) (place_at cfg log sound legal i)

  -- a ticket was posted before its start, and the call that the start takes is one to the box of the posting
  target-of_start : (ticket : Ticket) (b : BoxId) (q j : ℕ) (u : ThreadId) → PostsAt cfg log q ticket b → StartsAt log j u ticket →
      (b.0 ≡ (home_of cfg u.0).0) × (q < j)
  target-of_start ticket b q j u posting start =
      let home : ℕ = (home_of cfg u.0).0 in
      let begun = starts cfg log sound legal j u ticket start in
      let c : Call = begun.call in
      let found = is-next ticket home (calls_at cfg log j) c begun.next in
      let was : WasPosted cfg log j ticket c.target =
      subst (λ (k : Ticket). WasPosted cfg log j k c.target) (sym found.same)
      (each-find (λ (d : Call). WasPosted cfg log j d.ticket d.target) (waits_by ticket.thread.0 home) (calls_at cfg log j) c (posted-at cfg log sound legal j)
      (next-is ticket home (calls_at cfg log j) c begun.next).0) in
      let at : was.place ≡ q = posted-once cfg log sound legal ticket c.target b was.place q was.posts posting in
      let there : want_of cfg (state_at cfg log q) ticket.thread.0 ≡ want.Room c.target =
      subst (λ k. want_of cfg (state_at cfg log k) ticket.thread.0 ≡ want.Room c.target) at was.posts.target in
      let rooms : want.Room b ≡ want.Room c.target = sym posting.target ∙ there in
      let same : b ≡ c.target = cc in
      (ap (λ (x : BoxId). x.0) same ∙ found.target, subst (λ k. k < j) at was.earlier)

  -- the ticket's call is among the calls at each place behind its posting
  has-at : (ticket : Ticket) (b : BoxId) (p j : ℕ) → PostsAt cfg log p ticket b → p < j → Has ticket b (calls_at cfg log j)
  has-at ticket b p j posting less =
      climbs (λ k. Has ticket b (calls_at cfg log k)) (suc p)
      (λ k has. has-go ticket b (calls_at cfg log k) (calls_at cfg log (suc k)) (go-at cfg log sound legal k) has) j less
      (told-has ticket.thread true (want_of cfg (state_at cfg log p) ticket.thread.0) _ (calls_at cfg log p) (calls_at cfg log (suc p)) _ _ ticket.seq b posting.target
      (does-at cfg log sound legal p (choice.Turn ticket.thread true) (reply.Posted ticket.seq) posting.entry))

  -- a later call of the thread to the box starts only behind the start of an earlier one
  pub none-passed : (first second : Ticket) (b : BoxId) (p q : ℕ) → first.thread ≡ second.thread → PostsAt cfg log p first b → PostsAt cfg log q second b → p < q →
      (u : ThreadId) (j : ℕ) → StartsAt log j u second → (t : ThreadId) × (i : ℕ) × (i < j) × StartsAt log i t first
  none-passed first second b p q same one two less u j start =
      let home : ℕ = (home_of cfg u.0).0 in
      let begun = starts cfg log sound legal j u second start in
      let c : Call = begun.call in
      let found = is-next second home (calls_at cfg log j) c begun.next in
      let numbers = numbers-ascend cfg log sound legal first second b b p q same one two less in
      let to = target-of_start second b q j u two start in
      let later : p < j = let behind = to.1 in omega (arith, less, behind) in
      let least = oldest-least second.thread.0 home (calls_at cfg log j) c (order-at cfg log sound legal j).ascends (next-is second home (calls_at cfg log j) c begun.next).0 in
      let it = has-each (λ (d : Call). IsLeast second.thread.0 home c.ticket.seq d × IsStarted log j d) first b (calls_at cfg log j) (has-at first b p j one later)
      (each-both (IsLeast second.thread.0 home c.ticket.seq) (IsStarted log j) (calls_at cfg log j) least (started-at j).each) in
      let d : Call = it.0 in
      elim (cases_Bool (is_posted d.state)) [
        | inl posted ↦
            let mine = eq-eqb d.ticket.thread.0 second.thread.0 (ap (λ (k : Ticket). k.thread.0) it.1 ∙ ap (λ (t : ThreadId). t.0) same) in
            let there = eq-eqb d.target.0 home (ap (λ (x : BoxId). x.0) it.2 ∙ to.0) in
            let low = it.3.0 (and_from (is_posted_to home d) (nat_eq d.ticket.thread.0 second.thread.0) (and_from (is_posted d.state) (nat_eq d.target.0 home) posted there) mine) in
            let high = ap (λ (k : Ticket). k.seq) found.same in
            let its = ap (λ (k : Ticket). k.seq) it.1 in
            absurd (omega (arith, low, high, its, numbers))
        | inr gone ↦
            let was = it.3.1 gone in
            (was.thread, was.place, was.earlier, subst (λ (k : Ticket). StartsAt log was.place was.thread k) it.1 was.starts)
      ]
