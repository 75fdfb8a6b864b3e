-- A call starts once, and calls of one thread to one box start in the order of their numbers.
use Rattle.std.proofs.Common.{◌≡◌, ℕ, suc, ◌<◌, ◌≤◌, Bool, true, false, ◌&&◌, cond, not, List, [], ◌∷◌, map, refl, sym, ap, ◌∙◌, subst, arith, nat_eq, inl, inr}
use Rattle.std.specs.List.{AllByRecursion, slice_get}
use Rattle.std.proofs.lemmas.Bool.{and_cases, and_from, and_left, and_parts, and_right, both_ways, cases_lt, cases_order, eqb-true, false≢true, true≢false}
use Rattle.std.proofs.lemmas.Option.{same_Some}
use Rattle.addr_base.specs.declared.identity.BoxId.{BoxId}
use Rattle.addr_base.specs.declared.identity.ThreadId.{ThreadId}
use Rattle.addr_base.specs.declared.identity.Ticket.{Ticket}
use Rattle.flat_model.specs.declared.events.Choice.TheVariants as choice
use Rattle.flat_model.specs.declared.events.Entry.{Entry}
use Rattle.flat_model.specs.declared.events.Reply.TheVariants as reply
use Rattle.flat_model.specs.declared.events.Want.TheVariants as want
use Rattle.flat_model.specs.declared.logs.Log.{Log}
use Rattle.flat_model.specs.declared.parts.Config.{Config}
use Rattle.flat_model.specs.declared.states.Call.{Call}
use Rattle.flat_model.specs.declared.states.CallState.{CallState}
use Rattle.flat_model.specs.declared.states.CallState.TheVariants as state
use Rattle.flat_model.specs.CallRows.{home_of}
use Rattle.flat_model.specs.Calls.{in_state, is_collected, is_open_call, is_posted, is_posted_to, same_ticket, with_state}
use Rattle.flat_model.specs.Legal.{IsLegal}
use Rattle.flat_model.specs.Log.{entries_of}
use Rattle.flat_model.specs.Sound.{IsSound}
use Rattle.flat_model.specs.Want.{want_of}
use Rattle.flat_model.proofs.Elements.{each-map}
use Rattle.uvisor_run.specs.CallLaws.{IsServerOf, PostsAt, StartsAt, WasPosted, state_at}
use Rattle.uvisor_run.proofs.CallStates.{IsLeast, Lasting, calls_of-state, each-find, lasting-go, next-is, oldest-least, ticket-apart, ticket-same, waits_by}
use Rattle.uvisor_run.proofs.CallsAt.{Begins, calls_at, does-at, go-at, is-next, number-made, numbers-ascend, order-at, posted-at, posted-once, told-begun}
use Rattle.uvisor_run.proofs.LogPlaces.{climbs}

-- ---- a call that started waits no more

-- whether this is the ticket's call, and it is posted
abbrev pub waits_for : Ticket → Call → Bool
waits_for ticket c = same_ticket ticket c.ticket && is_posted c.state

-- the call is not the ticket's, or is not posted
abbrev IsGone : Ticket → Call → Type 0
IsGone ticket c = waits_for ticket c ≡ false

gone-moved : (ticket other : Ticket) (s : CallState) (c : Call) → is_posted s ≡ false → IsGone ticket c → IsGone ticket (in_state other s c)
gone-moved ticket other s c later gone = by_open (is_open_call other c)
  where
    by_open : (b : Bool) → IsGone ticket (cond b (record c { state = s }) c)
    by_open true = and_right (same_ticket ticket c.ticket) (is_posted s) later
    by_open false = gone

gone-fresh : (ticket : Ticket) (c : Call) → (c.ticket.thread.0 ≡ ticket.thread.0 → ticket.seq < c.ticket.seq) → IsGone ticket c
gone-fresh ticket c later = and_left (same_ticket ticket c.ticket) (is_posted c.state) (ticket-apart ticket c.ticket later)

collected-not_posted : (s : CallState) → not (is_collected s) ≡ false → is_posted s ≡ false
collected-not_posted state.Posted collected = absurd (true≢false collected)
collected-not_posted state.Started collected = refl
collected-not_posted (state.Done value) collected = refl
collected-not_posted state.Collected collected = refl

posted-not_collected : (s : CallState) → is_posted s ≡ true → not (is_collected s) ≡ true
posted-not_collected state.Posted posted = refl
posted-not_collected state.Started posted = refl
posted-not_collected (state.Done value) posted = refl
posted-not_collected state.Collected posted = absurd (false≢true posted)

gone-started : (ticket : Ticket) (c : Call) → IsGone ticket (in_state ticket state.Started c)
gone-started ticket c = by_open (is_open_call ticket c) refl
  where
    by_open : (b : Bool) → is_open_call ticket c ≡ b → IsGone ticket (cond b (record c { state = state.Started }) c)
    by_open true is = and_right (same_ticket ticket c.ticket) false refl
    by_open false is = elim (and_cases (same_ticket ticket c.ticket) (not (is_collected c.state)) is) [
      | inl apart ↦ and_left (same_ticket ticket c.ticket) (is_posted c.state) apart
      | inr collected ↦ and_right (same_ticket ticket c.ticket) (is_posted c.state) (collected-not_posted c.state collected)
    ]

-- what each call comes to have
pub each-made : (P : Call → Type 0) (g : Call → Call) → ((c : Call) → P (g c)) → (calls : List Call) → AllByRecursion P (map g calls)
each-made P g made [] = tt
each-made P g made (c ∷ calls) = (made c, each-made P g made calls)

-- ---- calls of a thread to a box that wait have higher numbers than one that started

-- if the call is one of the thread that is posted to the box, its number is above n
abbrev IsAfter : ℕ → ℕ → ℕ → Call → Type 0
IsAfter u b n c = waits_by u b c ≡ true → n < c.ticket.seq

after-moved : (u b n : ℕ) (other : Ticket) (s : CallState) (c : Call) → is_posted s ≡ false → IsAfter u b n c → IsAfter u b n (in_state other s c)
after-moved u b n other s c later above = by_open (is_open_call other c)
  where
    by_open : (t : Bool) → IsAfter u b n (cond t (record c { state = s }) c)
    by_open true = λ pass. absurd (both_ways (is_posted s) later
        (and_parts (is_posted s) (nat_eq c.target.0 b) (and_parts (is_posted s && nat_eq c.target.0 b) (nat_eq c.ticket.thread.0 u) pass).0).0)
    by_open false = above

after-fresh : (u b n : ℕ) (c : Call) → (c.ticket.thread.0 ≡ u → n < c.ticket.seq) → IsAfter u b n c
after-fresh u b n c later pass = later (eqb-true c.ticket.thread.0 u (and_parts (is_posted_to b c) (nat_eq c.ticket.thread.0 u) pass).1)

after-started : (ticket : Ticket) (b : ℕ) (c : Call) → IsLeast ticket.thread.0 b ticket.seq c → IsAfter ticket.thread.0 b ticket.seq (in_state ticket state.Started c)
after-started ticket b c least = by_open (is_open_call ticket c) refl
  where
    by_open : (t : Bool) → is_open_call ticket c ≡ t → IsAfter ticket.thread.0 b ticket.seq (cond t (record c { state = state.Started }) c)
    by_open true is = λ pass. absurd (false≢true
        (and_parts false (nat_eq c.target.0 b) (and_parts (false && nat_eq c.target.0 b) (nat_eq c.ticket.thread.0 ticket.thread.0) pass).0).0)
    by_open false is = λ pass.
        let parts = and_parts (is_posted_to b c) (nat_eq c.ticket.thread.0 ticket.thread.0) pass in
        let low : ticket.seq ≤ c.ticket.seq = least pass in
        elim (cases_lt ticket.seq c.ticket.seq) [
          | inl less ↦ less
          | inr high ↦
              let equal : ticket.seq ≡ c.ticket.seq = omega (arith, low, high) in
              absurd (both_ways (is_open_call ticket c) is
              (and_from (same_ticket ticket c.ticket) (not (is_collected c.state))
              (ticket-same ticket c.ticket (sym (eqb-true c.ticket.thread.0 ticket.thread.0 parts.1)) equal)
              (posted-not_collected c.state (and_parts (is_posted c.state) (nat_eq c.target.0 b) parts.0).0)))
        ]

-- ---- places

module _ (cfg : Config) (log : Log) (sound : IsSound cfg) (legal : IsLegal cfg log) where
  -- a start takes the call that is next
  pub starts : (i : ℕ) (t : ThreadId) (ticket : Ticket) → StartsAt log i t ticket → Begins cfg t ticket (calls_at cfg log i) (calls_at cfg log (suc i))
  starts i t ticket it =
      told-begun cfg t ticket (calls_at cfg log i) (calls_at cfg log (suc i)) _ _ it.started
      (does-at cfg log sound legal i (choice.Start t ticket) (reply.Begun it.started) it.entry)

  -- what lasts once a ticket's call started
  lasts : (P : Call → Type 0) (i : ℕ) (t : ThreadId) (ticket : Ticket) → StartsAt log i t ticket →
      ((other : Ticket) (s : CallState) (c : Call) → is_posted s ≡ false → P c → P (in_state other s c)) →
      ((c : Call) → (c.ticket.thread.0 ≡ ticket.thread.0 → ticket.seq < c.ticket.seq) → P c) →
      AllByRecursion P (with_state ticket state.Started (calls_at cfg log i)) →
      (j : ℕ) → i < j → AllByRecursion P (calls_at cfg log j)
  lasts P i t ticket it moved fresh now j less =
      let begun = starts i t ticket it in
      let made = number-made ticket (home_of cfg t.0).0 (calls_at cfg log i) begun.call (order-at cfg log sound legal i) begun.next in
      let first : Lasting P ticket.thread.0 ticket.seq (calls_at cfg log (suc i)) =
      subst (Lasting P ticket.thread.0 ticket.seq) (sym begun.is)
      (record { made = subst (λ n. ticket.seq ≤ n) (sym (calls_of-state ticket.thread.0 ticket state.Started (calls_at cfg log i))) made; each = now }) in
      (climbs (λ k. Lasting P ticket.thread.0 ticket.seq (calls_at cfg log k)) (suc i)
      (λ k here. lasting-go P ticket.thread.0 ticket.seq moved fresh (calls_at cfg log k) (calls_at cfg log (suc k)) (go-at cfg log sound legal k) here)
      j less first).each

  twice : (ticket : Ticket) (t u : ThreadId) (i j : ℕ) → StartsAt log i t ticket → StartsAt log j u ticket → i < j → ⊥
  twice ticket t u i j one two less =
      let gone = lasts (IsGone ticket) i t ticket one (gone-moved ticket) (gone-fresh ticket)
      (each-made (IsGone ticket) (in_state ticket state.Started) (gone-started ticket) (calls_at cfg log i)) j less in
      let begun = starts j u ticket two in
      let b : ℕ = (home_of cfg u.0).0 in
      let found = is-next ticket b (calls_at cfg log j) begun.call begun.next in
      let it = next-is ticket b (calls_at cfg log j) begun.call begun.next in
      both_ways (waits_for ticket begun.call)
      (each-find (IsGone ticket) (waits_by ticket.thread.0 b) (calls_at cfg log j) begun.call gone it.0)
      (and_from (same_ticket ticket begun.call.ticket) (is_posted begun.call.state) it.1 found.posted)

  -- no two entries start the same ticket
  pub started-once : (ticket : Ticket) (t u : ThreadId) (i j : ℕ) → StartsAt log i t ticket → StartsAt log j u ticket → i ≡ j
  started-once ticket t u i j one two = elim (cases_order i j) [
    | inl same ↦ same
    | inr (inl before) ↦ absurd (twice ticket t u i j one two before)
    | inr (inr behind) ↦ absurd (twice ticket u t j i two one behind)
  ]

  -- each start is of a call that was posted before, to the box of this server
  pub started-posted : (ticket : Ticket) (t : ThreadId) (i : ℕ) → StartsAt log i t ticket → (b : BoxId) × WasPosted cfg log i ticket b × IsServerOf cfg b t
  started-posted ticket t i it =
      let begun = starts i t ticket it in
      let b : ℕ = (home_of cfg t.0).0 in
      let c : Call = begun.call in
      let found = is-next ticket b (calls_at cfg log i) c begun.next in (
        c.target,
        subst (λ (k : Ticket). WasPosted cfg log i k c.target) (sym found.same)
            (each-find (λ (d : Call). WasPosted cfg log i d.ticket d.target) (waits_by ticket.thread.0 b) (calls_at cfg log i) c (posted-at cfg log sound legal i)
            (next-is ticket b (calls_at cfg log i) c begun.next).0),
        subst (λ n. IsServerOf cfg (record { 0 = n }) t) (sym found.target) begun.server,
      )

  -- of one thread's calls, the one that the same server starts later has the higher number
  pub started-ascending : (first second : Ticket) (t : ThreadId) (i j : ℕ) → first.thread ≡ second.thread → StartsAt log i t first → StartsAt log j t second → i < j →
      first.seq < second.seq
  started-ascending first second t i j same one two less =
      let b : ℕ = (home_of cfg t.0).0 in
      let begun = starts i t first one in
      let next = is-next first b (calls_at cfg log i) begun.call begun.next in
      let least = subst (λ (k : Ticket). AllByRecursion (IsLeast first.thread.0 b k.seq) (calls_at cfg log i)) (sym next.same)
      (oldest-least first.thread.0 b (calls_at cfg log i) begun.call (order-at cfg log sound legal i).ascends (next-is first b (calls_at cfg log i) begun.call begun.next).0) in
      let above = lasts (IsAfter first.thread.0 b first.seq) i t first one
      (after-moved first.thread.0 b first.seq) (after-fresh first.thread.0 b first.seq)
      (each-map (in_state first state.Started) (IsLeast first.thread.0 b first.seq) (IsAfter first.thread.0 b first.seq) (after-started first b) (calls_at cfg log i) least) j less in
      let later = starts j t second two in
      let found = is-next second b (calls_at cfg log j) later.call later.next in
      let here = each-find (IsAfter first.thread.0 b first.seq) (waits_by second.thread.0 b) (calls_at cfg log j) later.call above
      (next-is second b (calls_at cfg log j) later.call later.next).0 in
      subst (λ (k : Ticket). first.seq < k.seq) (sym found.same)
      (here (subst (λ (v : ThreadId). waits_by v.0 b later.call ≡ true) (sym same) found.passes))

  -- the server that starts a call is that of the box to which it was posted
  server-of_start : (ticket : Ticket) (b : BoxId) (p i : ℕ) (t : ThreadId) → PostsAt cfg log p ticket b → StartsAt log i t ticket → IsServerOf cfg b t
  server-of_start ticket b p i t posting start =
      let was = started-posted ticket t i start in
      let at : was.1.place ≡ p = posted-once cfg log sound legal ticket was.0 b was.1.place p was.1.posts posting in
      let there : want_of cfg (state_at cfg log p) ticket.thread.0 ≡ want.Room was.0 =
      subst (λ k. want_of cfg (state_at cfg log k) ticket.thread.0 ≡ want.Room was.0) at was.1.posts.target in
      let rooms : want.Room was.0 ≡ want.Room b = sym there ∙ posting.target in
      let same : was.0 ≡ b = cc in
      subst (λ (c : BoxId). IsServerOf cfg c t) same was.2

  same-start : (first second : Ticket) (t u : ThreadId) (i j : ℕ) → StartsAt log i t first → StartsAt log j u second → i ≡ j → first ≡ second
  same-start first second t u i j one two at =
      let both : ◌≡◌ {A = Entry} (record { choice = choice.Start t first; reply = reply.Begun one.started }) (record { choice = choice.Start u second; reply = reply.Begun two.started }) =
      same_Some _ _ (sym one.entry ∙ (ap (λ k. slice_get (entries_of log.items) k) at ∙ two.entry)) in
      let choices : choice.Start t first ≡ choice.Start u second = ap (λ (e : Entry). e.choice) both in
      cc

  -- of one thread's calls to one box, the one that was posted first starts first
  pub started-in_order : (first second : Ticket) (b : BoxId) (p q : ℕ) → first.thread ≡ second.thread → PostsAt cfg log p first b → PostsAt cfg log q second b → p < q →
      (t u : ThreadId) (i j : ℕ) → StartsAt log i t first → StartsAt log j u second → i < j
  started-in_order first second b p q same one two less t u i j start later =
      let numbers = numbers-ascend cfg log sound legal first second b b p q same one two less in
      let server : t ≡ u = same_Some t u (sym (server-of_start first b p i t one start) ∙ server-of_start second b q j u two later) in
      elim (cases_order i j) [
        | inl at ↦ absurd (let equal = ap (λ (k : Ticket). k.seq) (same-start first second t u i j start later at) in omega (arith, equal, numbers))
        | inr (inl before) ↦ before
        | inr (inr behind) ↦ absurd (
            let under = started-ascending second first u j i (sym same) later (subst (λ (v : ThreadId). StartsAt log i v first) server start) behind in
            omega (arith, under, numbers))
      ]
