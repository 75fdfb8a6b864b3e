-- How the calls go on: they are appended with ascending numbers, and none is posted again.
use Rattle.std.proofs.Common.{◌≡◌, ℕ, ◌+◌, ◌<◌, ◌≤◌, Bool, true, false, ◌&&◌, cond, List, [], ◌∷◌, ◌++◌, Option, Some, None, refl, sym, ap, ◌∙◌, subst, arith, nat_eq, sum_by, inl, inr}
use Rattle.std.specs.Prelude.{find}
use Rattle.std.specs.List.{AllByRecursion}
use Rattle.std.proofs.lemmas.Bool.{and_from, and_left, and_parts, and_right, both_ways, cases_Bool, eq-eqb, eqb-true, ne_eqb}
use Rattle.std.proofs.lemmas.List.Sums.{sum_by-cons, sum_by_push}
use Rattle.std.proofs.lemmas.Option.{cond_some, none-some}
use Rattle.addr_base.specs.declared.identity.Ticket.{Ticket}
use Rattle.flat_model.specs.declared.states.Call.{Call}
use Rattle.flat_model.specs.declared.states.CallState.{CallState}
use Rattle.flat_model.specs.Calls.{call_with, calls_of, in_state, is_open_call, is_posted, is_posted_to, next_call, oldest_posted_by, same_ticket, with_state}
use Rattle.flat_model.proofs.Elements.{each-append, each-map, each_weaker}

-- ---- a call in another state

pub in_state-ticket : (ticket : Ticket) (s : CallState) (c : Call) → (in_state ticket s c).ticket ≡ c.ticket
in_state-ticket ticket s c = by_open (is_open_call ticket c)
  where
    by_open : (b : Bool) → (cond b (record c { state = s }) c).ticket ≡ c.ticket
    by_open true = refl
    by_open false = refl

pub in_state-target : (ticket : Ticket) (s : CallState) (c : Call) → (in_state ticket s c).target ≡ c.target
in_state-target ticket s c = by_open (is_open_call ticket c)
  where
    by_open : (b : Bool) → (cond b (record c { state = s }) c).target ≡ c.target
    by_open true = refl
    by_open false = refl

-- ---- tickets

pub same-ticket : (first second : Ticket) → same_ticket first second ≡ true → first ≡ second
same-ticket first second same =
    let parts = and_parts (nat_eq first.thread.0 second.thread.0) (nat_eq first.seq second.seq) same in
    ap (λ n. record { thread = record { 0 = n }; seq = first.seq }) (eqb-true first.thread.0 second.thread.0 parts.0)
    ∙ ap (λ n. record { thread = second.thread; seq = n }) (eqb-true first.seq second.seq parts.1)

pub ticket-same : (first second : Ticket) → first.thread.0 ≡ second.thread.0 → first.seq ≡ second.seq → same_ticket first second ≡ true
ticket-same first second thread seq =
    and_from (nat_eq first.thread.0 second.thread.0) (nat_eq first.seq second.seq)
    (eq-eqb first.thread.0 second.thread.0 thread) (eq-eqb first.seq second.seq seq)

-- a later ticket of the thread, or one of another thread, is another
pub ticket-apart : (first second : Ticket) → (second.thread.0 ≡ first.thread.0 → first.seq < second.seq) → same_ticket first second ≡ false
ticket-apart first second later = elim (cases_Bool (nat_eq first.thread.0 second.thread.0)) [
  | inl same ↦
      let less : first.seq < second.seq = later (sym (eqb-true first.thread.0 second.thread.0 same)) in
      and_right (nat_eq first.thread.0 second.thread.0) (nat_eq first.seq second.seq)
      (ne_eqb first.seq second.seq (λ e. let equal : first.seq ≡ second.seq = e in omega (arith, less, equal)))
  | inr other ↦ and_left (nat_eq first.thread.0 second.thread.0) (nat_eq first.seq second.seq) other
]

-- ---- how many calls a thread made

abbrev pub of_thread : ℕ → Call → ℕ
of_thread u c = cond (nat_eq c.ticket.thread.0 u) 1 0

pub calls_of-state : (u : ℕ) (ticket : Ticket) (s : CallState) (calls : List Call) → calls_of u (with_state ticket s calls) ≡ calls_of u calls
calls_of-state u ticket s [] = refl
calls_of-state u ticket s (c ∷ calls) =
    sum_by-cons (of_thread u) (in_state ticket s c) (with_state ticket s calls)
    ∙ ap (λ n. n + sum_by (of_thread u) (with_state ticket s calls)) (ap (λ (k : Ticket). cond {A = ℕ} (nat_eq k.thread.0 u) 1 0) (in_state-ticket ticket s c))
    ∙ ap (λ n. of_thread u c + n) (calls_of-state u ticket s calls)
    ∙ sym (sum_by-cons (of_thread u) c calls)

pub calls_of-push : (u : ℕ) (calls : List Call) (c : Call) → calls_of u (calls ++ c ∷ []) ≡ calls_of u calls + of_thread u c
calls_of-push u calls c = sum_by_push (of_thread u) calls c

pub calls_of-own : (calls : List Call) (c : Call) → calls_of c.ticket.thread.0 (calls ++ c ∷ []) ≡ calls_of c.ticket.thread.0 calls + 1
calls_of-own calls c =
    calls_of-push c.ticket.thread.0 calls c
    ∙ ap (λ b. calls_of c.ticket.thread.0 calls + cond {A = ℕ} b 1 0) (eq-eqb c.ticket.thread.0 c.ticket.thread.0 refl)

-- ---- what an event may do

-- nothing, or a call goes on from where it is and is not posted, or the next call of a thread is posted
pub data CallsGo (calls after : List Call) : Type 0 where
  stay : after ≡ calls → CallsGo calls after
  move : (ticket : Ticket) (s : CallState) → is_posted s ≡ false → after ≡ with_state ticket s calls → CallsGo calls after
  grow : (c : Call) → c.ticket.seq ≡ calls_of c.ticket.thread.0 calls + 1 → after ≡ calls ++ c ∷ [] → CallsGo calls after

-- no thread has made fewer calls
pub go-counts : (u : ℕ) (calls after : List Call) → CallsGo calls after → calls_of u calls ≤ calls_of u after
go-counts u calls after (stay is) = let same = ap (calls_of u) is in omega (arith, same)
go-counts u calls after (move ticket s later is) =
    let same : calls_of u after ≡ calls_of u calls = ap (calls_of u) is ∙ calls_of-state u ticket s calls in omega (arith, same)
go-counts u calls after (grow c seq is) =
    let more : calls_of u after ≡ calls_of u calls + of_thread u c = ap (calls_of u) is ∙ calls_of-push u calls c in omega (arith, more)

-- ---- what lasts

-- this many calls of the thread were made, and each call has P
pub record Lasting (P : Call → Type 0) (u n : ℕ) (calls : List Call) : Type 0 where
  pub made : n ≤ calls_of u calls
  pub each : AllByRecursion P calls

module _ (P : Call → Type 0) (u n : ℕ)
    (moved : (ticket : Ticket) (s : CallState) (c : Call) → is_posted s ≡ false → P c → P (in_state ticket s c))
    (fresh : (c : Call) → (c.ticket.thread.0 ≡ u → n < c.ticket.seq) → P c) where
  -- what calls keep as they go on, and later calls have, lasts
  pub lasting-go : (calls after : List Call) → CallsGo calls after → Lasting P u n calls → Lasting P u n after
  lasting-go calls after (stay is) it = subst (Lasting P u n) (sym is) it
  lasting-go calls after (move ticket s later is) it =
      subst (Lasting P u n) (sym is)
      (record {
        made = subst (λ k. n ≤ k) (sym (calls_of-state u ticket s calls)) it.made;
        each = each-map (in_state ticket s) P P (λ c has. moved ticket s c later has) calls it.each;
      })
  lasting-go calls after (grow c seq is) it =
      subst (Lasting P u n) (sym is)
      (record {
        made = let more = calls_of-push u calls c in let few = it.made in omega (arith, more, few);
        each = each-append P calls (c ∷ []) it.each (
          fresh c (λ same. let equal : calls_of c.ticket.thread.0 calls ≡ calls_of u calls = ap (λ t. calls_of t calls) same in
              let few = it.made in omega (arith, equal, seq, few)),
          tt,
        );
      })

-- ---- found calls

-- a call that was found has what each has
pub each-find : (P : Call → Type 0) (passes : Call → Bool) (calls : List Call) (c : Call) → AllByRecursion P calls → find passes calls ≡ Some c → P c
each-find P passes [] c each found = absurd (none-some c found)
each-find P passes (x ∷ xs) c each found = by_pass (passes x) (λ later. each-find P passes xs c each.1 later) found
  where
    by_pass : (b : Bool) → (find passes xs ≡ Some c → P c) → cond b (Some x) (find passes xs) ≡ Some c → P c
    by_pass true rest here = let same : x ≡ c = cc in subst P same each.0
    by_pass false rest later = rest later

-- and it passes
pub find-pass : (passes : Call → Bool) (calls : List Call) (c : Call) → find passes calls ≡ Some c → passes c ≡ true
find-pass passes [] c found = absurd (none-some c found)
find-pass passes (x ∷ xs) c found = by_pass (passes x) refl (λ later. find-pass passes xs c later) found
  where
    by_pass : (b : Bool) → passes x ≡ b → (find passes xs ≡ Some c → passes c ≡ true) → cond b (Some x) (find passes xs) ≡ Some c → passes c ≡ true
    by_pass true pass rest here = let same : x ≡ c = cc in subst (λ y. passes y ≡ true) same pass
    by_pass false pass rest later = rest later

-- whether the call is one of the thread that is posted to the box with this number
abbrev pub waits_by : ℕ → ℕ → Call → Bool
waits_by u b c = is_posted_to b c && nat_eq c.ticket.thread.0 u

-- the next call is the ticket's, and the first of its thread that waits
pub next-is : (ticket : Ticket) (b : ℕ) (calls : List Call) (c : Call) → next_call ticket b calls ≡ Some c →
    (oldest_posted_by ticket.thread.0 b calls ≡ Some c) × (same_ticket ticket c.ticket ≡ true)
next-is ticket b calls c found = by_oldest (oldest_posted_by ticket.thread.0 b calls) found
  where
    by_oldest : (o : Option Call) → call_with ticket o ≡ Some c → (o ≡ Some c) × (same_ticket ticket c.ticket ≡ true)
    by_oldest None none = absurd (none-some c none)
    by_oldest (Some x) some =
        let it = cond_some (same_ticket ticket x.ticket) x c some in
        (ap (λ (y : Call). Some y) it.1, subst (λ (y : Call). same_ticket ticket y.ticket ≡ true) it.1 it.0)

-- ---- in the order of their numbers

-- if both are of one thread, the first has the lower number
abbrev pub Precedes : Ticket → Ticket → Type 0
Precedes first second = second.thread.0 ≡ first.thread.0 → first.seq < second.seq

-- each call precedes those behind it
abbrev pub Ascends : List Call → Type 0
Ascends [] = Unit {0}
Ascends (c ∷ calls) = AllByRecursion (λ d. Precedes c.ticket d.ticket) calls × Ascends calls

-- each call's number is at most how many its thread made, and they ascend
pub record IsInOrder (calls : List Call) : Type 0 where
  pub below : AllByRecursion (λ c. c.ticket.seq ≤ calls_of c.ticket.thread.0 calls) calls
  pub ascends : Ascends calls

ascends-state : (ticket : Ticket) (s : CallState) (calls : List Call) → Ascends calls → Ascends (with_state ticket s calls)
ascends-state ticket s [] it = tt
ascends-state ticket s (c ∷ calls) it = (
  each-map (in_state ticket s) (λ (d : Call). Precedes c.ticket d.ticket) (λ (d : Call). Precedes (in_state ticket s c).ticket d.ticket)
      (λ d before. subst (λ (k : Ticket). Precedes k (in_state ticket s d).ticket) (sym (in_state-ticket ticket s c))
      (subst (λ (k : Ticket). Precedes c.ticket k) (sym (in_state-ticket ticket s d)) before)) calls it.0,
  ascends-state ticket s calls it.1,
)

ascends-push : (calls : List Call) (c : Call) → AllByRecursion (λ d. Precedes d.ticket c.ticket) calls → Ascends calls → Ascends (calls ++ c ∷ [])
ascends-push [] c all it = (tt, tt)
ascends-push (d ∷ calls) c all it =
    (each-append (λ (e : Call). Precedes d.ticket e.ticket) calls (c ∷ []) it.0 (all.0, tt), ascends-push calls c all.1 it.1)

pub in_order-go : (calls after : List Call) → CallsGo calls after → IsInOrder calls → IsInOrder after
in_order-go calls after (stay is) it = subst IsInOrder (sym is) it
in_order-go calls after (move ticket s later is) it =
    subst IsInOrder (sym is)
    (record {
      below = each-map (in_state ticket s) (λ (c : Call). c.ticket.seq ≤ calls_of c.ticket.thread.0 calls) (λ (c : Call). c.ticket.seq ≤ calls_of c.ticket.thread.0 (with_state ticket s calls))
          (λ c low. subst (λ (k : Ticket). k.seq ≤ calls_of k.thread.0 (with_state ticket s calls)) (sym (in_state-ticket ticket s c))
          (subst (λ n. c.ticket.seq ≤ n) (sym (calls_of-state c.ticket.thread.0 ticket s calls)) low)) calls it.below;
      ascends = ascends-state ticket s calls it.ascends;
    })
in_order-go calls after (grow c seq is) it =
    subst IsInOrder (sym is)
    (record {
      below = each-append (λ (d : Call). d.ticket.seq ≤ calls_of d.ticket.thread.0 (calls ++ c ∷ [])) calls (c ∷ [])
          (each_weaker (λ (d : Call). d.ticket.seq ≤ calls_of d.ticket.thread.0 calls) (λ (d : Call). d.ticket.seq ≤ calls_of d.ticket.thread.0 (calls ++ c ∷ []))
          (λ d low. let more = calls_of-push d.ticket.thread.0 calls c in omega (arith, more, low)) calls it.below)
          (let own = calls_of-own calls c in omega (arith, own, seq), tt);
      ascends = ascends-push calls c
          (each_weaker (λ (d : Call). d.ticket.seq ≤ calls_of d.ticket.thread.0 calls) (λ (d : Call). Precedes d.ticket c.ticket)
          (λ d low same. let equal : calls_of c.ticket.thread.0 calls ≡ calls_of d.ticket.thread.0 calls = ap (λ t. calls_of t calls) same in omega (arith, equal, seq, low))
          calls it.below) it.ascends;
    })

-- if the call is one of the thread that is posted to the box, its number is at least n
abbrev pub IsLeast : ℕ → ℕ → ℕ → Call → Type 0
IsLeast u b n c = waits_by u b c ≡ true → n ≤ c.ticket.seq

-- the first call of a thread that is posted to a box has the least number of those
pub oldest-least : (u b : ℕ) (calls : List Call) (c : Call) → Ascends calls → oldest_posted_by u b calls ≡ Some c →
    AllByRecursion (IsLeast u b c.ticket.seq) calls
oldest-least u b [] c it found = tt
oldest-least u b (x ∷ xs) c it found = by_pass (waits_by u b x) refl (λ later. oldest-least u b xs c it.1 later) found
  where
    by_pass : (t : Bool) → waits_by u b x ≡ t → (oldest_posted_by u b xs ≡ Some c → AllByRecursion (IsLeast u b c.ticket.seq) xs) →
        cond t (Some x) (oldest_posted_by u b xs) ≡ Some c → AllByRecursion (IsLeast u b c.ticket.seq) (x ∷ xs)
    by_pass true pass rest here =
        let same : x ≡ c = cc in
        subst (λ (y : Call). AllByRecursion (IsLeast u b y.ticket.seq) (x ∷ xs)) same (
          λ again. omega arith,
          each_weaker (λ (d : Call). Precedes x.ticket d.ticket) (IsLeast u b x.ticket.seq)
              (λ d before again.
              let mine = eqb-true x.ticket.thread.0 u (and_parts (is_posted_to b x) (nat_eq x.ticket.thread.0 u) pass).1 in
              let its = eqb-true d.ticket.thread.0 u (and_parts (is_posted_to b d) (nat_eq d.ticket.thread.0 u) again).1 in
              let less : x.ticket.seq < d.ticket.seq = before (its ∙ sym mine) in omega (arith, less)) xs it.0,
        )
    by_pass false pass rest later = (λ again. absurd (both_ways (waits_by u b x) pass again), rest later)
