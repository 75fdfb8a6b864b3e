-- A step of one seat at an inbox keeps the rule.
use Rattle.std.proofs.Common.{◌≡◌, ◌≢◌, ℕ, suc, ◌+◌, ◌<◌, ◌≤◌, List, [], ◌∷◌, ◌++◌, All, length, get_or, set, refl, ap, sym, ◌∙◌, subst, arith}
use mathlib.Core.Option.{some}
use mathlib.Core.Logic.{dite}
use native.Mathlib.Decide.{dec_le}
use lib.ListN.{get_elem?}
use Rattle.std.specs.Int.{bit_at}
use Rattle.std.proofs.lemmas.List.{set-get_or}
use Rattle.atomic_table.specs.Table.{State, Me, Act, Valid, stepped, carried_after}
use Rattle.shared_views.specs.Views.{of_views, is_at}
use Rattle.shared_views.proofs.Views.{within, swapped, counted, two_parts, apart, turned, at_part}
use Rattle.atomic_pool.specs.Times.{times}
use Rattle.atomic_pool.specs.Tickets.{thread_of}
use Rattle.atomic_pool.specs.Queue.{encode, AreSlots, tickets}
use Rattle.atomic_pool.specs.InboxRule.{number_of, holds_of, Agrees, InboxRule}
use Rattle.atomic_pool.specs.declared.inbox.InboxPart.{InboxPart}
use Rattle.atomic_pool.proofs.Queues.{slots_of}

abbrev pub St : Type 0
St = State Unit (List InboxPart)

-- what a step does to its seat's part p, the words, the queue and what was taken
pub record Turns (n m : ℕ) (p q : InboxPart) (words words' queue queue' took took' : List ℕ) : Type 0 where
  pub number : q.number ≡ p.number
  pub wide : length words' ≡ length words
  pub queued : get_or words' 1 0 ≡ encode queue'
  pub balanced : (i : ℕ) → bit_at (get_or words' 0 0) i + times i queue' + holds_of i q ≡ bit_at (get_or words 0 0) i + times i queue + holds_of i p
  pub known : All (λ c. thread_of c < n) (took' ++ tickets words' queue')
  pub mine : Agrees n m words' queue' took' q
  pub theirs : (r : InboxPart) → r.number ≢ p.number → ((i : ℕ) → holds_of i p + holds_of i r ≤ 1) → Agrees n m words queue took r → Agrees n m words' queue' took' r

abbrev pub after : St → ℕ → List ℕ → InboxPart → St
after s id words' q = record { words = words'; homes = s.homes; views = set s.views id (q ∷ []) }

-- after a step that makes the word j this number, the rule holds and the seat is told so
abbrev pub Goes : (n m : ℕ) (s : St) (id j : ℕ) (then : Me Unit (List InboxPart) → Type 0) → ℕ → Type 0
Goes n m s id j then x = (v : List InboxPart) × (a : Act Unit) × Valid s.homes [] a × InboxRule n m (stepped s j x id [] v a) × then (v, carried_after [] a)

module _ (n m : ℕ) (s : St) (id : ℕ) (p : InboxPart) (rule : InboxRule n m s) (at : get_elem? s.views id ≡ some (p ∷ [])) where
  -- each slot is in one place at most
  pub at_once : (i : ℕ) → bit_at (get_or s.words 0 0) i + times i rule.queue + of_views (holds_of i) s.views ≤ 1
  at_once i = dite (dec_le m i) (λ above. omega (arith, rule.outside i above)) (λ below. omega (arith, rule.partition i (omega arith)))

  -- a slot of this seat is neither free nor queued
  pub held_alone : (i : ℕ) → 0 < holds_of i p → (i < m) × (bit_at (get_or s.words 0 0) i ≡ 0) × (times i rule.queue ≡ 0) × (holds_of i p ≡ 1)
  held_alone i held =
      let part : holds_of i p ≤ of_views (holds_of i) s.views = omega (arith, within (holds_of i) s.views id (p ∷ []) at) in (
        dite (dec_le m i) (λ above. absurd (omega (arith, rule.outside i above, part))) (λ below. omega arith),
        omega (arith, at_once i, part),
        omega (arith, at_once i, part),
        omega (arith, at_once i, part),
      )

  pub agrees : Agrees n m s.words rule.queue rule.took p
  agrees = at_part (Agrees n m s.words rule.queue rule.took) s.views id p rule.parts at

  -- the queue has slots alone
  pub queue_slots : AreSlots rule.queue
  queue_slots = slots_of m rule.queue rule.small (λ i above. omega (arith, rule.outside i above))

  pub once_each : (k : ℕ) → of_views (is_at number_of k) s.views ≤ 1
  once_each k = dite (dec_le (suc n) k) (λ above. omega (arith, rule.no_other k above)) (λ below. omega (arith, rule.once k (omega arith)))

  pub step_kept : (q : InboxPart) (words' queue' took' : List ℕ) → Turns n m p q s.words words' rule.queue queue' rule.took took' → InboxRule n m (after s id words' q)
  step_kept q words' queue' took' t = record {
    few = rule.few;
    small = rule.small;
    wide = t.wide ∙ rule.wide;
    once = λ k below. counted number_of k s.views id p q at t.number ∙ rule.once k below;
    no_other = λ k above. counted number_of k s.views id p q at t.number ∙ rule.no_other k above;
    queue = queue';
    queued = t.queued;
    partition = λ i below. omega (arith, swapped (holds_of i) s.views id p q at, t.balanced i, rule.partition i below);
    outside = λ i above. omega (arith, swapped (holds_of i) s.views id p q at, t.balanced i, rule.outside i above);
    took = took';
    known = t.known;
    parts = turned (Agrees n m s.words rule.queue rule.took) (Agrees n m words' queue' took') s.views id q rule.parts t.mine
        (λ k v j r other there in_v. t.theirs r (apart number_of s.views id p k v j r once_each other at there in_v)
        (λ i. omega (arith, two_parts (holds_of i) s.views id p k v j r other at there in_v, at_once i)));
  }

  -- the same where the words stay, as at a load
  pub load_kept : (i : ℕ) (q : InboxPart) → Turns n m p q s.words s.words rule.queue rule.queue rule.took rule.took → InboxRule n m (after s id (set s.words i (get_or s.words i 0)) q)
  load_kept i q t = subst (λ ws. InboxRule n m (after s id ws q)) (sym (set-get_or s.words i 0)) (step_kept q s.words rule.queue rule.took t)

  -- a step that leaves the words, the list and the slots of its part
  pub stays : (q : InboxPart) → q.number ≡ p.number → q.held ≡ p.held → Agrees n m s.words rule.queue rule.took q → Turns n m p q s.words s.words rule.queue rule.queue rule.took rule.took
  stays q number held mine = record {
    number = number;
    wide = refl;
    queued = rule.queued;
    balanced = λ i. ap (λ xs. bit_at (get_or s.words 0 0) i + times i rule.queue + times i xs) held;
    known = rule.known;
    mine = mine;
    theirs = λ r other two agreed. agreed;
  }
