-- Parts that still agree with an inbox after a step.
use Rattle.std.proofs.Common.{◌≡◌, ◌≢◌, ℕ, ◌+◌, ◌<◌, Bool, cond, List, [], ◌∷◌, ◌++◌, get_or, set, Option, Some, None, eq-eqb, ne_eqb, refl, ap, sym, ◌∙◌, subst, arith}
use mathlib.Core.Logic.{dite}
use native.Mathlib.Decide.{ℕ_discrete}
use Rattle.std.proofs.lemmas.List.{get_or-set_other}
use Rattle.atomic_pool.specs.Times.{times}
use Rattle.atomic_pool.specs.Tickets.{of_thread}
use Rattle.atomic_pool.specs.Queue.{tickets, unless_of}
use Rattle.atomic_pool.specs.InboxRule.{Agrees}
use Rattle.atomic_pool.specs.declared.inbox.InboxPart.{InboxPart}
use Rattle.atomic_pool.specs.declared.seen.Seen.{Seen}
use Rattle.atomic_pool.proofs.Queues.{times-here}

pub some_is : {A : Type 0} (a b : A) → Some a ≡ Some b → a ≡ b
some_is a b e = cc

pub none_is_not : {A : Type 0} {B : Type 0} (a : A) → None ≡ Some a → B
none_is_not a e = cc

pub pair_is : (x y : ℕ × ℕ) → Some x ≡ Some y → (x.0 ≡ y.0) × (x.1 ≡ y.1)
pair_is x y e = (ap (λ (z : ℕ × ℕ). z.0) (some_is x y e), ap (λ (z : ℕ × ℕ). z.1) (some_is x y e))

pub unless_is : (i : ℕ) (l : Option (ℕ × ℕ)) (j c : ℕ) → unless_of i l ≡ Some (j, c) → (l ≡ Some (j, c)) × (j ≢ i)
unless_is i None j c e = none_is_not (j, c) e
unless_is i (Some x) j c e = dite (ℕ_discrete x.0 i)
    (λ here. none_is_not (j, c) (ap (λ (b : Bool). cond b None (Some x)) (sym (eq-eqb x.0 i here)) ∙ e))
    (λ other.
    let kept : Some x ≡ Some (j, c) = ap (λ (b : Bool). cond b None (Some x)) (sym (ne_eqb x.0 i other)) ∙ e in
    let first : x.0 ≡ j = ap (λ (y : ℕ × ℕ). y.0) (some_is x (j, c) kept) in
    (kept, λ same. other (first ∙ same)))

module _ (n m : ℕ) (words queue took : List ℕ) (p : InboxPart) (a : Agrees n m words queue took p) where
  -- what was read doesn't matter, and slots may come and go, but for that of the last swap
  pub held_moved : (held' : List ℕ) (last' : Option (ℕ × ℕ)) (f g : Seen)
      → ((i c : ℕ) → last' ≡ Some (i, c) → (p.last ≡ Some (i, c)) × (0 < times i p.held → 0 < times i held'))
      → Agrees n m words queue took (record p { held = held'; last = last'; free = f; queue = g })
  held_moved held' last' f g moved = record {
    producers = a.producers;
    slots = a.slots;
    put = a.put;
    taken = a.taken;
    last = λ i c e. let was = moved i c e in let l = a.last i c was.0 in (was.1 l.0, l.1, l.2);
    head = a.head;
    peeked = a.peeked;
  }

  pub seen_only : (f g : Seen) → Agrees n m words queue took (record p { free = f; queue = g })
  seen_only f g = held_moved p.held p.last f g (λ i c e. (e, λ held. held))

  -- words may change that are no ticket of a slot that the part speaks of
  pub words_moved : (words' : List ℕ) → tickets words' queue ≡ tickets words queue
      → ((i : ℕ) → 0 < times i p.held → get_or words' (2 + i) 0 ≡ get_or words (2 + i) 0)
      → ((i : ℕ) → 0 < times i queue → get_or words' (2 + i) 0 ≡ get_or words (2 + i) 0) → Agrees n m words' queue took p
  words_moved words' same held first = record {
    producers = a.producers;
    slots = a.slots;
    put = λ below. a.put below ∙ ap (λ ts. of_thread p.number (took ++ ts)) (sym same);
    taken = a.taken;
    last = λ i c e. let l = a.last i c e in (l.0, held i l.0 ∙ l.1, l.2);
    head = a.head;
    peeked = λ c e. let k = a.peeked c e in let h = a.head k.0 k.1 in
        (k.0, k.1, first k.0 (subst (λ q. 0 < times k.0 q) (sym h.1.1) (omega (arith, times-here k.0 h.1.0))) ∙ k.2);
  }

-- the words of tickets stay where one of the first two words changes
pub far : (words : List ℕ) (k x i : ℕ) → k < 2 → get_or (set words k x) (2 + i) 0 ≡ get_or words (2 + i) 0
far words k x i low = get_or-set_other words k (2 + i) x 0 (λ e. omega (arith, e))

pub far_tickets : (words : List ℕ) (k x : ℕ) (q : List ℕ) → k < 2 → tickets (set words k x) q ≡ tickets words q
far_tickets words k x [] low = refl
far_tickets words k x (i ∷ q) low =
    ap (λ n. n ∷ tickets (set words k x) q) (far words k x i low) ∙ ap (λ ns. get_or words (2 + i) 0 ∷ ns) (far_tickets words k x q low)
