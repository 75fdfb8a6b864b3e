-- The steps of a seat that has one part and holds nothing of the table.
use Rattle.std.proofs.Common.{◌≡◌, ℕ, ◌+◌, ◌*◌, ◌/◌, ◌^◌, ◌<◌, List, [], ◌∷◌, map, length, Some, None, eqb, ap, sym, ◌∙◌, subst, bit_and, bit_or, w64}
use mathlib.Core.Option.{none}
use prog.Atomic.{either}
use Rattle.std.specs.Int.{bit_not}
use Rattle.atomic_table.specs.Table.{step, Allows}
use Rattle.atomic_pool.specs.Bits.{mask}
use Rattle.atomic_pool.specs.Tickets.{thread_of}
use Rattle.atomic_pool.specs.Queue.{AreSlots, encode}
use Rattle.atomic_pool.specs.InboxRule.{holds_of, InboxRule}
use Rattle.atomic_pool.specs.InboxParts.{only_part}
use Rattle.atomic_pool.specs.InboxPlays.{Sat, Becomes, looks_free, claims, frees, swaps, looks_queue, queues, looks_head, peeks, dequeues}
use Rattle.atomic_pool.specs.declared.inbox.InboxPart.{InboxPart}
use Rattle.atomic_pool.proofs.InboxFree.{look_free_kept, claim_kept, free_kept}
use Rattle.atomic_pool.proofs.InboxPut.{swap_kept, look_queue_kept, queue_kept}
use Rattle.atomic_pool.proofs.InboxTake.{look_head_kept, peek_kept, dequeue_kept}

-- the part of a seat after a step
pub part_after : (f : InboxPart → InboxPart) (m m' : Sat) → m ≡ (only_part m.0 ∷ [], []) → Becomes f m m' → only_part m'.0 ≡ f (only_part m.0)
part_after f m m' is e = ap (λ (x : Sat). only_part x.0) e ∙ ap (λ (x : Sat). only_part (map f x.0)) is

-- it is still the only one
pub alone_after : (f : InboxPart → InboxPart) (m m' : Sat) → m ≡ (only_part m.0 ∷ [], []) → Becomes f m m' → m' ≡ (only_part m'.0 ∷ [], [])
alone_after f m m' is e =
    let now : m' ≡ (f (only_part m.0) ∷ [], []) = e ∙ ap (λ (x : Sat). (map f x.0, x.1)) is in
    now ∙ ap (λ (p : InboxPart). (p ∷ [], [])) (sym (part_after f m m' is e))

module _ (n k slots id : ℕ) (m : Sat) (is : m ≡ (only_part m.0 ∷ [], [])) where
  pub looks_free_ok : Allows (InboxRule n k) slots id m 0 (λ w. w) (looks_free (step slots 0 0 0 none) m)
  looks_free_ok = subst (λ x. Allows (InboxRule n k) slots id x 0 (λ w. w) (looks_free (step slots 0 0 0 none) x)) (sym is) (look_free_kept n k slots id (only_part m.0))

  pub claims_ok : (i a : ℕ) → i < 64 → a ≡ bit_not w64 (mask i) → Allows (InboxRule n k) slots id m 0 (λ w. bit_and w a) (claims (step slots 0 a 0 none) m)
  claims_ok i a within e = subst (λ x. Allows (InboxRule n k) slots id x 0 (λ w. bit_and w a) (claims (step slots 0 a 0 none) x)) (sym is) (claim_kept n k slots id (only_part m.0) i a within e)

  pub frees_ok : (i a : ℕ) → i < 64 → a ≡ mask i → 0 < holds_of i (only_part m.0) → Allows (InboxRule n k) slots id m 0 (λ w. bit_or w a) (frees (step slots 0 a 0 none) m)
  frees_ok i a within e held = subst (λ x. Allows (InboxRule n k) slots id x 0 (λ w. bit_or w a) (frees (step slots 0 a 0 none) x)) (sym is) (free_kept n k slots id (only_part m.0) i a within e held)

  pub swaps_ok : (i c j : ℕ) → 0 < holds_of i (only_part m.0) → thread_of c ≡ (only_part m.0).number → j ≡ 2 + i → Allows (InboxRule n k) slots id m j (λ _. c) (swaps (step slots j c 0 none) m)
  swaps_ok i c j held from e = subst (λ x. Allows (InboxRule n k) slots id x j (λ _. c) (swaps (step slots j c 0 none) x)) (sym is) (swap_kept n k slots id (only_part m.0) i c j held from e)

  pub looks_queue_ok : Allows (InboxRule n k) slots id m 1 (λ w. w) (looks_queue (step slots 1 0 0 none) m)
  looks_queue_ok = subst (λ x. Allows (InboxRule n k) slots id x 1 (λ w. w) (looks_queue (step slots 1 0 0 none) x)) (sym is) (look_queue_kept n k slots id (only_part m.0))

  pub queues_ok : (i c old new : ℕ) → (only_part m.0).last ≡ Some (i, c) → (only_part m.0).number < (only_part m.0).producers
      → ((q : List ℕ) → AreSlots q → old ≡ encode q → new ≡ encode q + (i + 1) * 16 ^ length q)
      → Allows (InboxRule n k) slots id m 1 (λ w. either (eqb w old) new w) (queues (step slots 1 old new none) m)
  queues_ok i c old new last below more = subst (λ x. Allows (InboxRule n k) slots id x 1 (λ w. either (eqb w old) new w) (queues (step slots 1 old new none) x)) (sym is)
      (queue_kept n k slots id (only_part m.0) i c old new last below more)

  pub looks_head_ok : (only_part m.0).number ≡ (only_part m.0).producers → (only_part m.0).peeked ≡ None → Allows (InboxRule n k) slots id m 1 (λ w. w) (looks_head (step slots 1 0 0 none) m)
  looks_head_ok consumer unread = subst (λ x. Allows (InboxRule n k) slots id x 1 (λ w. w) (looks_head (step slots 1 0 0 none) x)) (sym is) (look_head_kept n k slots id (only_part m.0) consumer unread)

  pub peeks_ok : (i j : ℕ) → (only_part m.0).head ≡ Some i → j ≡ 2 + i → Allows (InboxRule n k) slots id m j (λ w. w) (peeks (step slots j 0 0 none) m)
  peeks_ok i j head e = subst (λ x. Allows (InboxRule n k) slots id x j (λ w. w) (peeks (step slots j 0 0 none) x)) (sym is) (peek_kept n k slots id (only_part m.0) i j head e)

  pub dequeues_ok : (i c old new : ℕ) → (only_part m.0).head ≡ Some i → (only_part m.0).peeked ≡ Some c → new ≡ old / 16
      → Allows (InboxRule n k) slots id m 1 (λ w. either (eqb w old) new w) (dequeues (step slots 1 old new none) m)
  dequeues_ok i c old new head peeked e = subst (λ x. Allows (InboxRule n k) slots id x 1 (λ w. either (eqb w old) new w) (dequeues (step slots 1 old new none) x)) (sym is)
      (dequeue_kept n k slots id (only_part m.0) i c old new head peeked e)
