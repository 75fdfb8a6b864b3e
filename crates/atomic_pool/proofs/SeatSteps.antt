-- What a producer's seat is after its steps.
use Rattle.std.proofs.Common.{◌≡◌, ℕ, ◌+◌, ◌-◌, [], ◌∷◌, length, Option, Some, None, refl, ap, sym, ◌∙◌, arith}
use Rattle.atomic_table.specs.Seated.{TableId}
use Rattle.atomic_pool.specs.Times.{times}
use Rattle.atomic_pool.specs.InboxParts.{only_part, swapped_part, queue_looked, queued_by, queued_part}
use Rattle.atomic_pool.specs.InboxPlays.{Sat, Becomes}
use Rattle.atomic_pool.specs.InboxSeats.{IsProducer}
use Rattle.atomic_pool.specs.declared.inbox.InboxPart.{InboxPart}
use Rattle.atomic_pool.proofs.Queues.{length-less}
use Rattle.atomic_pool.proofs.InboxSteps.{part_after, alone_after}

-- a step that keeps the part's number and its inbox leaves a producer, with the slots that its part then holds
pub produces_still : (f : InboxPart → InboxPart) (id id' : TableId) (number held held' : ℕ) (m m' : Sat)
    → ((p : InboxPart) → ((f p).number ≡ p.number) × ((f p).producers ≡ p.producers) × ((f p).slots ≡ p.slots))
    → IsProducer id number held m → id' ≡ id → Becomes f m m' → length (f (only_part m.0)).held ≡ held' → IsProducer id' number held' m'
produces_still f id id' number held held' m m' keeps was same step count =
    let now : only_part m'.0 ≡ f (only_part m.0) = part_after f m m' was.is step in
    let kept = keeps (only_part m.0) in
    record {
      is = alone_after f m m' was.is step;
      named = ap (λ p. p.number) now ∙ (kept.0 ∙ was.named);
      produces = omega (arith, was.produces, ap (λ (p : InboxPart). p.producers) now, kept.1);
      count = ap (λ p. length p.held) now ∙ count;
      wide = ap (λ z. z.words) same ∙ (was.wide ∙ ap (λ n. 2 + n) (sym (ap (λ p. p.slots) now ∙ kept.2)));
    }

-- an exchange that queues a slot keeps the part's number and its inbox
pub queued_keeps : (w : ℕ) (p : InboxPart) → ((queued_part w p).number ≡ p.number) × ((queued_part w p).producers ≡ p.producers) × ((queued_part w p).slots ≡ p.slots)
queued_keeps w p = of_last p.last
  where
    of_last : (l : Option (ℕ × ℕ)) → ((queued_by l w p).number ≡ p.number) × ((queued_by l w p).producers ≡ p.producers) × ((queued_by l w p).slots ≡ p.slots)
    of_last None = (refl, refl, refl)
    of_last (Some x) = (refl, refl, refl)

-- the slots that are left to the part then
pub queued_held : (i c w held : ℕ) (p : InboxPart) → p.last ≡ Some (i, c) → times i p.held ≡ 1 → length p.held ≡ held → length (queued_part w p).held ≡ held - 1
queued_held i c w held p last one count =
    ap (λ l. length (queued_by l w p).held) last ∙ (length-less i p.held one ∙ ap (λ n. n - 1) count)

-- the part between the swap and the exchange of a put
pub record IsSwapped (i c : ℕ) (before m : Sat) : Type 0 where
  pub is : m ≡ (only_part m.0 ∷ [], [])
  pub last : (only_part m.0).last ≡ Some (i, c)
  pub held : (only_part m.0).held ≡ (only_part before.0).held
  pub once : times i (only_part before.0).held ≡ 1
  pub number_is : (only_part m.0).number ≡ (only_part before.0).number
  pub producers_is : (only_part m.0).producers ≡ (only_part before.0).producers

pub swapped_seat : (i c j : ℕ) (m m' : Sat) → m ≡ (only_part m.0 ∷ [], []) → j ≡ 2 + i → Becomes (swapped_part (j - 2) c) m m' × (times (j - 2) (only_part m.0).held ≡ 1) → IsSwapped i c m m'
swapped_seat i c j m m' is at told =
    let back : j - 2 ≡ i = omega arith in
    let now : only_part m'.0 ≡ swapped_part (j - 2) c (only_part m.0) = part_after (swapped_part (j - 2) c) m m' is told.0 in
    record {
      is = alone_after (swapped_part (j - 2) c) m m' is told.0;
      last = ap (λ p. p.last) now ∙ ap (λ k. Some (k, c)) back;
      held = ap (λ p. p.held) now;
      once = ap (λ k. times k (only_part m.0).held) (sym back) ∙ told.1;
      number_is = ap (λ p. p.number) now;
      producers_is = ap (λ p. p.producers) now;
    }

pub looked_seat : (i c w : ℕ) (before m m' : Sat) → IsSwapped i c before m → Becomes (queue_looked w) m m' → IsSwapped i c before m'
looked_seat i c w before m m' was step_is =
    let now : only_part m'.0 ≡ queue_looked w (only_part m.0) = part_after (queue_looked w) m m' was.is step_is in
    record {
      is = alone_after (queue_looked w) m m' was.is step_is;
      last = ap (λ p. p.last) now ∙ was.last;
      held = ap (λ p. p.held) now ∙ was.held;
      once = was.once;
      number_is = ap (λ p. p.number) now ∙ was.number_is;
      producers_is = ap (λ p. p.producers) now ∙ was.producers_is;
    }
