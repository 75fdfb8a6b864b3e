use Rattle.std.proofs.Common.{rules, ◌≡◌, ◌<◌, arith, refl, ap, sym, ◌∙◌, subst}
use Rattle.atomic_pool.specs.Times.{times}
use Rattle.atomic_pool.specs.Queue.{HasRoom}
use Rattle.atomic_pool.specs.InboxParts.{only_part, queue_looked, queued_part}
use Rattle.atomic_pool.proofs.Queues.{more-fits, queued-word}
use Rattle.atomic_pool.proofs.InboxSteps.{swaps_ok, looks_queue_ok, queues_ok}
use Rattle.atomic_pool.proofs.SeatSteps.{produces_still, queued_keeps, queued_held, swapped_seat, looked_seat}
use Rattle.atomic_pool.proofs.inbox.Inbox.put.Goals as goal

pub swap-requires : goal.swap-requires
swap-requires c =
    let same : c.claim.inside.from.value.id ≡ c.self.inside.table.shared.table_id = ap (λ v. v.inbox.id) c.claim.view_is ∙ (c.requires.from ∙ sym (ap (λ v. v.id) c.self.view_is)) in (
      search rules,
      omega (arith, c.claim.invariant.2, ap (λ z. z.words) same),
      swaps_ok _ _ _ _ _ c.seat.invariant.is c.claim.inside.slot _ _
          (subst (λ i. 0 < times i (only_part c.seat.inside.seat.me.0).held) (sym (ap (λ v. v.slot) c.claim.view_is))
          (subst (λ v. 0 < times c.args.claim.slot v.part.held) (sym c.seat.view_is) c.requires.held.1))
          (c.word_of-code.ensures.thread ∙ (c.requires.thread ∙ sym (ap (λ v. v.part.number) c.seat.view_is)))
          refl,
    )

pub load-seen-requires : goal.load-seen-requires
load-seen-requires c = (
  search rules,
  search rules,
  looks_queue_ok _ _ _ _ _ (swapped_seat c.claim.inside.slot c.word_of-code.result _ _ _ c.seat.invariant.is refl c.swap.ensures.2).is,
)

pub first_gap-requires : goal.first_gap-requires
first_gap-requires c =
    let s = swapped_seat c.claim.inside.slot c.word_of-code.result _ _ _ c.seat.invariant.is refl c.swap.ensures.2 in
    c.load-seen.ensures.2.1 c.claim.inside.slot (omega (arith, s.once, ap (times c.claim.inside.slot) s.held))

pub overflow_mul-more : goal.overflow_mul-more
overflow_mul-more c =
    let s = swapped_seat c.claim.inside.slot c.word_of-code.result _ _ _ c.seat.invariant.is refl c.swap.ensures.2 in
    let room : HasRoom c.load-seen.result = c.load-seen.ensures.2.1 c.claim.inside.slot (omega (arith, s.once, ap (times c.claim.inside.slot) s.held)) in
    let fits = more-fits c.from.result c.first_gap.result c.load-seen.result room.queue (omega (arith, c.claim.invariant.1, c.from.ensures)) room.slots room.is room.room (c.first_gap.ensures room.queue room.slots room.is) in
    omega (arith, fits.0)

pub overflow_add-seen : goal.overflow_add-seen
overflow_add-seen c =
    let s = swapped_seat c.claim.inside.slot c.word_of-code.result _ _ _ c.seat.invariant.is refl c.swap.ensures.2 in
    let room : HasRoom c.load-seen.result = c.load-seen.ensures.2.1 c.claim.inside.slot (omega (arith, s.once, ap (times c.claim.inside.slot) s.held)) in
    let fits = more-fits c.from.result c.first_gap.result c.load-seen.result room.queue (omega (arith, c.claim.invariant.1, c.from.ensures)) room.slots room.is room.room (c.first_gap.ensures room.queue room.slots room.is) in
    omega (arith, fits.1)

pub compare_exchange-found-requires : goal.compare_exchange-found-requires
compare_exchange-found-requires c =
    let s = swapped_seat c.claim.inside.slot c.word_of-code.result _ _ _ c.seat.invariant.is refl c.swap.ensures.2 in
    let t = looked_seat _ _ _ _ _ _ s c.load-seen.ensures.2.0 in (
      search rules,
      search rules,
      queues_ok _ _ _ _ _ t.is c.claim.inside.slot c.word_of-code.result _ _ t.last (omega (arith, t.number_is, t.producers_is, c.seat.invariant.produces, c.seat.invariant.named))
          (λ q slots e. queued-word c.claim.inside.slot c.from.result c.first_gap.result c.load-seen.result q c.from.ensures e (c.first_gap.ensures q slots e)),
    )

pub invariant_of-seat : goal.invariant_of-seat
invariant_of-seat c =
    let s = swapped_seat c.claim.inside.slot c.word_of-code.result _ _ _ c.seat.invariant.is refl c.swap.ensures.2 in
    let t = looked_seat _ _ _ _ _ _ s c.load-seen.ensures.2.0 in
    let swapped = produces_still _ _ _ _ _ c.seat.inside.held _ _ (λ p. (refl, refl, refl)) c.seat.invariant c.swap.ensures.0 c.swap.ensures.2.0 c.seat.invariant.count in
    let looked = produces_still (queue_looked c.load-seen.result) _ _ _ _ c.seat.inside.held _ _ (λ p. (refl, refl, refl)) swapped c.load-seen.ensures.0 c.load-seen.ensures.2.0 swapped.count in
    produces_still (queued_part c.compare_exchange-found.result) _ _ _ _ _ _ _ (queued_keeps c.compare_exchange-found.result) looked c.compare_exchange-found.ensures.0 (c.compare_exchange-found.ensures.2.0 c.if-found-seen.true)
    (queued_held _ _ _ _ _ t.last (ap (times c.claim.inside.slot) t.held ∙ t.once) looked.count)
