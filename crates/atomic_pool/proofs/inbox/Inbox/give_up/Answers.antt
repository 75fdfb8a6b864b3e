use Rattle.std.proofs.Common.{rules, ◌-◌, ◌<◌, arith, refl, ap, sym, ◌∙◌, subst}
use Rattle.atomic_pool.specs.Times.{times}
use Rattle.atomic_pool.specs.InboxParts.{only_part, freed_part}
use Rattle.atomic_pool.proofs.Queues.{length-less}
use Rattle.atomic_pool.proofs.InboxSteps.{frees_ok}
use Rattle.atomic_pool.proofs.SeatSteps.{produces_still}
use Rattle.atomic_pool.proofs.inbox.Inbox.give_up.Goals as goal

pub fetch_or-requires : goal.fetch_or-requires
fetch_or-requires c = (
  search rules,
  search rules,
  frees_ok _ _ _ _ _ c.seat.invariant.is c.claim.inside.slot _ (omega (arith, c.claim.invariant.1)) c.mask-bit.ensures
      (subst (λ i. 0 < times i (only_part c.seat.inside.seat.me.0).held) (sym (ap (λ v. v.slot) c.claim.view_is))
      (subst (λ v. 0 < times c.args.claim.slot v.part.held) (sym c.seat.view_is) c.requires.held.1)),
)

pub invariant_of-seat : goal.invariant_of-seat
invariant_of-seat c =
    let told = c.fetch_or.ensures.2 c.claim.inside.slot (omega (arith, c.claim.invariant.1)) c.mask-bit.ensures in
    produces_still (freed_part c.claim.inside.slot c.fetch_or.result) _ _ _ _ _ _ _ (λ p. (refl, refl, refl)) c.seat.invariant c.fetch_or.ensures.0 told.0
    (length-less c.claim.inside.slot (only_part c.seat.inside.seat.me.0).held told.1 ∙ ap (λ n. n - 1) c.seat.invariant.count)
