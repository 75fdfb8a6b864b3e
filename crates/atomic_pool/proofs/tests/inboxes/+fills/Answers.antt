use Rattle.std.proofs.Common.{ap, ◌∙◌}
use Rattle.atomic_pool.specs.Queue.{without}
use Rattle.atomic_pool.proofs.Queues.{without-last}
use Rattle.atomic_pool.proofs.tests.inboxes.+fills.Goals as goal

pub returns-in-Claim-clause-seat : goal.returns-in-Claim-clause-seat
returns-in-Claim-clause-seat t c = (
  ap (λ v. v.inbox) c.give_up.ensures.1 ∙ (c.fill-more.ensures.seat.0 ∙ ap (λ v. v.inbox) c.in-Claim.ensures.0.is),
  ap (λ v. v.part.number) c.give_up.ensures.1 ∙ (c.fill-more.ensures.seat.1 ∙ ap (λ v. v.part.number) c.in-Claim.ensures.0.is),
  ap (λ v. v.part.held) c.give_up.ensures.1
      ∙ (ap (without c.in-Claim.claim.slot) (c.fill-more.ensures.seat.2 ∙ ap (λ v. v.part.held) c.in-Claim.ensures.0.is)
      ∙ without-last c.in-Claim.claim.slot _ c.in-Claim.ensures.0.new),
)
