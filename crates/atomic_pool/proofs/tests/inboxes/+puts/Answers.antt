use Rattle.std.proofs.Common.{ap, ◌∙◌}
use Rattle.atomic_pool.specs.Queue.{without}
use Rattle.atomic_pool.proofs.Queues.{without-last}
use Rattle.atomic_pool.proofs.tests.inboxes.+puts.Goals as goal

pub returns-in-Claim : goal.returns-in-Claim
returns-in-Claim t c = (
  c.put_or_give_up-put.ensures.0 ∙ (c.fill_and_put-more.ensures.0 ∙ ap (λ v. v.inbox) c.in-Claim.ensures.0.is),
  c.put_or_give_up-put.ensures.1 ∙ (c.fill_and_put-more.ensures.1 ∙ ap (λ v. v.part.number) c.in-Claim.ensures.0.is),
  c.put_or_give_up-put.ensures.2
      ∙ (ap (without c.in-Claim.claim.slot) (c.fill_and_put-more.ensures.2 ∙ ap (λ v. v.part.held) c.in-Claim.ensures.0.is)
      ∙ without-last c.in-Claim.claim.slot _ c.in-Claim.ensures.0.new),
)
