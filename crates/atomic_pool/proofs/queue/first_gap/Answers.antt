use Rattle.std.proofs.Common.{◌/◌, ◌^◌, suc, ap, sym, ◌∙◌, arith}
use Rattle.atomic_pool.proofs.Queues.{gap-next, gap-end, gap-le, gap-up}
use Rattle.atomic_pool.proofs.queue.first_gap.Goals as goal

pub overflow_mul-gap : goal.overflow_mul-gap
overflow_mul-gap c =
    let k = c.loop-rest.invariant c.requires.queue c.requires.slots c.requires.is in
    let n = gap-next k.0 c.requires.queue c.requires.slots (λ e. c.loop-rest-test.true (k.2 ∙ e)) in
    omega (arith, gap-up k.0 c.loop-rest.gap k.3, gap-le (suc k.0) (omega (arith, n.0, c.requires.room)))

pub loop-rest-preserved : goal.loop-rest-preserved
loop-rest-preserved c q slots is =
    let k = c.loop-rest.invariant q slots is in
    let n = gap-next k.0 q slots (λ e. c.loop-rest-test.true (k.2 ∙ e)) in
    (suc k.0, omega (arith, n.0), ap (λ x. x / 16) k.2 ∙ n.1, gap-up k.0 c.loop-rest.gap k.3)

pub returns : goal.returns
returns c q slots is =
    let k = c.loop-rest.invariant q slots is in
    k.3 ∙ ap (λ x. 16 ^ x) (gap-end k.0 q k.1 (sym k.2 ∙ c.loop-rest-test.false))
