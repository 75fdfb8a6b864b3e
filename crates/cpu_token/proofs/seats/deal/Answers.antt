use Rattle.std.proofs.Common.{rules, ◌∙◌, ap, arith}
use Rattle.cpu_token.proofs.Dealing.{cuts_at, next_part, first_is, dealt_part, dealt_shows, dealt_more, dealt_last}
use Rattle.cpu_token.proofs.seats.deal.Goals as goal

pub split_seat-next-requires : goal.split_seat-next-requires
split_seat-next-requires g c = (search rules, search rules, cuts_at _ _ _ _ _ _ _ _ (next_part c.loop.invariant.dealt))

pub invariant_of-push_reserved : goal.invariant_of-push_reserved
invariant_of-push_reserved g c = dealt_part _ _ _ _ (ap (λ k. g.V.Stepped.fixed k.start.value) c.of-start.ensures) (first_is c.loop.invariant.dealt _ c.split_seat-next.ensures.4)

pub loop-preserved : goal.loop-preserved
loop-preserved g c = record {
  dealt = dealt_more c.loop.invariant.dealt _ _ _ c.loop-test.true c.split_seat-next.ensures.2 c.push_reserved.ensures.items
      (dealt_shows _ _ _ _ _ _ (c.split_seat-next.ensures.3 ∙ c.loop.invariant.of) (ap (λ k. g.V.Stepped.fixed k.start.value) c.of-start.ensures)
      (first_is c.loop.invariant.dealt _ c.split_seat-next.ensures.4));
  of = c.split_seat-next.ensures.0 ∙ c.loop.invariant.of;
  count = omega arith;
  room = omega arith;
}

pub invariant_of-push_reserved-2 : goal.invariant_of-push_reserved-2
invariant_of-push_reserved-2 g c = dealt_part _ _ _ _ (ap (λ k. g.V.Stepped.fixed k.start.value) c.of-start-2.ensures) (dealt_last c.loop.invariant.dealt (omega arith))
