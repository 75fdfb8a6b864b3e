use Rattle.std.proofs.Common.{rules, [], drop, length, ap, ◌∙◌, arith}
use Rattle.shared_views.proofs.Views.{made_length}
use Rattle.atomic_pool.specs.LinesRule.{fresh_seat, only_part}
use Rattle.atomic_pool.proofs.LinesWhole.{opens, splits_ok, next_part, first_seat, first_alone, seat_pushed}
use Rattle.atomic_pool.proofs.lines.Lines.new.Goals as goal

pub of_words-requires : goal.of_words-requires
of_words-requires c = opens c.args.seats

pub split_seat-seat-requires : goal.split_seat-seat-requires
split_seat-seat-requires c = (
  search rules,
  search rules,
  splits_ok _ _ _ _ _ (ap (λ m. m.0) c.loop-number.invariant.parts ∙ next_part c.args.seats c.loop-number.number c.loop-number-test.true),
)

pub invariant_of-push_reserved : goal.invariant_of-push_reserved
invariant_of-push_reserved c =
    first_seat _ _ _ _ c.split_seat-seat.ensures.4 (ap (λ m. m.0) c.loop-number.invariant.parts ∙ next_part c.args.seats c.loop-number.number c.loop-number-test.true)

pub push_reserved-requires : goal.push_reserved-requires
push_reserved-requires c =
    omega (arith, ap length c.loop-number.invariant.seats, made_length (fresh_seat c.in_ok-table.rest.table_id) c.loop-number.number 0, c.in_ok-made.ensures.capacity, c.loop-number-test.true, c.loop-number.invariant.room)

pub loop-number-preserved : goal.loop-number-preserved
loop-number-preserved c = record {
  id = search rules;
  parts = c.split_seat-seat.ensures.2
      ∙ (ap (λ m. (drop 1 m.0, m.1)) c.loop-number.invariant.parts
      ∙ ap (λ v. (drop 1 v, [])) (next_part c.args.seats c.loop-number.number c.loop-number-test.true));
  seats = c.push_reserved.ensures.items
      ∙ seat_pushed _ c.loop-number.number _ _ (c.split_seat-seat.ensures.3 ∙ c.loop-number.invariant.id)
      (ap (λ m. only_part m.0) (first_alone _ _ _ _ c.split_seat-seat.ensures.4 (ap (λ m. m.0) c.loop-number.invariant.parts ∙ next_part c.args.seats c.loop-number.number c.loop-number-test.true)))
      c.loop-number.invariant.seats;
  room = search rules;
}
