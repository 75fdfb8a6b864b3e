use Rattle.std.proofs.Common.{rules, [], drop, length, get_or, ap, ◌∙◌, arith}
use Rattle.shared_views.proofs.Views.{made_length}
use Rattle.atomic_pool.specs.InboxParts.{only_part}
use Rattle.atomic_pool.specs.InboxSeats.{fresh_seat}
use Rattle.atomic_pool.proofs.InboxWhole.{opens, splits_ok, next_part, first_alone, first_seat, seat_pushed}
use Rattle.atomic_pool.proofs.inbox.Inbox.of_slots.Goals as goal

pub of_words-requires : goal.of_words-requires
of_words-requires c = opens c.args.producers c.args.slots _ c.requires.few (omega (arith, c.requires.small))
    (ap length c.as_slice.ensures.value ∙ c.in_ok-words.ensures.length)
    (ap (λ ws. get_or ws 0 0) c.as_slice.ensures.value ∙ c.in_ok-words.ensures.free)
    (ap (λ ws. get_or ws 1 0) c.as_slice.ensures.value ∙ c.in_ok-words.ensures.empty)

pub split_seat-seat-requires : goal.split_seat-seat-requires
split_seat-seat-requires c = (
  search rules,
  search rules,
  splits_ok _ _ _ _ _ _ (ap (λ m. m.0) c.loop-number.invariant.parts ∙ next_part c.args.producers c.args.slots c.loop-number.number c.loop-number-test.true),
)

pub invariant_of-push_reserved : goal.invariant_of-push_reserved
invariant_of-push_reserved c =
    first_seat c.args.producers c.args.slots c.loop-number.number _ _ c.loop-number-test.true
    (ap (λ z. z.words) (c.split_seat-seat.ensures.3 ∙ (c.loop-number.invariant.id ∙ c.in_ok-table.ensures.2)) ∙ (c.in_ok-table.ensures.0 ∙ (ap length c.as_slice.ensures.value ∙ c.in_ok-words.ensures.length)))
    (first_alone _ _ _ _ _ _ c.split_seat-seat.ensures.4 (ap (λ m. m.0) c.loop-number.invariant.parts ∙ next_part c.args.producers c.args.slots c.loop-number.number c.loop-number-test.true))

pub push_reserved-requires : goal.push_reserved-requires
push_reserved-requires c =
    omega (arith, ap length c.loop-number.invariant.seats, made_length (fresh_seat c.in_ok-table.rest.table_id c.args.producers c.args.slots) c.loop-number.number 0, c.in_ok-made.ensures.capacity, c.loop-number-test.true, c.loop-number.invariant.room)

pub loop-number-preserved : goal.loop-number-preserved
loop-number-preserved c = record {
  id = search rules;
  parts = c.split_seat-seat.ensures.2
      ∙ (ap (λ m. (drop 1 m.0, m.1)) c.loop-number.invariant.parts
      ∙ ap (λ v. (drop 1 v, [])) (next_part c.args.producers c.args.slots c.loop-number.number c.loop-number-test.true));
  seats = c.push_reserved.ensures.items
      ∙ seat_pushed _ c.args.producers c.args.slots c.loop-number.number _ _ (c.split_seat-seat.ensures.3 ∙ c.loop-number.invariant.id)
      (ap (λ m. only_part m.0) (first_alone _ _ _ _ _ _ c.split_seat-seat.ensures.4 (ap (λ m. m.0) c.loop-number.invariant.parts ∙ next_part c.args.producers c.args.slots c.loop-number.number c.loop-number-test.true)))
      c.loop-number.invariant.seats;
  room = search rules;
}
