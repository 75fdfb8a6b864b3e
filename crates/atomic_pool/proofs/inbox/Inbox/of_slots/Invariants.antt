use Rattle.std.proofs.Common.{◌≡◌, ◌-◌, suc, [], vec_capacity}
use Rattle.shared_views.specs.Views.{made_from}
use Rattle.atomic_pool.specs.InboxParts.{fresh_part}
use Rattle.atomic_pool.specs.InboxSeats.{fresh_seat}
use Rattle.atomic_pool.proofs.inbox.Inbox.of_slots.Given as goal

abbrev pub invariant-loop-number : goal.invariant-loop-number
invariant-loop-number l = record {
  id : l.rest.table_id ≡ l.initial.rest.table_id;
  parts : l.rest.me ≡ (made_from (fresh_part l.producers l.slots) l.number (suc l.producers - l.number), []);
  seats : l.made.items ≡ made_from (fresh_seat l.initial.rest.table_id l.producers l.slots) 0 l.number;
  room : vec_capacity l.made ≡ vec_capacity l.initial.made;
}
