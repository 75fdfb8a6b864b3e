use Rattle.std.proofs.Common.{◌≡◌, ◌-◌, [], vec_capacity}
use Rattle.shared_views.specs.Views.{made_from}
use Rattle.atomic_pool.specs.LinesRule.{fresh_part, fresh_seat}
use Rattle.atomic_pool.proofs.lines.Lines.new.Given as goal

abbrev pub invariant-loop-number : goal.invariant-loop-number
invariant-loop-number l = record {
  id : l.rest.table_id ≡ l.initial.rest.table_id;
  parts : l.rest.me ≡ (made_from fresh_part l.number (l.seats - l.number), []);
  seats : l.made.items ≡ made_from (fresh_seat l.initial.rest.table_id) 0 l.number;
  room : vec_capacity l.made ≡ vec_capacity l.initial.made;
}
