use Rattle.std.proofs.Common.{◌≡◌, [], ◌++◌, length, All}
use Rattle.atomic_pool.specs.LinesTold.{parts_of}
use Rattle.atomic_pool.proofs.lines.Lines.close.Given as goal

abbrev pub invariant-loop-next : goal.invariant-loop-next
invariant-loop-next l = record {
  table : l.table ≡ l.initial.table;
  id : l.all.table_id ≡ l.fn.self.id;
  none_held : l.all.me.1 ≡ [];
  of : All (λ s. s.lines ≡ l.fn.self.id) l.seats.items;
  parts : parts_of l.seats.items ++ l.all.me.0 ≡ parts_of l.fn.seats.items;
}

abbrev pub decreases-loop-next : goal.decreases-loop-next
decreases-loop-next l = length l.seats.items
