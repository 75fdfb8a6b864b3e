use Rattle.std.proofs.Common.{◌≡◌, ◌++◌, drop, take}
use Rattle.std.specs.List.{AllByRecursion, flat_map}
use Rattle.flat_model.specs.Text.{item_line}
use Rattle.io_edge.specs.Written.{Wrote}
use Rattle.run_log.specs.Typed.{IsTypedItem}
use Rattle.run_log.proofs.writing.put_items.Given as goal

abbrev pub invariant-items : goal.invariant-items
invariant-items g l = record {
  so_far : Wrote (g.K.Sink.written l.fn.sink) (g.K.Sink.written l.sink) (l.fn.page ++ flat_map (item_line l.fn.config) l.fn.items)
      (l.page ++ flat_map (item_line l.fn.config) (drop l.item-index l.items));
  typed : AllByRecursion IsTypedItem (take l.item-index l.items);
  counted : g.K.Sink.faults l.sink ≡ g.K.Sink.faults l.fn.sink;
}
