use Rattle.std.proofs.Common.{◌≡◌, ◌++◌, drop}
use Rattle.std.specs.List.{flat_map}
use Rattle.io_edge.specs.Written.{Wrote}
use Rattle.uvisor_run.specs.CheckText.{item_text}
use Rattle.uvisor_run.proofs.check_writing.put_items.Given as goal

abbrev pub invariant-items : goal.invariant-items
invariant-items g l = record {
  so_far : Wrote (g.K.Sink.written l.fn.sink) (g.K.Sink.written l.sink) (l.fn.page ++ flat_map item_text l.fn.items)
      (l.page ++ flat_map item_text (drop l.item-index l.items));
  counted : g.K.Sink.faults l.sink ≡ g.K.Sink.faults l.fn.sink;
}
