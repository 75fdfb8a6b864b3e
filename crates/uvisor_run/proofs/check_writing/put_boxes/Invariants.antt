use Rattle.std.proofs.Common.{◌≡◌, ◌++◌, drop}
use Rattle.std.specs.List.{AllByRecursion, flat_map}
use Rattle.flat_model.specs.Sound.{IsBox}
use Rattle.flat_model.specs.Placing.{common_range}
use Rattle.io_edge.specs.Written.{Wrote}
use Rattle.uvisor_run.specs.CheckText.{box_text}
use Rattle.uvisor_run.proofs.check_writing.put_boxes.Given as goal

abbrev pub invariant-items : goal.invariant-items
invariant-items g l = record {
  so_far : Wrote (g.K.Sink.written l.fn.sink) (g.K.Sink.written l.sink) (l.fn.page ++ flat_map (box_text l.fn.config) l.boxes)
      (l.page ++ flat_map (box_text l.fn.config) (drop l.part-index l.boxes));
  each : AllByRecursion (IsBox l.fn.config.board (common_range l.fn.config.board l.fn.config.boxes)) (drop l.part-index l.boxes);
  counted : g.K.Sink.faults l.sink ≡ g.K.Sink.faults l.fn.sink;
}
