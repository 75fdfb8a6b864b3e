use Rattle.std.proofs.Common.{◌≡◌, ◌++◌, drop, take}
use Rattle.std.specs.List.{AllByRecursion}
use Rattle.flat_model.specs.Text.{end_lines}
use Rattle.io_edge.specs.Written.{Wrote}
use Rattle.run_log.specs.Typed.{IsTypedEnd}
use Rattle.run_log.proofs.writing.put_ends.Given as goal

abbrev pub invariant-ends : goal.invariant-ends
invariant-ends g l = record {
  so_far : Wrote (g.K.Sink.written l.fn.sink) (g.K.Sink.written l.sink) (l.fn.page ++ end_lines l.fn.config 0 l.fn.ends)
      (l.page ++ end_lines l.fn.config l.t (drop l.t l.ends));
  typed : AllByRecursion IsTypedEnd (take l.t l.ends);
  counted : g.K.Sink.faults l.sink ≡ g.K.Sink.faults l.fn.sink;
}
