use Rattle.std.proofs.Common.{◌≡◌, ◌++◌, drop}
use Rattle.std.specs.List.{AllByRecursion}
use Rattle.flat_model.specs.Sound.{IsThread}
use Rattle.io_edge.specs.Written.{Wrote}
use Rattle.uvisor_run.specs.CheckText.{threads_text}
use Rattle.uvisor_run.proofs.check_writing.put_threads.Given as goal

abbrev pub invariant-items : goal.invariant-items
invariant-items g l = record {
  so_far : Wrote (g.K.Sink.written l.fn.sink) (g.K.Sink.written l.sink) (l.fn.page ++ threads_text l.fn.name 0 l.fn.threads)
      (l.page ++ threads_text l.fn.name l.k (drop l.k l.threads));
  threads : AllByRecursion IsThread (drop l.k l.threads);
  counted : g.K.Sink.faults l.sink ≡ g.K.Sink.faults l.fn.sink;
}
