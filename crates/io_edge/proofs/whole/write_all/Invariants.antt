use Rattle.std.proofs.Common.{◌≡◌, length}
use Rattle.io_edge.specs.Written.{Wrote}
use Rattle.io_edge.proofs.whole.write_all.Given as goal

abbrev pub invariant-writes : goal.invariant-writes
invariant-writes g l = record {
  so_far : Wrote (g.K.Sink.written l.fn.sink) (g.K.Sink.written l.sink) l.fn.bytes l.rest;
  counted : g.K.Sink.faults l.sink ≡ g.K.Sink.faults l.fn.sink;
}

abbrev pub decreases-writes : goal.decreases-writes
decreases-writes g l = length l.rest
