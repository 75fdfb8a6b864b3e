use Rattle.std.proofs.Common.{◌≡◌, ◌+◌, ◌-◌, ◌≤◌, length}
use Rattle.std.specs.Io.KnownBytes.{prepend_known}
use Rattle.io_edge.proofs.whole.read_all.Given as goal

abbrev pub invariant-reads : goal.invariant-reads
invariant-reads g l = record {
  within : length l.all.items ≤ l.limit;
  so_far : g.S.Source.left l.fn.src ≡ prepend_known l.all.items (g.S.Source.left l.src);
  counted : g.S.Source.faults l.src ≡ g.S.Source.faults l.fn.src;
  room : length l.buf ≡ 4096;
}

abbrev pub decreases-reads : goal.decreases-reads
decreases-reads g l = l.limit + 1 - length l.all.items
