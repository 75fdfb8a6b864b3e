use Rattle.std.proofs.Common.{◌≡◌, length}
use Rattle.run_log.specs.Stops.{AreEndsOf}
use Rattle.run_log.proofs.reading.read_ends.Given as goal

abbrev pub invariant-ends : goal.invariant-ends
invariant-ends l = record {
  read : AreEndsOf l.fn.config l.fn.bytes l.ends.items l.rest;
  count : length l.ends.items ≡ l.t;
}
