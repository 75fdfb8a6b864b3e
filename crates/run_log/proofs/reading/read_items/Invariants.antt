use Rattle.std.proofs.Common.{length}
use Rattle.run_log.specs.Stops.{AreItemsOf}
use Rattle.run_log.proofs.reading.read_items.Given as goal

abbrev pub invariant-items : goal.invariant-items
invariant-items l = AreItemsOf l.fn.config l.fn.bytes l.items.items l.rest

abbrev pub decreases-items : goal.decreases-items
decreases-items l = length l.rest
