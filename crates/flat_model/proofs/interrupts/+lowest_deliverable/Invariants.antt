use Rattle.std.proofs.Common.{length}
use Rattle.flat_model.proofs.interrupts.+lowest_deliverable.Given as goal

abbrev pub decreases-lowest_deliverable : goal.decreases-lowest_deliverable
decreases-lowest_deliverable l = length l.irqs.now
