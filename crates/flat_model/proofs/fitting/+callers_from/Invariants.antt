use Rattle.std.proofs.Common.{length}
use Rattle.flat_model.proofs.fitting.+callers_from.Given as goal

abbrev pub decreases-callers_from : goal.decreases-callers_from
decreases-callers_from l = length l.threads.now
