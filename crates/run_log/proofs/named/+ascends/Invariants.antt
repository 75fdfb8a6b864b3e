use Rattle.std.proofs.Common.{length}
use Rattle.run_log.proofs.named.+ascends.Given as goal

abbrev pub decreases-ascends : goal.decreases-ascends
decreases-ascends l = length l.numbers.now
