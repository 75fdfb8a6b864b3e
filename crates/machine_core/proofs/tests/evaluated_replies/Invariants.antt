use Rattle.std.proofs.Common.{◌≡◌}
use Rattle.machine_core.proofs.tests.evaluated_replies.Given as goal

abbrev pub invariant-loop-t : goal.invariant-loop-t
invariant-loop-t l = l.state.config ≡ l.config
