use Rattle.std.proofs.Common.{◌≡◌}
use Rattle.uvisor_run.proofs.tests.evaluator.evaluated_replies.Given as goal

abbrev pub invariant-loop-item : goal.invariant-loop-item
invariant-loop-item l = l.state.config ≡ l.config
