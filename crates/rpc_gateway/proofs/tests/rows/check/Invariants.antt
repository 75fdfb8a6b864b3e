use Rattle.std.proofs.Common.{◌≡◌, ◌+◌, ◌≤◌}
use Rattle.rpc_gateway.specs.Sample.{three_boxes}
use Rattle.rpc_gateway.proofs.tests.rows.check.Given as goal

-- each call so far took at most one of the spare places
abbrev pub invariant-loop-step : goal.invariant-loop-step
invariant-loop-step g l = (l.calls.config ≡ three_boxes) × (40 ≤ l.calls.spare + l.step-index)
