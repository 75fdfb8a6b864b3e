use Rattle.region_rotation.proofs.Spreading.{IsSpread}
use Rattle.region_rotation.proofs.tests.spread.Given as goal

abbrev pub invariant-loop-k : goal.invariant-loop-k
invariant-loop-k l = IsSpread l.first l.step l.k l.grants.items
