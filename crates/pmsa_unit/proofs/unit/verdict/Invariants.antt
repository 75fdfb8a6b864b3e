use Rattle.std.proofs.Common.{◌≡◌, ℕ, false, ◌<◌, ◌≤◌}
use Rattle.flat_model.specs.Decision.{matches_at}
use Rattle.pmsa_unit.proofs.unit.verdict.Given as goal

-- no region from the slot on has the address
abbrev pub invariant-loop-slot : goal.invariant-loop-slot
invariant-loop-slot l = (j : ℕ) → l.slot ≤ j → j < 8 → matches_at l.pairs l.a j ≡ false
