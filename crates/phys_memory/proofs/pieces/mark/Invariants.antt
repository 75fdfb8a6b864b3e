use Rattle.std.proofs.Common.{◌≡◌, ℕ, ◌<◌, ◌≤◌, ◌⊎◌, get_or, true}
use Rattle.phys_memory.proofs.pieces.mark.Given as goal

abbrev pub invariant-loop-i : goal.invariant-loop-i
invariant-loop-i l = record {
  inside : (p : ℕ) → l.from ≤ p → p < l.i → get_or l.zeros p true ≡ true;
  others : (p : ℕ) → (p < l.from) ⊎ (l.i ≤ p) → get_or l.zeros p true ≡ get_or l.initial.zeros p true;
}
