use Rattle.std.proofs.Common.{◌≡◌, ℕ, ◌<◌, ◌≤◌, ◌⊎◌, get_or}
use Rattle.phys_memory.proofs.pieces.clear_words.Given as goal

abbrev pub invariant-loop-i : goal.invariant-loop-i
invariant-loop-i l = record {
  inside : (k : ℕ) → l.from ≤ k → k < l.i → get_or l.words k 0 ≡ 0;
  others : (k : ℕ) → (k < l.from) ⊎ (l.i ≤ k) → get_or l.words k 0 ≡ get_or l.initial.words k 0;
}
