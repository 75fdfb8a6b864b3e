use Rattle.std.proofs.Common.{◌≡◌, ◌≤◌, ◌^◌, ℕ, List, drop, length}
use Rattle.atomic_pool.specs.Queue.{AreSlots, encode}
use Rattle.atomic_pool.proofs.queue.first_gap.Given as goal

abbrev pub invariant-loop-rest : goal.invariant-loop-rest
invariant-loop-rest l = (q : List ℕ) → AreSlots q → l.word ≡ encode q → (k : ℕ) × (k ≤ length q) × (l.rest ≡ encode (drop k q)) × (l.gap ≡ 16 ^ k)

abbrev pub decreases-loop-rest : goal.decreases-loop-rest
decreases-loop-rest l = l.rest
