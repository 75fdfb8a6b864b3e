-- Powers of two, and rounding to them.
use Rattle.std.specs.Prelude.{ℕ, zero, suc, ◌+◌, ◌^◌, ◌≤◌, Bool, ◌==◌, List, [], ◌∷◌, Option, find, nat_le}
use Rattle.std.specs.List.{list_any}
pub use Rattle.std.specs.Int.{IsPowerOfTwo}

-- the least power of two that is at or above both bounds
pub record IsLeastPower (low n power : ℕ) : Type 0 where
  pub is_power : IsPowerOfTwo power
  pub enough : n ≤ power
  pub at_least : low ≤ power
  pub least : (k : ℕ) → n ≤ 2 ^ k → low ≤ 2 ^ k → power ≤ 2 ^ k

-- the greatest power of two not above the number
pub record IsGreatestPower (n power : ℕ) : Type 0 where
  pub is_power : IsPowerOfTwo power
  pub within : power ≤ n
  pub greatest : (k : ℕ) → 2 ^ k ≤ n → 2 ^ k ≤ power

-- as many powers of two as said, from 2 to the k upward
unfoldable pub powers_from : ℕ → ℕ → List ℕ
powers_from k zero = []
powers_from k (suc n) = 2 ^ k ∷ powers_from (suc k) n

-- the same powers downward
unfoldable pub powers_down : ℕ → ℕ → List ℕ
powers_down k zero = []
powers_down k (suc n) = 2 ^ (k + n) ∷ powers_down k n

-- whether the number is one of the powers of two below 2 ^ 32
unfoldable pub is_power : ℕ → Bool
is_power n = list_any (λ power. n == power) (powers_from 0 32)

-- the least power of two from 32 to 2 ^ 31 that is at or above the length
unfoldable pub round_up : ℕ → Option ℕ
round_up len = find (λ power. nat_le len power) (powers_from 5 27)

-- the greatest power of two from 32 to 2 ^ 31 that is not above the length
unfoldable pub round_down : ℕ → Option ℕ
round_down len = find (λ power. nat_le power len) (powers_down 5 27)
