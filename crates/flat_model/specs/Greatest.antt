-- The greatest number of a set.
use Rattle.std.specs.Prelude.{◌≡◌, ℕ, ◌<◌, Bool, true, false, Option, Some, None, if◌then◌else◌}
use Rattle.std.proofs.Common.{zero, suc}

-- the greatest number below n that the set has
unfoldable pub greatest : (ℕ → Bool) → ℕ → Option ℕ
greatest has zero = None
greatest has (suc n) = if has n then Some n else greatest has n

-- the set has this number and no greater one below n
pub record IsGreatest (has : ℕ → Bool) (n s : ℕ) : Type 0 where
  pub below : s < n
  pub here : has s ≡ true
  pub above : (j : ℕ) → s < j → j < n → has j ≡ false

-- what an answer of `greatest` says of the numbers below n
abbrev pub Says : (ℕ → Bool) → ℕ → Option ℕ → Type 0
Says has n None = (j : ℕ) → j < n → has j ≡ false
Says has n (Some s) = IsGreatest has n s
