-- Bits of a word of 64.
use Rattle.std.specs.Prelude.{◌≡◌, ℕ, ◌*◌, ◌%◌, ◌^◌, ◌<◌}
use Rattle.std.specs.Int.{bit_at}

-- the word in which this bit alone is set
abbrev pub mask : ℕ → ℕ
mask k = 1 * 2 ^ k % 2 ^ 64

-- the bit is set, and none below it is
abbrev pub IsLowest : ℕ → ℕ → Type 0
IsLowest word k = (bit_at word k ≡ 1) × ((i : ℕ) → i < k → bit_at word i ≡ 0)
