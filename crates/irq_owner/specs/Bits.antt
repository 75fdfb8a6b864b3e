-- Inner: no public contract cites this. A word of 64 bits as 64 flags.
use Rattle.std.specs.Prelude.{◌≡◌, ℕ, zero, suc, ◌+◌, ◌<◌, Bool, List, [], ◌∷◌, nat_eq}
use Rattle.std.specs.Int.{bit_at}

-- whether this bit of the word is set
abbrev pub has_bit : ℕ → ℕ → Bool
has_bit word k = nat_eq (bit_at word k) 1

-- n bits of the word from bit k on
abbrev pub flags_from : ℕ → ℕ → ℕ → List Bool
flags_from word k zero = []
flags_from word k (suc n) = has_bit word k ∷ flags_from word (k + 1) n

-- the 64 bits of a word, from the lowest on
unfoldable pub flags : ℕ → List Bool
flags word = flags_from word 0 64

-- the bit is set, and none below it is
pub record IsLowest (word k : ℕ) : Type 0 where
  pub within : k < 64
  pub set : bit_at word k ≡ 1
  pub below : (i : ℕ) → i < k → bit_at word i ≡ 0
