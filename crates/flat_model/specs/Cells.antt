-- Bytes and little-endian words.
use Rattle.std.specs.Prelude.{ℕ, zero, suc, ◌+◌, ◌*◌, ◌/◌, ◌%◌, List, [], ◌∷◌}

-- a byte that is to be written at an address
pub record Cell : Type 0 where
  pub at : ℕ
  pub value : ℕ

-- the n low bytes of a value, from an address on, the lowest first
abbrev pub cells_of : ℕ → ℕ → ℕ → List Cell
cells_of a zero value = []
cells_of a (suc n) value = record { at = a; value = value % 256 } ∷ cells_of (a + 1) n (value / 256)

-- n zero bytes from an address on
abbrev pub zero_cells : ℕ → ℕ → List Cell
zero_cells a zero = []
zero_cells a (suc n) = record { at = a; value = 0 } ∷ zero_cells (a + 1) n

-- the value of the n bytes from an address on, the lowest first
abbrev pub word_of : (ℕ → ℕ) → ℕ → ℕ → ℕ
word_of byte a zero = 0
word_of byte a (suc n) = byte a + 256 * word_of byte (a + 1) n
