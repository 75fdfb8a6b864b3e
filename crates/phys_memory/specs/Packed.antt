-- Inner: no public contract cites this. How the bytes of a bank are kept in words, and the words in pieces of eight.
use Rattle.std.specs.Prelude.{◌≡◌, ℕ, zero, suc, ◌+◌, ◌*◌, ◌/◌, ◌%◌, ◌≤◌, Bool, true, false, List, length, map, slice_index, slice_index_or, if◌then◌else◌}
use Rattle.std.specs.List.{range_with_len}

-- a value without its j lowest bytes
abbrev pub shifted : ℕ → ℕ → ℕ
shifted value zero = value
shifted value (suc j) = shifted (value / 256) j

-- a value with j zero bytes below it
abbrev pub raised : ℕ → ℕ → ℕ
raised value zero = value
raised value (suc j) = 256 * raised value j

-- the n lowest bytes of a value
abbrev pub low : ℕ → ℕ → ℕ
low value zero = 0
low value (suc n) = value % 256 + 256 * low (value / 256) n

-- byte j of a value, the lowest first
abbrev pub byte_of : ℕ → ℕ → ℕ
byte_of value j = shifted value j % 256

-- a word whose n lowest bytes are those of a value
abbrev pub blended : ℕ → ℕ → ℕ → ℕ
blended word zero value = word
blended word (suc n) value = value % 256 + 256 * blended (word / 256) n (value / 256)

-- a word whose n bytes from byte j on are the lowest of a value
abbrev pub mixed : ℕ → ℕ → ℕ → ℕ → ℕ
mixed word zero n value = blended word n value
mixed word (suc j) n value = word % 256 + 256 * mixed (word / 256) j n value

-- byte i of some words, of each word the lowest first
abbrev pub byte_in : List ℕ → ℕ → ℕ
byte_in words i = byte_of (slice_index words (i / 4)) (i % 4)

-- the first bytes of some words, so many
unfoldable pub bytes_of : ℕ → List ℕ → List ℕ
bytes_of len words = map (byte_in words) (range_with_len 0 len)

-- word k, which is 0 where its piece of eight words has a mark
abbrev pub word_in : List ℕ → List Bool → ℕ → ℕ
word_in words zeros k = if slice_index_or zeros (k / 8) true then 0 else slice_index words k

-- the words of as many pieces as there are marks
unfoldable pub words_of : List ℕ → List Bool → List ℕ
words_of words zeros = map (word_in words zeros) (range_with_len 0 (8 * length zeros))

-- there is room for the words of each piece, and those of a piece without a mark are there
pub record IsPacked (words : List ℕ) (zeros : List Bool) (capacity : ℕ) : Type 0 where
  pub room : 8 * length zeros ≤ capacity
  pub there : (piece : ℕ) → slice_index_or zeros piece true ≡ false → 8 * piece + 8 ≤ length words
