-- Inner: no public contract cites this. The first line of some bytes.
use Rattle.std.specs.Prelude.{◌≡◌, ◌≢◌, ℕ, ◌<◌, List, ◌∷◌, ◌++◌, length, slice_index}

-- no byte is a line feed
pub record HasNoLine (bytes : List ℕ) : Type 0 where
  pub none : (k : ℕ) → k < length bytes → slice_index bytes k ≢ 10

-- the bytes are a line without a line feed in it, a line feed, and the rest
pub record IsParted (bytes line rest : List ℕ) : Type 0 where
  pub whole : bytes ≡ line ++ 10 ∷ rest
  pub one : HasNoLine line
