-- The names of boxes.
use Rattle.std.specs.Prelude.{◌≡◌, ℕ, Bool, false, ◌&&◌, ◌||◌, nat_eq, nat_le, List, [], ◌∷◌, length}
use Rattle.std.specs.List.{list_all, list_any}
use Rattle.std.specs.Str.{bytes_eq}

-- whether the byte is a lower-case letter
abbrev pub is_lower : ℕ → Bool
is_lower byte = nat_le 97 byte && nat_le byte 122

-- whether the byte may follow in a name: a lower-case letter, a digit or `_`
abbrev pub is_name_byte : ℕ → Bool
is_name_byte byte = is_lower byte || ((nat_le 48 byte && nat_le byte 57) || nat_eq byte 95)

-- whether the bytes are a name: a lower-case letter followed by at most 15 that may follow
abbrev pub is_name : List ℕ → Bool
is_name [] = false
is_name (byte ∷ bytes) = is_lower byte && nat_le (length bytes) 15 && list_all is_name_byte bytes

-- no two of the names are the same
abbrev pub AreDistinctNames : List (List ℕ) → Type 0
AreDistinctNames [] = Unit {0}
AreDistinctNames (name ∷ names) = (list_any (bytes_eq name) names ≡ false) × AreDistinctNames names
