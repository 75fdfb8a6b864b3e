-- The words of a command line that name a made input.
use Rattle.std.specs.Prelude.{ℕ, Bool, false, ◌&&◌, ◌==◌, not, nat_le, List, [], ◌∷◌, Option, Some, None, if◌then◌else◌}
use Rattle.std.specs.Char.{is_digit}
use Rattle.std.specs.List.{list_all}
use Rattle.std.specs.Str.Parse.{digits_value}

-- the greatest number of a made input
abbrev pub MOST : ℕ
MOST = 65535

-- whether the word has decimal digits alone, at least one, and no zero first: so it has no sign, and does not write 0
abbrev pub is_plain_number : List ℕ → Bool
is_plain_number [] = false
is_plain_number (first ∷ rest) = not (first == 48) && list_all (λ c. is_digit c 10) (first ∷ rest)

-- the number from 1 to 65535 that a word writes in decimal, with no sign and no leading zero
unfoldable pub input_number : List ℕ → Option ℕ
input_number word =
    if is_plain_number word && nat_le (digits_value 10 word) MOST then Some (digits_value 10 word) else None
