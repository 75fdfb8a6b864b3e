-- The numbers of a program text.
use Rattle.std.specs.Prelude.{ℕ, Bool, ◌==◌, ◌&&◌, ◌||◌, not, nat_le, nat_eq, List, length, drop, slice_index, Option, Some, None, if◌then◌else◌, codes}
use Rattle.std.specs.Char.{is_digit}
use Rattle.std.specs.List.{list_all, starts_with}
use Rattle.std.specs.Str.Parse.{digits_value}

-- the number that the digits write, where each byte is a digit in the radix
unfoldable pub value_of : ℕ → List ℕ → Option ℕ
value_of radix digits = if list_all (λ c. is_digit c radix) digits then Some (digits_value radix digits) else None

-- whether there are digits, and no zero leads others
unfoldable pub leads_well : List ℕ → Bool
leads_well digits = nat_le 1 (length digits) && (length digits == 1 || not (slice_index digits 0 == 48))

-- the number that decimal digits without leading zeros write
unfoldable pub decimal_value : List ℕ → Option ℕ
decimal_value digits = if leads_well digits then value_of 10 digits else None

-- the number that one to eight hexadecimal digits of either case write
unfoldable pub hexadecimal_value : List ℕ → Option ℕ
hexadecimal_value digits = if nat_le 1 (length digits) && nat_le (length digits) 8 then value_of 16 digits else None

-- the number that a word writes: hexadecimal after `0x`, and else decimal
unfoldable pub number : List ℕ → Option ℕ
number word = if starts_with nat_eq word (codes "0x") then hexadecimal_value (drop 2 word) else decimal_value word
