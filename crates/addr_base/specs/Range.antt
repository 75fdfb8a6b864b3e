-- Which addresses a range has.
use Rattle.std.specs.Prelude.{ℕ, ◌+◌, ◌<◌, ◌≤◌, Bool, ◌&&◌, max, min, nat_le, nat_lt}
use Rattle.addr_base.specs.declared.ranges.Range.{Range}

-- the first address past a range
abbrev pub end_of : Range → ℕ
end_of range = range.base + range.len

-- the address is in the range
abbrev pub IsIn : Range → ℕ → Type 0
IsIn range a = (range.base ≤ a) × (a < end_of range)

-- every byte of the n from a is in the range
abbrev pub HoldsBytes : Range → ℕ → ℕ → Type 0
HoldsBytes range a n = (k : ℕ) → k < n → IsIn range (a + k)

-- some address is in both ranges
abbrev pub Overlaps : Range → Range → Type 0
Overlaps first second = (a : ℕ) × IsIn first a × IsIn second a

-- whether the address is in the range
abbrev pub in_range : Range → ℕ → Bool
in_range range a = nat_le range.base a && nat_lt a (end_of range)

-- whether the n bytes from a are in the range, where n is at least 1
abbrev pub holds_bytes : Range → ℕ → ℕ → Bool
holds_bytes range a n = nat_le range.base a && nat_le (a + n) (end_of range)

-- whether some address is in both ranges: the greater base is below the lesser end
abbrev pub overlap : Range → Range → Bool
overlap first second = nat_lt (max first.base second.base) (min (end_of first) (end_of second))

-- where addresses that a box may hold end: the Private Peripheral Bus begins there
abbrev pub ADDRESS_END : ℕ
ADDRESS_END = 3758096384
