-- Inner: no public contract cites this. Words that lie in one bank.
use Rattle.std.specs.Prelude.{ℕ, zero, suc, ◌+◌, ◌/◌, ◌%◌, Bool, ◌&&◌, ◌||◌, List, nat_le, slice_set}
use Rattle.addr_base.specs.declared.ranges.Range.{Range}
use Rattle.addr_base.specs.Range.{end_of, holds_bytes}
use Rattle.flat_model.specs.declared.boards.Board.{Board}

-- whether none of the n bytes from an address is in the range
abbrev pub is_apart : Range → ℕ → ℕ → Bool
is_apart range a n = nat_le (a + n) range.base || nat_le (end_of range) a

-- whether flash holds each of the n bytes from an address
abbrev pub in_flash : Board → ℕ → ℕ → Bool
in_flash board a n = holds_bytes board.flash a n

-- whether SRAM does, and flash holds none
abbrev pub in_sram : Board → ℕ → ℕ → Bool
in_sram board a n = is_apart board.flash a n && holds_bytes board.sram a n

-- whether the peripherals do, and no other bank holds one
abbrev pub in_peripherals : Board → ℕ → ℕ → Bool
in_peripherals board a n = is_apart board.flash a n && is_apart board.sram a n && holds_bytes board.peripherals a n

-- a bank with the n low bytes of a value written at a place, the lowest first
abbrev pub with_bytes : List ℕ → ℕ → ℕ → ℕ → List ℕ
with_bytes bytes at zero value = bytes
with_bytes bytes at (suc n) value = with_bytes (slice_set bytes at (value % 256)) (at + 1) n (value / 256)
