-- What a contract sees of the banks: the board that they are of, and what they hold.
use Rattle.std.specs.Prelude.{ℕ, zero, suc, ◌+◌, Bool, true, ◌&&◌, ◌||◌}
use Rattle.addr_base.specs.declared.ranges.Range.{Range}
use Rattle.addr_base.specs.Range.{holds_bytes, in_range}
use Rattle.flat_model.specs.declared.boards.Board.{Board}
use Rattle.flat_model.specs.declared.states.Memory.{Memory}
use Rattle.flat_model.specs.Cells.{zero_cells}
use Rattle.flat_model.specs.Memory.{opening_memory, put_cells, put_word}

-- the board of the banks, and their bytes
pub record BanksView : Type 0 where
  pub board : Board
  pub memory : Memory

-- the banks of a board at the start: zero but for the board's words
abbrev pub opening_banks : Board → BanksView
opening_banks board = record { board = board; memory = opening_memory board }

-- whether the address is in one of the board's banks
abbrev pub is_in_bank : Board → ℕ → Bool
is_in_bank board a = in_range board.flash a || in_range board.sram a || in_range board.peripherals a

-- whether each of the n addresses from a is in one of the board's banks
abbrev pub are_in_banks : Board → ℕ → ℕ → Bool
are_in_banks board a zero = true
are_in_banks board a (suc n) = is_in_bank board a && are_in_banks board (a + 1) n

-- the banks with the n low bytes of a value written at an address, the lowest first
abbrev pub with_word : BanksView → ℕ → ℕ → ℕ → BanksView
with_word banks a n value = record banks { memory = put_word banks.board banks.memory a n value }

-- the banks with a range of zero bytes
abbrev pub with_zeros : BanksView → Range → BanksView
with_zeros banks range = record banks { memory = put_cells banks.board banks.memory (zero_cells range.base range.len) }

-- whether the range lies in one of the board's banks
abbrev pub lies_in_one_bank : Board → Range → Bool
lies_in_one_bank board range =
    holds_bytes board.flash range.base range.len || holds_bytes board.sram range.base range.len
    || holds_bytes board.peripherals range.base range.len
