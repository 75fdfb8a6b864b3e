-- Inner: no public contract cites this. The banks byte by byte, and at the start.
use Rattle.std.specs.Prelude.{◌≡◌, ℕ, List, length}
use Rattle.flat_model.specs.declared.boards.Board.{Board}
use Rattle.flat_model.specs.declared.boards.Word.{Word}
use Rattle.flat_model.specs.Cells.{zero_cells}
use Rattle.flat_model.specs.Memory.{put_byte, put_cells, with_words}
use Rattle.phys_memory.specs.Banks.{BanksView}

-- each bank has as many bytes as the board says
pub record IsWhole (board : Board) (flash sram peripherals : List ℕ) : Type 0 where
  pub flash_whole : length flash ≡ board.flash.len
  pub sram_whole : length sram ≡ board.sram.len
  pub peripherals_whole : length peripherals ≡ board.peripherals.len

-- the banks with some words written in order
abbrev pub with_board_words : BanksView → List Word → BanksView
with_board_words banks words = record banks { memory = with_words banks.board banks.memory words }

-- the banks with one byte written
abbrev pub with_byte : BanksView → ℕ → ℕ → BanksView
with_byte banks a value = record banks { memory = put_byte banks.board banks.memory (record { at = a; value = value }) }

-- the banks with n zero bytes from an address on
abbrev pub with_zeros_from : BanksView → ℕ → ℕ → BanksView
with_zeros_from banks a n = record banks { memory = put_cells banks.board banks.memory (zero_cells a n) }
