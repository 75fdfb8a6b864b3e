-- Memory as one map from addresses to bytes, kept in three banks.
use Rattle.std.specs.Prelude.{ℕ, ◌-◌, List, [], ◌∷◌, replicate, if◌then◌else◌, slice_index, slice_set}
use Rattle.addr_base.specs.Range.{in_range}
use Rattle.flat_model.specs.declared.boards.Board.{Board}
use Rattle.flat_model.specs.declared.boards.Word.{Word}
use Rattle.flat_model.specs.declared.states.Memory.{Memory}
use Rattle.flat_model.specs.Cells.{Cell, cells_of, word_of}

-- the byte at an address, or 0 outside the banks
unfoldable pub byte_at : Board → Memory → ℕ → ℕ
byte_at board memory a =
    if in_range board.flash a then slice_index memory.flash (a - board.flash.base)
    else (if in_range board.sram a then slice_index memory.sram (a - board.sram.base)
    else (if in_range board.peripherals a then slice_index memory.peripherals (a - board.peripherals.base)
    else 0))

-- memory with one byte written; outside the banks nothing changes
unfoldable pub put_byte : Board → Memory → Cell → Memory
put_byte board memory cell =
    if in_range board.flash cell.at
    then record memory { flash = slice_set memory.flash (cell.at - board.flash.base) cell.value }
    else (if in_range board.sram cell.at
    then record memory { sram = slice_set memory.sram (cell.at - board.sram.base) cell.value }
    else (if in_range board.peripherals cell.at
    then record memory { peripherals = slice_set memory.peripherals (cell.at - board.peripherals.base) cell.value }
    else memory))

-- memory with bytes written in order
abbrev pub put_cells : Board → Memory → List Cell → Memory
put_cells board memory [] = memory
put_cells board memory (cell ∷ cells) = put_cells board (put_byte board memory cell) cells

-- the word of n bytes at an address
abbrev pub word_at : Board → Memory → ℕ → ℕ → ℕ
word_at board memory a n = word_of (byte_at board memory) a n

-- memory with the n low bytes of a value written at an address
abbrev pub put_word : Board → Memory → ℕ → ℕ → ℕ → Memory
put_word board memory a n value = put_cells board memory (cells_of a n value)

-- memory of zero bytes
abbrev pub blank_memory : Board → Memory
blank_memory board = record {
  flash = replicate board.flash.len 0;
  sram = replicate board.sram.len 0;
  peripherals = replicate board.peripherals.len 0;
}

-- memory with the board's words written in order
abbrev pub with_words : Board → Memory → List Word → Memory
with_words board memory [] = memory
with_words board memory (word ∷ words) = with_words board (put_word board memory word.at 4 word.value) words

-- memory as it is at the start
abbrev pub opening_memory : Board → Memory
opening_memory board = with_words board (blank_memory board) board.words
