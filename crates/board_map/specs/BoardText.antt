-- The board that a document describes.
use Rattle.std.specs.Prelude.{List, [], ◌∷◌, Option, Some, None, option_map, Result, is_some, if◌then◌else◌}
use Rattle.addr_base.specs.declared.ranges.Range.{Range}
use Rattle.flat_model.specs.declared.boards.Board.{Board}
use Rattle.flat_model.specs.declared.boards.HeapPart.{HeapPart}
use Rattle.flat_model.specs.declared.boards.Word.{Word}
use Rattle.flat_model.specs.declared.refusals.Key.{Key}
use Rattle.flat_model.specs.declared.refusals.Key.TheVariants as key
use Rattle.flat_model.specs.declared.refusals.Refused.{Refused}
use Rattle.flat_model.specs.declared.refusals.Refused.TheVariants as refused
use Rattle.flat_model.specs.BoardRules.{board_fault}
use Rattle.flat_model.specs.First.{unless_refused}
use Rattle.toml.specs.Data.{Items, no_items, item, Members, no_members, as_array}
use Rattle.board_map.specs.Tree.{integer_at, items_at, items_or_none, table_at, value_at, word_item}

-- the members of a table, or none
abbrev pub members_or_none : Option Members → Members
members_or_none None = no_members
members_or_none (Some ms) = ms

-- the range of two words: base and length
abbrev pub range_of : Items → Range
range_of ds = record { base = word_item 0 ds; len = word_item 1 ds }

-- the word of memory of two words: address and value
abbrev pub word_of : Items → Word
word_of ds = record { at = word_item 0 ds; value = word_item 1 ds }

-- the words of memory of an array of pairs
abbrev pub words_of : Items → List Word
words_of no_items = []
words_of (item d ds) = word_of (items_or_none (as_array d)) ∷ words_of ds

-- the heap of its table
abbrev pub heap_of : Members → HeapPart
heap_of ms = record {
  base = integer_at 0 4294967295 0 key.Base ms;
  page = integer_at 0 4294967295 0 key.Page ms;
  count = integer_at 0 4294967295 0 key.Count ms;
}

-- the secret range, where the key is there
abbrev pub secret_of : Members → Option Range
secret_of ms = if is_some (value_at key.Secret ms) then Some (range_of (items_at key.Secret ms)) else None

-- the board of its table
unfoldable pub board_of : Members → Board
board_of ms = record {
  flash = range_of (items_at key.Flash ms);
  sram = range_of (items_at key.Sram ms);
  peripherals = range_of (items_at key.Peripherals ms);
  secret = secret_of ms;
  words = words_of (items_at key.Words ms);
  heap = option_map heap_of (table_at key.Heap ms);
}

-- the refusal of the key at fault
abbrev pub fault_refusal : Option Key → Option Refused
fault_refusal None = None
fault_refusal (Some k) = Some (refused.BadBoard k)

-- the board of a document, or the first of its rules that is broken
unfoldable pub board_reading : Members → Result Board Refused
board_reading doc =
    let board = board_of (members_or_none (table_at key.Board doc)) in
    unless_refused (fault_refusal (board_fault board)) board
