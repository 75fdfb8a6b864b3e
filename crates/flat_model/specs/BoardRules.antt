-- The rules that a board keeps, key by key.
use Rattle.std.specs.Prelude.{◌≡◌, ℕ, ◌*◌, ◌%◌, Bool, true, not, ◌&&◌, ◌||◌, ◌==◌, nat_le, if◌then◌else◌, List, [], ◌∷◌, Option, Some, None}
use Rattle.std.specs.List.{list_all, list_any}
use Rattle.std.specs.Option.{option_or}
use Rattle.addr_base.specs.Powers.{is_power}
use Rattle.addr_base.specs.Range.{ADDRESS_END, end_of, holds_bytes, overlap}
use Rattle.addr_base.specs.declared.ranges.Range.{Range}
use Rattle.flat_model.specs.declared.boards.Board.{Board}
use Rattle.flat_model.specs.declared.boards.HeapPart.{HeapPart}
use Rattle.flat_model.specs.declared.boards.Word.{Word}
use Rattle.flat_model.specs.declared.refusals.Key.{Key}
use Rattle.flat_model.specs.declared.refusals.Key.TheVariants as key

-- the number is a power of two and from low to high
abbrev pub is_power_between : ℕ → ℕ → ℕ → Bool
is_power_between low high n = (nat_le low n && nat_le n high) && is_power n

-- the base is a multiple of the length, which is a power of two
abbrev pub is_block : ℕ → ℕ → Range → Bool
is_block low high range = is_power_between low high range.len && (range.base % range.len == 0)

-- the range ends where boxes may still hold addresses
abbrev pub ends_in_reach : Range → Bool
ends_in_reach range = nat_le (end_of range) ADDRESS_END

-- flash is a block of 32 bytes to 1 MiB
abbrev pub is_flash : Range → Bool
is_flash flash = is_block 32 1048576 flash && ends_in_reach flash

-- base and length are multiples of 32, and the length is from 32 to 1 MiB
abbrev pub is_bank : Range → Bool
is_bank bank = (((bank.base % 32 == 0) && (bank.len % 32 == 0)) && (nat_le 32 bank.len && nat_le bank.len 1048576)) && ends_in_reach bank

-- SRAM is a bank beside flash
abbrev pub is_sram : Range → Range → Bool
is_sram flash sram = is_bank sram && not (overlap sram flash)

-- the peripherals are a bank beside flash and SRAM
abbrev pub are_peripherals : Range → Range → Range → Bool
are_peripherals flash sram bank = is_bank bank && (not (overlap bank flash) && not (overlap bank sram))

-- the secret range is a block of at least 32 bytes inside flash
abbrev pub is_secret : Range → Option Range → Bool
is_secret flash None = true
is_secret flash (Some range) = is_block 32 4294967295 range && holds_bytes flash range.base range.len

-- the word has its four bytes in one of the two banks
abbrev pub is_placed : Range → Range → Word → Bool
is_placed flash bank word = (word.at % 4 == 0) && (holds_bytes flash word.at 4 || holds_bytes bank word.at 4)

-- no address comes twice
abbrev pub are_apart : List Word → Bool
are_apart [] = true
are_apart (word ∷ words) = not (list_any (λ other. other.at == word.at) words) && are_apart words

-- the words have their places in flash or in the peripherals, each a place of its own
abbrev pub are_words : Range → Range → List Word → Bool
are_words flash bank words = list_all (is_placed flash bank) words && are_apart words

-- the heap has 8 to 256 pages of 32 to 65536 bytes, in groups of eight from a multiple of a group on, inside SRAM
abbrev pub is_heap : Range → Option HeapPart → Bool
is_heap sram None = true
is_heap sram (Some heap) =
    (is_power_between 32 65536 heap.page && ((nat_le 8 heap.count && nat_le heap.count 256) && (heap.count % 8 == 0)))
    && ((heap.base % (8 * heap.page) == 0) && holds_bytes sram heap.base (heap.page * heap.count))

-- the key, unless its rule is kept
abbrev pub unless_kept : Bool → Key → Option Key
unless_kept kept k = if kept then None else Some k

-- the first key of the board whose rule is broken
unfoldable pub board_fault : Board → Option Key
board_fault board =
    option_or (unless_kept (is_flash board.flash) key.Flash)
    (option_or (unless_kept (is_sram board.flash board.sram) key.Sram)
    (option_or (unless_kept (are_peripherals board.flash board.sram board.peripherals) key.Peripherals)
    (option_or (unless_kept (is_secret board.flash board.secret) key.Secret)
    (option_or (unless_kept (are_words board.flash board.peripherals board.words) key.Words)
    (unless_kept (is_heap board.sram board.heap) key.Heap)))))

-- each rule of the board is kept
pub record KeepsBoardRules (board : Board) : Type 0 where
  pub flash : is_flash board.flash ≡ true
  pub sram : is_sram board.flash board.sram ≡ true
  pub peripherals : are_peripherals board.flash board.sram board.peripherals ≡ true
  pub secret : is_secret board.flash board.secret ≡ true
  pub words : are_words board.flash board.peripherals board.words ≡ true
  pub heap : is_heap board.sram board.heap ≡ true
