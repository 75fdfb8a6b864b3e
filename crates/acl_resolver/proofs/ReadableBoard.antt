-- A board that keeps its rules is sound.
use Rattle.std.proofs.Common.{◌≡◌, ℕ, ◌+◌, ◌*◌, ◌%◌, ◌<◌, ◌≤◌, true, false, not, ◌&&◌, ◌||◌, ◌==◌, nat_eq, nat_le, nat_lt, min, max, List, [], ◌∷◌, map, Option, Some, None, IfSome, refl, sym, inl, inr, arith}
use Rattle.std.proofs.lemmas.Bool.{and_parts, cases_Bool, eqb-false, eqb-true, leb-true, ltb-false, ltb-true, ne_eqb, not-true, or_parts}
use Rattle.std.proofs.Math.Nat.{mul_comm}
use Rattle.std.specs.List.{AllByRecursion, list_all, list_any}
use Rattle.addr_base.specs.Powers.{is_power}
use Rattle.addr_base.specs.Range.{end_of, holds_bytes, in_range, overlap}
use Rattle.addr_base.specs.declared.ranges.Range.{Range}
use Rattle.addr_base.proofs.Rounding.{power_from_test}
use Rattle.flat_model.specs.declared.boards.Board.{Board}
use Rattle.flat_model.specs.declared.boards.HeapPart.{HeapPart}
use Rattle.flat_model.specs.declared.boards.Word.{Word}
use Rattle.flat_model.specs.BoardRules.{KeepsBoardRules, are_apart, ends_in_reach, is_bank, is_block, is_heap, is_placed, is_power_between, is_secret}
use Rattle.flat_model.specs.Sound.{AreApart, AreDistinct, IsBank, IsBoard, IsBoardWord, IsHeap, IsInside, IsPowerRange, IsTiledRange}

-- a block is a power range of at most so many bytes
block_range : (low high : ℕ) (range : Range) → 32 ≤ low → is_block low high range ≡ true → IsPowerRange range × (range.len ≤ high)
block_range low high range least block =
    let parts = and_parts (is_power_between low high range.len) (range.base % range.len == 0) block in
    let power = and_parts (nat_le low range.len && nat_le range.len high) (is_power range.len) parts.0 in
    let bounds = and_parts (nat_le low range.len) (nat_le range.len high) power.0 in
    let above : low ≤ range.len = leb-true _ _ bounds.0 in (
      record {
        power = power_from_test range.len power.1;
        enough = omega arith;
        aligned = eqb-true _ _ parts.1;
      },
      leb-true _ _ bounds.1,
    )

-- a bank is tiled, and within its limits
bank_range : (range : Range) → is_bank range ≡ true → IsTiledRange range × IsBank range
bank_range range bank =
    let parts = and_parts (((range.base % 32 == 0) && (range.len % 32 == 0)) && (nat_le 32 range.len && nat_le range.len 1048576)) (ends_in_reach range) bank in
    let tiles = and_parts ((range.base % 32 == 0) && (range.len % 32 == 0)) (nat_le 32 range.len && nat_le range.len 1048576) parts.0 in
    let multiples = and_parts (range.base % 32 == 0) (range.len % 32 == 0) tiles.0 in
    let bounds = and_parts (nat_le 32 range.len) (nat_le range.len 1048576) tiles.1 in (
      record { enough = leb-true _ _ bounds.0; base = eqb-true _ _ multiples.0; len = eqb-true _ _ multiples.1 },
      record { within = leb-true _ _ bounds.1; ends = leb-true _ _ parts.1 },
    )

-- ranges that don't overlap share no address
ranges_apart : (first second : Range) → not (overlap first second) ≡ true → AreApart first second
ranges_apart first second apart a here =
    let past : min (end_of first) (end_of second) ≤ max first.base second.base = ltb-false _ _ (not-true (overlap first second) apart) in
    let mine = and_parts (nat_le first.base a) (nat_lt a (end_of first)) here in
    let low : first.base ≤ a = leb-true _ _ mine.0 in
    let high : a < end_of first = ltb-true _ _ mine.1 in
    elim (cases_Bool (in_range second a)) [
      | inr out ↦ out
      | inl within ↦
          let other = and_parts (nat_le second.base a) (nat_lt a (end_of second)) within in
          let other_low : second.base ≤ a = leb-true _ _ other.0 in
          let other_high : a < end_of second = ltb-true _ _ other.1 in
          absurd (omega arith)
    ]

-- a secret range that is there is a power range inside flash
sound_secret : (flash : Range) (secret : Option Range) → is_secret flash secret ≡ true → IfSome secret (λ range. IsPowerRange range × IsInside range flash)
sound_secret flash None kept = tt
sound_secret flash (Some range) kept =
    let parts = and_parts (is_block 32 4294967295 range) (holds_bytes flash range.base range.len) kept in
    let ends = and_parts (nat_le flash.base range.base) (nat_le (range.base + range.len) (end_of flash)) parts.1 in
    ((block_range 32 4294967295 range (omega arith) parts.0).0, (leb-true _ _ ends.0, leb-true _ _ ends.1))

-- each word has its place
sound_words : (board : Board) (words : List Word) → list_all (is_placed board.flash board.peripherals) words ≡ true → AllByRecursion (IsBoardWord board) words
sound_words board [] placed = tt
sound_words board (w ∷ words) placed =
    let parts = and_parts (is_placed board.flash board.peripherals w) (list_all (is_placed board.flash board.peripherals) words) placed in
    let here = and_parts (w.at % 4 == 0) (holds_bytes board.flash w.at 4 || holds_bytes board.peripherals w.at 4) parts.0 in
    (record { aligned = eqb-true _ _ here.0; placed = here.1 }, sound_words board words parts.1)

turned : (a b : ℕ) → nat_eq a b ≡ false → nat_eq b a ≡ false
turned a b other = ne_eqb b a (λ same. eqb-false a b other (sym same))

elsewhere : (w : Word) (words : List Word) → list_any (λ other. other.at == w.at) words ≡ false → list_any (λ at. nat_eq w.at at) (map (λ other. other.at) words) ≡ false
elsewhere w [] none = refl
elsewhere w (x ∷ words) none =
    let parts = or_parts (nat_eq x.at w.at) (list_any (λ (other : Word). other.at == w.at) words) none in
    rw (turned x.at w.at parts.0) (elsewhere w words parts.1)

-- no address comes twice
words_once : (words : List Word) → are_apart words ≡ true → AreDistinct (map (λ w. w.at) words)
words_once [] apart = tt
words_once (w ∷ words) apart =
    let parts = and_parts (not (list_any (λ (other : Word). other.at == w.at) words)) (are_apart words) apart in
    (elsewhere w words (not-true _ parts.0), words_once words parts.1)

-- a heap that is there lies in SRAM
sound_heap : (sram : Range) (heap : Option HeapPart) → is_heap sram heap ≡ true → IfSome heap (IsHeap sram)
sound_heap sram None kept = tt
sound_heap sram (Some heap) kept =
    let size = is_power_between 32 65536 heap.page && ((nat_le 8 heap.count && nat_le heap.count 256) && (heap.count % 8 == 0)) in
    let place = (heap.base % (8 * heap.page) == 0) && holds_bytes sram heap.base (heap.page * heap.count) in
    let parts = and_parts size place kept in
    let sizes = and_parts (is_power_between 32 65536 heap.page) ((nat_le 8 heap.count && nat_le heap.count 256) && (heap.count % 8 == 0)) parts.0 in
    let power = and_parts (nat_le 32 heap.page && nat_le heap.page 65536) (is_power heap.page) sizes.0 in
    let pages = and_parts (nat_le 32 heap.page) (nat_le heap.page 65536) power.0 in
    let counts = and_parts (nat_le 8 heap.count && nat_le heap.count 256) (heap.count % 8 == 0) sizes.1 in
    let bounds = and_parts (nat_le 8 heap.count) (nat_le heap.count 256) counts.0 in
    let places = and_parts (heap.base % (8 * heap.page) == 0) (holds_bytes sram heap.base (heap.page * heap.count)) parts.1 in
    let ends = and_parts (nat_le sram.base heap.base) (nat_le (heap.base + heap.page * heap.count) (end_of sram)) places.1 in
    record {
      power = power_from_test heap.page power.1;
      least_page = leb-true _ _ pages.0;
      greatest_page = leb-true _ _ pages.1;
      eights = eqb-true _ _ counts.1;
      least_count = leb-true _ _ bounds.0;
      greatest_count = leb-true _ _ bounds.1;
      aligned = eqb-true _ _ places.0;
      low = leb-true _ _ ends.0;
      high = rw (mul_comm heap.count heap.page) (leb-true _ _ ends.1);
    }

-- a board that keeps its rules is sound
pub sound_board : (board : Board) → KeepsBoardRules board → IsBoard board
sound_board board rules =
    let flash = and_parts (is_block 32 1048576 board.flash) (ends_in_reach board.flash) rules.flash in
    let block = block_range 32 1048576 board.flash (omega arith) flash.0 in
    let sram = and_parts (is_bank board.sram) (not (overlap board.sram board.flash)) rules.sram in
    let peripherals = and_parts (is_bank board.peripherals) (not (overlap board.peripherals board.flash) && not (overlap board.peripherals board.sram)) rules.peripherals in
    let beside = and_parts (not (overlap board.peripherals board.flash)) (not (overlap board.peripherals board.sram)) peripherals.1 in
    let words = and_parts (list_all (is_placed board.flash board.peripherals) board.words) (are_apart board.words) rules.words in
    let sram_bank = bank_range board.sram sram.0 in
    let peripherals_bank = bank_range board.peripherals peripherals.0 in
    record {
      flash = block.0;
      flash_bank = record { within = block.1; ends = leb-true _ _ flash.1 };
      sram = sram_bank.0;
      sram_bank = sram_bank.1;
      sram_apart = ranges_apart board.sram board.flash sram.1;
      peripherals = peripherals_bank.0;
      peripherals_bank = peripherals_bank.1;
      peripherals_apart = ranges_apart board.peripherals board.flash beside.0;
      peripherals_beside = ranges_apart board.peripherals board.sram beside.1;
      secret = sound_secret board.flash board.secret rules.secret;
      words = sound_words board board.words words.0;
      words_once = words_once board.words words.1;
      heap = sound_heap board.sram board.heap rules.heap;
    }
