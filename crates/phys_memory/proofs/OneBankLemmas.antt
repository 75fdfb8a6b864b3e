-- A word that lies in one bank is a word of that bank.
use Rattle.std.proofs.Common.{◌≡◌, ℕ, zero, suc, ◌+◌, ◌-◌, ◌*◌, ◌/◌, ◌%◌, ◌<◌, true, false, List, ◌∷◌, refl, sym, ap, ◌∙◌, arith}
use Rattle.std.specs.List.{slice_index, slice_set}
use Rattle.std.proofs.lemmas.Bool.Decides.{nat_tests}
use Rattle.addr_base.specs.Range.{holds_bytes, in_range}
use Rattle.addr_base.specs.declared.ranges.Range.{Range}
use Rattle.flat_model.specs.declared.boards.Board.{Board}
use Rattle.flat_model.specs.declared.states.Memory.{Memory}
use Rattle.flat_model.specs.Cells.{Cell, cells_of, word_of, zero_cells}
use Rattle.flat_model.specs.Memory.{byte_at, put_byte, put_cells, put_word, word_at}
use Rattle.phys_memory.specs.OneBank.{in_flash, in_peripherals, in_sram, is_apart, with_bytes}

-- ---- ranges

inside : (range : Range) (a n k : ℕ) → holds_bytes range a n ≡ true → k < n → in_range range (a + k) ≡ true
inside range a n k holds below = grind (arith, nat_tests)

outside : (range : Range) (a n k : ℕ) → is_apart range a n ≡ true → k < n → in_range range (a + k) ≡ false
outside range a n k apart below = grind (arith, nat_tests)

offset : (range : Range) (a n k : ℕ) → holds_bytes range a n ≡ true → k < n → a + k - range.base ≡ a - range.base + k
offset range a n k holds below = grind (arith, nat_tests)

-- ---- reading

-- words of two maps that have the same bytes
pub words-same : (f g : ℕ → ℕ) (a b n : ℕ) → ((k : ℕ) → k < n → f (a + k) ≡ g (b + k)) → word_of f a n ≡ word_of g b n
words-same f g a b zero same = refl
words-same f g a b (suc n) same =
    let first : f a ≡ g b = same-first in
    let rest : word_of f (a + 1) n ≡ word_of g (b + 1) n = words-same f g (a + 1) (b + 1) n later in
    ap (λ x. x + 256 * word_of f (a + 1) n) first ∙ ap (λ x. g b + 256 * x) rest
  where
    same-first : f a ≡ g b
    same-first =
        let left : a + 0 ≡ a = omega arith in
        let right : b + 0 ≡ b = omega arith in
        ap f (sym left) ∙ same 0 (omega arith) ∙ ap g right

    later : (k : ℕ) → k < n → f (a + 1 + k) ≡ g (b + 1 + k)
    later k below =
        let left : a + 1 + k ≡ a + (k + 1) = omega arith in
        let right : b + (k + 1) ≡ b + 1 + k = omega arith in
        ap f left ∙ same (k + 1) (omega (arith, below)) ∙ ap g right

byte-flash : (board : Board) (memory : Memory) (a : ℕ) → in_range board.flash a ≡ true →
    byte_at board memory a ≡ slice_index memory.flash (a - board.flash.base)
unfolding byte_at
byte-flash board memory a flash = rw flash refl

byte-sram : (board : Board) (memory : Memory) (a : ℕ) → in_range board.flash a ≡ false → in_range board.sram a ≡ true →
    byte_at board memory a ≡ slice_index memory.sram (a - board.sram.base)
unfolding byte_at
byte-sram board memory a flash sram = rw (flash, sram) refl

byte-peripherals : (board : Board) (memory : Memory) (a : ℕ) → in_range board.flash a ≡ false → in_range board.sram a ≡ false →
    in_range board.peripherals a ≡ true → byte_at board memory a ≡ slice_index memory.peripherals (a - board.peripherals.base)
unfolding byte_at
byte-peripherals board memory a flash sram peripherals = rw (flash, sram, peripherals) refl

pub word_flash : (board : Board) (memory : Memory) (a n : ℕ) → in_flash board a n ≡ true →
    word_at board memory a n ≡ word_of (slice_index memory.flash) (a - board.flash.base) n
word_flash board memory a n is =
    words-same (byte_at board memory) (slice_index memory.flash) a (a - board.flash.base) n
    (λ k below. byte-flash board memory (a + k) (inside board.flash a n k is below)
    ∙ ap (slice_index memory.flash) (offset board.flash a n k is below))

module _ (board : Board) (memory : Memory) (a n : ℕ) (is : in_sram board a n ≡ true) where
  apart-sram : is_apart board.flash a n ≡ true
  apart-sram = grind (arith, nat_tests)

  holds-sram : holds_bytes board.sram a n ≡ true
  holds-sram = grind (arith, nat_tests)

  pub word_sram : word_at board memory a n ≡ word_of (slice_index memory.sram) (a - board.sram.base) n
  word_sram =
      words-same (byte_at board memory) (slice_index memory.sram) a (a - board.sram.base) n
      (λ k below. byte-sram board memory (a + k) (outside board.flash a n k apart-sram below) (inside board.sram a n k holds-sram below)
      ∙ ap (slice_index memory.sram) (offset board.sram a n k holds-sram below))

module _ (board : Board) (memory : Memory) (a n : ℕ) (is : in_peripherals board a n ≡ true) where
  apart-flash : is_apart board.flash a n ≡ true
  apart-flash = grind (arith, nat_tests)

  apart-ram : is_apart board.sram a n ≡ true
  apart-ram = grind (arith, nat_tests)

  holds-peripherals : holds_bytes board.peripherals a n ≡ true
  holds-peripherals = grind (arith, nat_tests)

  pub word_peripherals : word_at board memory a n ≡ word_of (slice_index memory.peripherals) (a - board.peripherals.base) n
  word_peripherals =
      words-same (byte_at board memory) (slice_index memory.peripherals) a (a - board.peripherals.base) n
      (λ k below. byte-peripherals board memory (a + k) (outside board.flash a n k apart-flash below)
      (outside board.sram a n k apart-ram below) (inside board.peripherals a n k holds-peripherals below)
      ∙ ap (slice_index memory.peripherals) (offset board.peripherals a n k holds-peripherals below))

-- ---- writing

-- bytes that all lie in one bank are written into it
cells-into : (board : Board) (into : List ℕ → Memory) (base a n value : ℕ) (bytes : List ℕ) →
    ((k v : ℕ) (bytes : List ℕ) → k < n → put_byte board (into bytes) (record { at = a + k; value = v }) ≡ into (slice_set bytes (a - base + k) v)) →
    put_cells board (into bytes) (cells_of a n value) ≡ into (with_bytes bytes (a - base) n value)
cells-into board into base a n value bytes puts = from a (a - base) n value bytes puts
  where
    from : (a at n value : ℕ) (bytes : List ℕ) →
        ((k v : ℕ) (bytes : List ℕ) → k < n → put_byte board (into bytes) (record { at = a + k; value = v }) ≡ into (slice_set bytes (at + k) v)) →
        put_cells board (into bytes) (cells_of a n value) ≡ into (with_bytes bytes at n value)
    from a at zero value bytes puts = refl
    from a at (suc n) value bytes puts =
        ap (λ m. put_cells board m (cells_of (a + 1) n (value / 256))) first
        ∙ from (a + 1) (at + 1) n (value / 256) (slice_set bytes at (value % 256)) later
      where
        first : put_byte board (into bytes) (record { at = a; value = value % 256 }) ≡ into (slice_set bytes at (value % 256))
        first =
            let left : a + 0 ≡ a = omega arith in
            let right : at + 0 ≡ at = omega arith in
            ap (λ x. put_byte board (into bytes) (record { at = x; value = value % 256 })) (sym left)
            ∙ puts 0 (value % 256) bytes (omega arith)
            ∙ ap (λ x. into (slice_set bytes x (value % 256))) right

        later : (k v : ℕ) (bytes : List ℕ) → k < n →
            put_byte board (into bytes) (record { at = a + 1 + k; value = v }) ≡ into (slice_set bytes (at + 1 + k) v)
        later k v bytes below =
            let left : a + 1 + k ≡ a + (k + 1) = omega arith in
            let right : at + (k + 1) ≡ at + 1 + k = omega arith in
            ap (λ x. put_byte board (into bytes) (record { at = x; value = v })) left
            ∙ puts (k + 1) v bytes (omega (arith, below))
            ∙ ap (λ x. into (slice_set bytes x v)) right

put-flash : (board : Board) (memory : Memory) (c : Cell) → in_range board.flash c.at ≡ true →
    put_byte board memory c ≡ record memory { flash = slice_set memory.flash (c.at - board.flash.base) c.value }
unfolding put_byte
put-flash board memory c flash = rw flash refl

put-sram : (board : Board) (memory : Memory) (c : Cell) → in_range board.flash c.at ≡ false → in_range board.sram c.at ≡ true →
    put_byte board memory c ≡ record memory { sram = slice_set memory.sram (c.at - board.sram.base) c.value }
unfolding put_byte
put-sram board memory c flash sram = rw (flash, sram) refl

put-peripherals : (board : Board) (memory : Memory) (c : Cell) → in_range board.flash c.at ≡ false → in_range board.sram c.at ≡ false →
    in_range board.peripherals c.at ≡ true →
    put_byte board memory c ≡ record memory { peripherals = slice_set memory.peripherals (c.at - board.peripherals.base) c.value }
unfolding put_byte
put-peripherals board memory c flash sram peripherals = rw (flash, sram, peripherals) refl

pub put_flash : (board : Board) (memory : Memory) (a n value : ℕ) → in_flash board a n ≡ true →
    put_word board memory a n value ≡ record memory { flash = with_bytes memory.flash (a - board.flash.base) n value }
put_flash board memory a n value is =
    cells-into board (λ bytes. record memory { flash = bytes }) board.flash.base a n value memory.flash
    (λ k v bytes below. put-flash board (record memory { flash = bytes }) (record { at = a + k; value = v }) (inside board.flash a n k is below)
    ∙ ap (λ x. record memory { flash = slice_set bytes x v }) (offset board.flash a n k is below))

pub put_sram : (board : Board) (memory : Memory) (a n value : ℕ) → in_sram board a n ≡ true →
    put_word board memory a n value ≡ record memory { sram = with_bytes memory.sram (a - board.sram.base) n value }
put_sram board memory a n value is =
    cells-into board (λ bytes. record memory { sram = bytes }) board.sram.base a n value memory.sram
    (λ k v bytes below. put-sram board (record memory { sram = bytes }) (record { at = a + k; value = v })
    (outside board.flash a n k (apart-sram board memory a n is) below) (inside board.sram a n k (holds-sram board memory a n is) below)
    ∙ ap (λ x. record memory { sram = slice_set bytes x v }) (offset board.sram a n k (holds-sram board memory a n is) below))

pub put_peripherals : (board : Board) (memory : Memory) (a n value : ℕ) → in_peripherals board a n ≡ true →
    put_word board memory a n value ≡ record memory { peripherals = with_bytes memory.peripherals (a - board.peripherals.base) n value }
put_peripherals board memory a n value is =
    cells-into board (λ bytes. record memory { peripherals = bytes }) board.peripherals.base a n value memory.peripherals
    (λ k v bytes below. put-peripherals board (record memory { peripherals = bytes }) (record { at = a + k; value = v })
    (outside board.flash a n k (apart-flash board memory a n is) below) (outside board.sram a n k (apart-ram board memory a n is) below)
    (inside board.peripherals a n k (holds-peripherals board memory a n is) below)
    ∙ ap (λ x. record memory { peripherals = slice_set bytes x v }) (offset board.peripherals a n k (holds-peripherals board memory a n is) below))

-- ---- zero bytes

-- zero bytes are the bytes of zero
pub zero_cells-are : (a n : ℕ) → zero_cells a n ≡ cells_of a n 0
zero_cells-are a zero = refl
zero_cells-are a (suc n) = let first : Cell = record { at = a; value = 0 } in ap (λ cells. first ∷ cells) (zero_cells-are (a + 1) n)

pub zero_flash : (board : Board) (memory : Memory) (a n : ℕ) → in_flash board a n ≡ true →
    put_cells board memory (zero_cells a n) ≡ record memory { flash = with_bytes memory.flash (a - board.flash.base) n 0 }
zero_flash board memory a n is = ap (put_cells board memory) (zero_cells-are a n) ∙ put_flash board memory a n 0 is

pub zero_sram : (board : Board) (memory : Memory) (a n : ℕ) → in_sram board a n ≡ true →
    put_cells board memory (zero_cells a n) ≡ record memory { sram = with_bytes memory.sram (a - board.sram.base) n 0 }
zero_sram board memory a n is = ap (put_cells board memory) (zero_cells-are a n) ∙ put_sram board memory a n 0 is

pub zero_peripherals : (board : Board) (memory : Memory) (a n : ℕ) → in_peripherals board a n ≡ true →
    put_cells board memory (zero_cells a n) ≡ record memory { peripherals = with_bytes memory.peripherals (a - board.peripherals.base) n 0 }
zero_peripherals board memory a n is = ap (put_cells board memory) (zero_cells-are a n) ∙ put_peripherals board memory a n 0 is
