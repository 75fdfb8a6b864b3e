-- Bytes written one list after another.
use Rattle.std.proofs.Common.{◌≡◌, ℕ, suc, ◌+◌, ◌-◌, ◌/◌, ◌%◌, ◌^◌, ◌≤◌, List, [], ◌∷◌, ◌++◌, refl, sym, ap, ◌∙◌, arith, drop, get_or, length, take}
use Rattle.std.proofs.Math.Seq.{take-length}
use Rattle.flat_model.specs.declared.boards.Board.{Board}
use Rattle.flat_model.specs.declared.states.Memory.{Memory}
use Rattle.flat_model.specs.Cells.{Cell, cells_of, zero_cells}
use Rattle.flat_model.specs.Memory.{put_byte, put_cells}
use Rattle.flat_model.specs.PageRows.{with_blank_pages}
use Rattle.flat_model.specs.Pages.{blank_cells, page_address, page_size}

-- two lists of bytes are written one after the other
pub put_cells_after : (board : Board) (memory : Memory) (first second : List Cell) →
    put_cells board memory (first ++ second) ≡ put_cells board (put_cells board memory first) second
put_cells_after board memory [] second = refl
put_cells_after board memory (cell ∷ first) second = put_cells_after board (put_byte board memory cell) first second

low-0 : (v : ℕ) → v % 2 ^ 32 % 256 ≡ v % 256
low-0 v = omega arith

low-1 : (v : ℕ) → v % 2 ^ 32 / 256 % 256 ≡ v / 256 % 256
low-1 v = omega arith

low-2 : (v : ℕ) → v % 2 ^ 32 / 256 / 256 % 256 ≡ v / 256 / 256 % 256
low-2 v = omega arith

low-3 : (v : ℕ) → v % 2 ^ 32 / 256 / 256 / 256 % 256 ≡ v / 256 / 256 / 256 % 256
low-3 v = omega arith

-- a word of four bytes keeps the low 32 bits of a value
pub low_word : (a v : ℕ) → cells_of a 4 (v % 2 ^ 32) ≡ cells_of a 4 v
low_word a v = rw (low-0 v, low-1 v, low-2 v, low-3 v) refl

-- the first of some zero bytes
pub zero_first : (a b m n : ℕ) → m ≡ suc n → b ≡ a + 1 → zero_cells a m ≡ record { at = a; value = 0 } ∷ zero_cells b n
zero_first a b m n more next = rw (more, next) refl

-- some frames: the first, and the others
pub first_frame : (frames : List ℕ) → 1 ≤ length frames → frames ≡ get_or frames 0 0 ∷ take (length frames - 1) (drop 1 frames)
first_frame [] some = absurd (let e : 1 ≤ 0 = some in omega arith)
first_frame (x ∷ xs) some =
    let all : length (x ∷ xs) - 1 ≡ length xs = omega arith in
    sym (ap (λ n. x ∷ take n xs) all ∙ ap (λ ys. x ∷ ys) (take-length xs))

-- the first page is zeroed, and then the others
pub blank_first : (board : Board) (before between after : Memory) (frame : ℕ) (rest frames : List ℕ) → frames ≡ frame ∷ rest →
    between ≡ put_cells board before (zero_cells (page_address board.heap frame) (page_size board.heap)) →
    after ≡ with_blank_pages board rest between → after ≡ with_blank_pages board frames before
blank_first board before between after frame rest frames are first others =
    others
    ∙ ap (λ (memory : Memory). with_blank_pages board rest memory) first
    ∙ sym (put_cells_after board before (zero_cells (page_address board.heap frame) (page_size board.heap)) (blank_cells board.heap rest))
    ∙ sym (ap (λ xs. with_blank_pages board xs before) are)
