-- The bytes of pages: where they lie, and how they are zeroed one page after another.
use Rattle.std.proofs.Common.{◌≡◌, ℕ, ◌+◌, ◌*◌, ◌^◌, ◌<◌, ◌≤◌, true, ◌||◌, Some, List, [], ◌∷◌, ◌++◌, refl, ap, arith, inl, inr}
use Rattle.std.specs.List.{AllByRecursion}
use Rattle.std.proofs.lemmas.Bool.{or_cases, or_left, or_right}
use Rattle.std.proofs.lemmas.Bool.Decides.{nat_tests}
use Rattle.addr_base.specs.declared.ranges.Range.{Range}
use Rattle.addr_base.specs.Range.{holds_bytes}
use Rattle.flat_model.specs.declared.boards.Board.{Board}
use Rattle.flat_model.specs.declared.boards.HeapPart.{HeapPart}
use Rattle.flat_model.specs.declared.states.Memory.{Memory}
use Rattle.flat_model.specs.Cells.{Cell, zero_cells}
use Rattle.flat_model.specs.Memory.{put_byte, put_cells}
use Rattle.flat_model.specs.Pages.{blank_cells, page_address}
use Rattle.phys_memory.specs.Banks.{BanksView, lies_in_one_bank, with_zeros}
use Rattle.page_heap.specs.Heap.{heap_range, with_blank}
use Rattle.page_heap.specs.Kept.{IsPaged}

page_ends : (frame count page : ℕ) → frame < count → frame * page + page ≤ count * page
page_ends frame count page below = grind arith

-- a page of a heap is where the heap is
holds_page : (range : Range) (heap : HeapPart) (frame : ℕ) → frame < heap.count →
    holds_bytes range heap.base (heap.count * heap.page) ≡ true →
    holds_bytes range (heap.base + frame * heap.page) heap.page ≡ true
holds_page range heap frame below holds =
    grind (arith, nat_tests, page_ends frame heap.count heap.page below)

-- a page of a heap lies in the bank in which the heap lies
pub page_in_bank : (board : Board) (heap : HeapPart) (frame : ℕ) → frame < heap.count →
    lies_in_one_bank board (heap_range heap) ≡ true →
    lies_in_one_bank board (record { base = page_address (Some heap) frame; len = heap.page }) ≡ true
page_in_bank board heap frame below lies =
    let flash = holds_bytes board.flash heap.base (heap.count * heap.page) in
    let sram = holds_bytes board.sram heap.base (heap.count * heap.page) in
    let peripherals = holds_bytes board.peripherals heap.base (heap.count * heap.page) in
    let at = page_address (Some heap) frame in
    elim (or_cases (flash || sram) peripherals lies) [
      | inl first ↦ or_left (holds_bytes board.flash at heap.page || holds_bytes board.sram at heap.page) (holds_bytes board.peripherals at heap.page)
          (elim (or_cases flash sram first) [
            | inl in_flash ↦ or_left (holds_bytes board.flash at heap.page) (holds_bytes board.sram at heap.page) (holds_page board.flash heap frame below in_flash)
            | inr in_sram ↦ or_right (holds_bytes board.flash at heap.page) (holds_bytes board.sram at heap.page) (holds_page board.sram heap frame below in_sram)
          ])
      | inr last ↦ or_right (holds_bytes board.flash at heap.page || holds_bytes board.sram at heap.page) (holds_bytes board.peripherals at heap.page)
          (holds_page board.peripherals heap frame below last)
    ]

put_cells-append : (board : Board) (m : Memory) (first second : List Cell) →
    put_cells board m (first ++ second) ≡ put_cells board (put_cells board m first) second
put_cells-append board m [] second = refl
put_cells-append board m (cell ∷ first) second = put_cells-append board (put_byte board m cell) first second

-- the first of some pages is zeroed before the rest
pub blank_first : (banks : BanksView) (heap : HeapPart) (frame : ℕ) (frames : List ℕ) →
    with_blank banks (Some heap) (frame ∷ frames)
    ≡ with_blank (with_zeros banks (record { base = page_address (Some heap) frame; len = heap.page })) (Some heap) frames
blank_first banks heap frame frames =
    ap (λ memory. record banks { memory = memory })
    (put_cells-append banks.board banks.memory (zero_cells (page_address (Some heap) frame) heap.page) (blank_cells (Some heap) frames))

-- where pages of a heap begin, addresses have 32 bits
pub addresses_fit : (heap : HeapPart) (frames : List ℕ) → IsPaged heap → AllByRecursion (λ frame. frame < heap.count) frames →
    AllByRecursion (λ frame. page_address (Some heap) frame < 2 ^ 32) frames
addresses_fit heap [] paged within = tt
addresses_fit heap (frame ∷ frames) paged within =
    (omega (arith, paged.ends, paged.some_byte, page_ends frame heap.count heap.page within.0), addresses_fit heap frames paged within.1)
