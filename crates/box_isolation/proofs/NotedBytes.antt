-- Bytes written to memory, and the same bytes noted by a box alone.
use Rattle.std.proofs.Common.{◌≡◌, ◌≢◌, ℕ, ◌-◌, Bool, true, false, List, [], ◌∷◌, ◌++◌, length, refl, sym, ◌∙◌, ap, subst, arith, inl, inr, ◌⊎◌}
use Rattle.std.specs.Prelude.{◌||◌, nat_eq, slice_index, slice_set}
use Rattle.std.specs.List.{AllByRecursion, list_any}
use Rattle.std.proofs.lemmas.Bool.{cases_Bool, false≢true, eqb-true, eqb-false}
use Rattle.std.proofs.lemmas.List.{get_or-set_same, get_or-set_other, length-set}
use Rattle.addr_base.specs.declared.ranges.Range.{Range}
use Rattle.addr_base.specs.Range.{in_range}
use Rattle.flat_model.specs.declared.boards.Board.{Board}
use Rattle.flat_model.specs.declared.states.Memory.{Memory}
use Rattle.box_isolation.specs.AloneState.{byte_in, noted}
use Rattle.flat_model.specs.Cells.{Cell}
use Rattle.flat_model.specs.Memory.{byte_at, put_byte, put_cells}
use Rattle.flat_model.proofs.Placed.{bounds_of}

-- each bank is as long as its range
pub record IsSized (board : Board) (memory : Memory) : Type 0 where
  pub flash : length memory.flash ≡ board.flash.len
  pub sram : length memory.sram ≡ board.sram.len
  pub peripherals : length memory.peripherals ≡ board.peripherals.len

-- whether the address is in a bank
abbrev pub in_board : Board → ℕ → Bool
in_board board a = in_range board.flash a || (in_range board.sram a || in_range board.peripherals a)

-- whether one of the bytes is written at the address
abbrev pub writes : List Cell → ℕ → Bool
writes cells a = list_any (λ cell. nat_eq cell.at a) cells

bank-same : (range : Range) (xs : List ℕ) (a v : ℕ) → in_range range a ≡ true → length xs ≡ range.len → slice_index (slice_set xs (a - range.base) v) (a - range.base) ≡ v
bank-same range xs a v here size =
    let it = bounds_of range a here in
    get_or-set_same xs (a - range.base) v 0 (omega (arith, it, size))

bank-other : (range : Range) (xs : List ℕ) (at a v : ℕ) → in_range range at ≡ true → in_range range a ≡ true → at ≢ a → slice_index (slice_set xs (at - range.base) v) (a - range.base) ≡ slice_index xs (a - range.base)
bank-other range xs at a v there here other =
    let it = bounds_of range at there in
    let this = bounds_of range a here in
    get_or-set_other xs (at - range.base) (a - range.base) v 0 (λ same. other (omega (arith, it, this, same)))

-- the byte that was written
pub byte-put_same : (board : Board) (m : Memory) (cell : Cell) → IsSized board m → in_board board cell.at ≡ true → byte_at board (put_byte board m cell) cell.at ≡ cell.value
unfolding byte_at put_byte
byte-put_same board m cell size within = elim (cases_Bool (in_range board.flash cell.at)) [
  | inl f ↦ rw f (bank-same board.flash m.flash cell.at cell.value f size.flash)
  | inr nf ↦ elim (cases_Bool (in_range board.sram cell.at)) [
    | inl s ↦ rw (nf, s) (bank-same board.sram m.sram cell.at cell.value s size.sram)
    | inr ns ↦ elim (cases_Bool (in_range board.peripherals cell.at)) [
      | inl p ↦ rw (nf, ns, p) (bank-same board.peripherals m.peripherals cell.at cell.value p size.peripherals)
      | inr np ↦ absurd (false≢true (sym (rw (nf, ns, np) refl) ∙ within))
    ]
  ]
]

-- another byte
pub byte-put_other : (board : Board) (m : Memory) (cell : Cell) (a : ℕ) → cell.at ≢ a → byte_at board (put_byte board m cell) a ≡ byte_at board m a
unfolding byte_at put_byte
byte-put_other board m cell a other = elim (cases_Bool (in_range board.flash cell.at)) [
  | inl f ↦ elim (cases_Bool (in_range board.flash a)) [
    | inl fa ↦ rw (f, fa) (bank-other board.flash m.flash cell.at a cell.value f fa other)
    | inr na ↦ rw (f, na) refl
  ]
  | inr nf ↦ elim (cases_Bool (in_range board.sram cell.at)) [
    | inl s ↦ elim (cases_Bool (in_range board.sram a)) [
      | inl sa ↦ rw (nf, s, sa, bank-other board.sram m.sram cell.at a cell.value s sa other) refl
      | inr na ↦ rw (nf, s, na) refl
    ]
    | inr ns ↦ elim (cases_Bool (in_range board.peripherals cell.at)) [
      | inl p ↦ elim (cases_Bool (in_range board.peripherals a)) [
        | inl pa ↦ rw (nf, ns, p, pa, bank-other board.peripherals m.peripherals cell.at a cell.value p pa other) refl
        | inr na ↦ rw (nf, ns, p, na) refl
      ]
      | inr np ↦ rw (nf, ns, np) refl
    ]
  ]
]

-- a byte written leaves each bank as long as it was
pub IsSized-put : (board : Board) (m : Memory) (cell : Cell) → IsSized board m → IsSized board (put_byte board m cell)
unfolding put_byte
IsSized-put board m cell size = elim (cases_Bool (in_range board.flash cell.at)) [
  | inl f ↦ rw f (record { flash = length-set m.flash (cell.at - board.flash.base) cell.value ∙ size.flash; sram = size.sram; peripherals = size.peripherals })
  | inr nf ↦ elim (cases_Bool (in_range board.sram cell.at)) [
    | inl s ↦ rw (nf, s) (record { flash = size.flash; sram = length-set m.sram (cell.at - board.sram.base) cell.value ∙ size.sram; peripherals = size.peripherals })
    | inr ns ↦ elim (cases_Bool (in_range board.peripherals cell.at)) [
      | inl p ↦ rw (nf, ns, p) (record { flash = size.flash; sram = size.sram; peripherals = length-set m.peripherals (cell.at - board.peripherals.base) cell.value ∙ size.peripherals })
      | inr np ↦ rw (nf, ns, np) size
    ]
  ]
]

pub IsSized-put_cells : (board : Board) (m : Memory) (cells : List Cell) → IsSized board m → IsSized board (put_cells board m cells)
IsSized-put_cells board m [] size = size
IsSized-put_cells board m (cell ∷ cells) size = IsSized-put_cells board (put_byte board m cell) cells (IsSized-put board m cell size)

-- a byte that none writes
pub byte-put_cells_other : (board : Board) (m : Memory) (cells : List Cell) (a : ℕ) → writes cells a ≡ false → byte_at board (put_cells board m cells) a ≡ byte_at board m a
byte-put_cells_other board m [] a off = refl
byte-put_cells_other board m (cell ∷ cells) a off = elim (cases_Bool (nat_eq cell.at a)) [
  | inl same ↦ absurd (false≢true (sym off ∙ rw same refl))
  | inr other ↦ byte-put_cells_other board (put_byte board m cell) cells a (sym (rw other refl) ∙ off) ∙ byte-put_other board m cell a (eqb-false cell.at a other)
]

-- bytes written to memory, and noted: the same at an address where both agreed, or where one is written
pub noted-put_cells : (board : Board) (cells : List Cell) (old : List Cell) (m : Memory) (a : ℕ) → IsSized board m → in_board board a ≡ true →
    (byte_in old a ≡ byte_at board m a) ⊎ (writes cells a ≡ true) → byte_in (noted cells old) a ≡ byte_at board (put_cells board m cells) a
noted-put_cells board [] old m a size within (inl same) = same
noted-put_cells board [] old m a size within (inr w) = absurd (false≢true w)
noted-put_cells board (cell ∷ cells) old m a size within agree = elim (cases_Bool (nat_eq cell.at a)) [
  | inl here ↦
      let is : cell.at ≡ a = eqb-true cell.at a here in
      let value : byte_at board (put_byte board m cell) a ≡ cell.value =
      subst (λ x. byte_at board (put_byte board m cell) x ≡ cell.value) is (byte-put_same board m cell size (ap (in_board board) is ∙ within)) in
      noted-put_cells board cells (cell ∷ old) (put_byte board m cell) a (IsSized-put board m cell size) within
      (inl (rw here (sym value)))
  | inr there ↦
      let kept : byte_at board (put_byte board m cell) a ≡ byte_at board m a = byte-put_other board m cell a (eqb-false cell.at a there) in
      noted-put_cells board cells (cell ∷ old) (put_byte board m cell) a (IsSized-put board m cell size) within
      (elim agree [
        | inl same ↦ inl (rw there (same ∙ sym kept))
        | inr w ↦ inr (sym (rw there refl) ∙ w)
      ])
]

-- the bytes noted are a function's, where they were before or are noted now
pub noted-is : (f : ℕ → ℕ) (cells old : List Cell) (a : ℕ) → AllByRecursion (λ (cell : Cell). cell.value ≡ f cell.at) cells →
    (byte_in old a ≡ f a) ⊎ (writes cells a ≡ true) → byte_in (noted cells old) a ≡ f a
noted-is f [] old a each (inl same) = same
noted-is f [] old a each (inr w) = absurd (false≢true w)
noted-is f (cell ∷ cells) old a each agree = elim (cases_Bool (nat_eq cell.at a)) [
  | inl here ↦ noted-is f cells (cell ∷ old) a each.1 (inl (rw here (each.0 ∙ ap f (eqb-true cell.at a here))))
  | inr there ↦ noted-is f cells (cell ∷ old) a each.1 (elim agree [
    | inl same ↦ inl (rw there same)
    | inr w ↦ inr (sym (rw there refl) ∙ w)
  ])
]

-- bytes noted one after another
pub noted-append : (first second old : List Cell) → noted (first ++ second) old ≡ noted second (noted first old)
noted-append [] second old = refl
noted-append (cell ∷ first) second old = noted-append first second (cell ∷ old)

pub put_cells-append : (board : Board) (m : Memory) (first second : List Cell) → put_cells board m (first ++ second) ≡ put_cells board (put_cells board m first) second
put_cells-append board m [] second = refl
put_cells-append board m (cell ∷ first) second = put_cells-append board (put_byte board m cell) first second
