-- Inner: no public contract cites this. Which regions can stand in the slots after rotations.
use Rattle.std.specs.Prelude.{◌≡◌, ℕ, ◌+◌, ◌*◌, ◌%◌, ◌^◌, ◌≤◌, ◌⊎◌, List, length, Some}
use Rattle.std.specs.List.{slice_get}
use Rattle.addr_base.specs.declared.pairs.Pair.{Pair}
use Rattle.flat_model.specs.declared.boards.HeapPart.{HeapPart}

-- a page has a power of two of bytes, from 32 to 65536
pub record IsPage (page : ℕ) : Type 0 where
  pub exponent : ℕ
  pub low : 5 ≤ exponent
  pub high : exponent ≤ 16
  pub is_power : page ≡ 2 ^ exponent

-- a heap of whole groups whose base is a multiple of a group
pub record IsGrouped (heap : HeapPart) : Type 0 where
  pub page_is : IsPage heap.page
  pub groups : heap.count % 8 ≡ 0
  pub whole : heap.base % (8 * heap.page) ≡ 0

-- the slot is on the circle of a unit of so many regions
abbrev pub OnCircle : ℕ → ℕ → Type 0
OnCircle regions j = (2 ≤ j) × (j + 2 ≤ regions)

-- each region is that of a switch, or is on the circle and meets the fact
pub record IsTurnedBy (From : Pair → Type 0) (slots pairs : List Pair) : Type 0 where
  pub same_length : length pairs ≡ length slots
  pub each : (j : ℕ) → (slice_get pairs j ≡ slice_get slots j) ⊎ (OnCircle (length slots) j × (p : Pair) × (slice_get pairs j ≡ Some p) × From p)
