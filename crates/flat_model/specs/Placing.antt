-- Where the boxes' own memory lies, and what is left for all (docs/MODEL.md, "Placing").
use Rattle.std.specs.Prelude.{◌≡◌, ℕ, ◌+◌, ◌-◌, ◌%◌, ◌<◌, ◌≤◌, Option, Some, None, List, [], ◌∷◌}
use Rattle.addr_base.specs.declared.ranges.Range.{Range}
use Rattle.std.specs.Int.{IsPowerOfTwo}
use Rattle.addr_base.specs.Range.{end_of}
use Rattle.flat_model.specs.declared.boards.Board.{Board}
use Rattle.flat_model.specs.declared.boards.HeapPart.{HeapPart}
use Rattle.flat_model.specs.declared.parts.BoxPart.{BoxPart}

-- where own memory and the common part end: the heap's base, or SRAM's end where there is no heap
abbrev pub limit_of : Board → ℕ
limit_of board = limit_before board.heap
  where
    limit_before : Option HeapPart → ℕ
    limit_before None = end_of board.sram
    limit_before (Some heap) = heap.base

-- own memory that begins at the least multiple of its length not below an address
pub record IsOwnAfter (start : ℕ) (own : Range) : Type 0 where
  pub power : IsPowerOfTwo own.len
  pub enough : 256 ≤ own.len
  pub aligned : own.base % own.len ≡ 0
  pub not_below : start ≤ own.base
  pub least : own.base < start + own.len

-- the boxes' own memories lie one after another from an address on
abbrev pub ArePlaced : ℕ → List BoxPart → Type 0
ArePlaced start [] = Unit {0}
ArePlaced start (part ∷ parts) = IsOwnAfter start part.own × ArePlaced (end_of part.own) parts

-- the end of the last own memory, or the start where there is no box
abbrev pub placed_end : ℕ → List BoxPart → ℕ
placed_end start [] = start
placed_end start (part ∷ parts) = placed_end (end_of part.own) parts

-- the common part of SRAM: from the end of the last own memory to the limit
abbrev pub common_range : Board → List BoxPart → Range
common_range board parts = record {
  base = placed_end board.sram.base parts;
  len = limit_of board - placed_end board.sram.base parts;
}
