-- Zero bytes one by one.
use Rattle.std.proofs.Common.{◌≡◌, ℕ, suc, ◌+◌, ◌-◌, ◌<◌, ◌≤◌, [], ap, arith}
use Rattle.flat_model.specs.declared.boards.Board.{Board}
use Rattle.flat_model.specs.declared.states.Memory.{Memory}
use Rattle.flat_model.specs.Cells.{zero_cells}
use Rattle.flat_model.specs.Memory.{put_byte, put_cells}

-- the first of some zero bytes is written before the rest
pub zeros-first : (board : Board) (memory : Memory) (a last : ℕ) → a < last →
    put_cells board memory (zero_cells a (last - a))
    ≡ put_cells board (put_byte board memory (record { at = a; value = 0 })) (zero_cells (a + 1) (last - (a + 1)))
zeros-first board memory a last more =
    let more_are_left : last - a ≡ suc (last - (a + 1)) = omega arith in
    ap (λ n. put_cells board memory (zero_cells a n)) more_are_left

-- where none is left nothing is written
pub zeros_past : (a last : ℕ) → last ≤ a → zero_cells a (last - a) ≡ []
zeros_past a last past = let none_is_left : last - a ≡ 0 = omega arith in ap (zero_cells a) none_is_left
