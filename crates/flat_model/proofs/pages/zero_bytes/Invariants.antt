use Rattle.std.proofs.Common.{◌≡◌, ◌+◌, ◌-◌}
use Rattle.flat_model.specs.Cells.{zero_cells}
use Rattle.flat_model.specs.Memory.{put_cells}
use Rattle.flat_model.proofs.pages.zero_bytes.Given as goal

abbrev pub invariant-loop-index : goal.invariant-loop-index
invariant-loop-index l =
    put_cells l.board l.initial.memory (zero_cells l.at l.n)
    ≡ put_cells l.board l.memory (zero_cells (l.at + l.index) (l.n - l.index))
