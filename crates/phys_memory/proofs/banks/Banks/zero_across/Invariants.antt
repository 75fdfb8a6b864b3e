use Rattle.std.proofs.Common.{◌≡◌, ◌-◌}
use Rattle.flat_model.specs.Cells.{zero_cells}
use Rattle.flat_model.specs.Memory.{put_cells}
use Rattle.phys_memory.proofs.banks.Banks.zero_across.Given as goal

abbrev pub invariant-loop-a : goal.invariant-loop-a
invariant-loop-a l = record {
  same : l.self.board ≡ l.fn.self.board;
  left : put_cells l.fn.self.board l.fn.self.memory (zero_cells l.fn.from (l.fn.to - l.fn.from))
      ≡ put_cells l.fn.self.board l.self.memory (zero_cells l.a (l.fn.to - l.a));
}
