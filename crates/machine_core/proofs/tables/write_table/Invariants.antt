use Rattle.std.proofs.Common.{◌≡◌, ◌+◌, ◌*◌, drop}
use Rattle.machine_core.specs.Parts.{with_table}
use Rattle.machine_core.proofs.tables.write_table.Given as goal

abbrev pub invariant-loop-index : goal.invariant-loop-index
invariant-loop-index l = record {
  board : l.banks.board ≡ l.fn.banks.board;
  left : with_table l.banks l.heap.heap (l.table + 4 * l.index) (drop l.index l.frames) ≡ with_table l.fn.banks l.heap.heap l.table l.frames;
}
