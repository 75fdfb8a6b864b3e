use Rattle.std.proofs.Common.{◌≡◌, Some, drop}
use Rattle.page_heap.specs.Heap.{with_blank}
use Rattle.page_heap.proofs.frames.blank.Given as goal

abbrev pub invariant-loop-frame : goal.invariant-loop-frame
invariant-loop-frame l = record {
  board : l.banks.board ≡ l.fn.banks.board;
  left : with_blank l.banks (Some l.heap) (drop l.frame-index l.frames) ≡ with_blank l.fn.banks (Some l.heap) l.frames;
}
