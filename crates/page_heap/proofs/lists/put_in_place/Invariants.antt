use Rattle.page_heap.proofs.Turn.{IsTurning}
use Rattle.page_heap.proofs.lists.put_in_place.Given as goal

abbrev pub invariant-loop : goal.invariant-loop
invariant-loop l = IsTurning l.fn.frames l.frames l.frame l.placed l.counter
