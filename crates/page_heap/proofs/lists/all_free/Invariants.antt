use Rattle.page_heap.proofs.GivenFrames.{IsFreeing}
use Rattle.page_heap.proofs.lists.all_free.Given as goal

abbrev pub invariant-loop-next : goal.invariant-loop-next
invariant-loop-next l = IsFreeing l.frames l.count l.next
