use Rattle.page_heap.proofs.GivenFrames.{IsGiving}
use Rattle.page_heap.proofs.lists.give_least.Given as goal

abbrev pub invariant-loop : goal.invariant-loop
invariant-loop l = IsGiving l.fn.owners l.owners l.frames l.b l.out.items l.counter
