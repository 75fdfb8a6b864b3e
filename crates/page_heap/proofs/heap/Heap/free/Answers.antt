use Rattle.std.proofs.Common.{arith}
use Rattle.page_heap.proofs.FreeFrames.{length-free}
use Rattle.page_heap.proofs.heap.Heap.free.Goals as goal

pub overflow_add-self : goal.overflow_add-self
overflow_add-self c =
    let kept = c.self.invariant in
    omega (arith, kept.counted, length-free 0 c.self.inside.owners, kept.listed.one_each, kept.listed.few)
