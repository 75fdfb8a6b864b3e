use Rattle.std.proofs.Common.{◌≡◌, ◌+◌, drop, sum_by}
use Rattle.flat_model.specs.declared.parts.ThreadPart.{ThreadPart}
use Rattle.flat_model.proofs.plain.total_steps.Given as goal

abbrev pub invariant-loop-thread : goal.invariant-loop-thread
invariant-loop-thread l =
    l.total + sum_by (λ (thread : ThreadPart). thread.steps) (drop l.thread-index l.fn.threads)
    ≡ sum_by (λ (thread : ThreadPart). thread.steps) l.fn.threads
