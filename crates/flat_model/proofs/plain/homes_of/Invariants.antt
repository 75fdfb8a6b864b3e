use Rattle.std.proofs.Common.{◌≡◌, take, map}
use Rattle.flat_model.specs.declared.parts.ThreadPart.{ThreadPart}
use Rattle.flat_model.proofs.plain.homes_of.Given as goal

abbrev pub invariant-loop-thread : goal.invariant-loop-thread
invariant-loop-thread l =
    l.homes.items ≡ map (λ (thread : ThreadPart). thread.home) (take l.thread-index l.fn.threads)
