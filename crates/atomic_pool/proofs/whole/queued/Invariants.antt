use Rattle.std.proofs.Common.{List, ℕ, map}
use Rattle.std.specs.Slots.{slots_items}
use Rattle.atomic_pool.specs.Tickets.{code}
use Rattle.atomic_pool.specs.Queue.{IsQueue}
use Rattle.atomic_pool.proofs.QueueEnd.{Rest}
use Rattle.atomic_pool.proofs.whole.queued.Given as goal

abbrev pub invariant-loop-rest : goal.invariant-loop-rest
invariant-loop-rest l = (q : List ℕ) → IsQueue (slots_items l.closed.words) q → Rest (slots_items l.closed.words) q l.rest (map code l.left.items)

abbrev pub decreases-loop-rest : goal.decreases-loop-rest
decreases-loop-rest l = l.rest
