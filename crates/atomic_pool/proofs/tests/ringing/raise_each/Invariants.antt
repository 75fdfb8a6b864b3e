use Rattle.std.proofs.Common.{◌≡◌}
use Rattle.atomic_pool.proofs.tests.ringing.raise_each.Given as goal

abbrev pub invariant-loop-i : goal.invariant-loop-i
invariant-loop-i l = (l.seat.lines ≡ l.lines.id) × (l.seat.part.number ≡ l.fn.seat.part.number)
