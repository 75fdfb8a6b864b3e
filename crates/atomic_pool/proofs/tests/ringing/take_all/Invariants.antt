use Rattle.std.proofs.Common.{◌≡◌}
use Rattle.atomic_pool.proofs.tests.ringing.take_all.Given as goal

abbrev pub invariant-loop : goal.invariant-loop
invariant-loop l = (l.seat.lines ≡ l.lines.id) × (l.seat.part.number ≡ l.fn.seat.part.number)
