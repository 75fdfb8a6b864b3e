use Rattle.std.proofs.Common.{◌≡◌}
use Rattle.atomic_pool.proofs.tests.races.raise_and_take.Given as goal

abbrev pub invariant-loop : goal.invariant-loop
invariant-loop l = (l.seat.lines ≡ l.lines.id) × (l.seat.part.number ≡ l.fn.seat.part.number)
