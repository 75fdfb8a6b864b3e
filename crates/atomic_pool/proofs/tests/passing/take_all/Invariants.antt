use Rattle.std.proofs.Common.{◌≡◌}
use Rattle.atomic_pool.proofs.tests.passing.take_all.Given as goal

abbrev pub invariant-loop : goal.invariant-loop
invariant-loop l = l.seat.inbox ≡ l.inbox.id
