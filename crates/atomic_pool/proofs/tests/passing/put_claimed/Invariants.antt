use Rattle.std.proofs.Common.{◌≡◌}
use Rattle.atomic_pool.specs.InboxTold.{Holds}
use Rattle.atomic_pool.proofs.tests.passing.put_claimed.Given as goal

abbrev pub invariant-loop : goal.invariant-loop
invariant-loop l = (l.seat.inbox ≡ l.fn.seat.inbox) × (l.seat.part.number ≡ l.fn.seat.part.number) × (l.claim.inbox.id ≡ l.inbox.id) × Holds l.claim l.seat
