use Rattle.std.proofs.Common.{◌≡◌}
use Rattle.atomic_pool.proofs.tests.races.put_and_take.Given as goal

abbrev pub invariant-loop : goal.invariant-loop
invariant-loop l = (l.producer.inbox ≡ l.inbox.id) × (l.producer.part.number ≡ 0) × (l.consumer.inbox ≡ l.inbox.id)
