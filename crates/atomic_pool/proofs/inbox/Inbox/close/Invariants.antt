use Rattle.std.proofs.Common.{◌≡◌, [], length, All}
use Rattle.atomic_pool.proofs.InboxEnd.{Joined}
use Rattle.atomic_pool.proofs.inbox.Inbox.close.Given as goal

abbrev pub invariant-loop-next : goal.invariant-loop-next
invariant-loop-next l = record {
  table : l.table ≡ l.initial.table;
  id : l.all.table_id ≡ l.fn.self.id;
  none_held : l.all.me.1 ≡ [];
  of : All (λ s. s.inbox ≡ l.fn.self.id) l.producers.items;
  joined : Joined l.producers.items l.fn.producers.items l.fn.consumer l.all.me.0;
}

abbrev pub decreases-loop-next : goal.decreases-loop-next
decreases-loop-next l = length l.producers.items
