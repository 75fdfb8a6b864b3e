use Rattle.std.proofs.Common.{◌≡◌, ◌≤◌, ◌+◌, vec_len, vec_capacity}
use Rattle.cpu_token.proofs.Dealing.{Dealt}
use Rattle.cpu_token.proofs.seats.deal.Given as goal

abbrev pub invariant-loop : goal.invariant-loop
invariant-loop g l = record {
  dealt : Dealt l.table.shared.table_id (g.V.Stepped.fixed l.key.start.value) l.key.passes l.counter l.seat.me l.list.items;
  of : l.seat.table_id ≡ l.table.shared.table_id;
  count : vec_len l.list + 1 ≡ l.counter;
  room : l.key.passes ≤ vec_capacity l.list;
}
