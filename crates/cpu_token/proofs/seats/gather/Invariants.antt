use Rattle.std.proofs.Common.{◌≡◌, ◌++◌, map, All}
use Rattle.cpu_token.specs.Parts.{shown_part, IsIdle}
use Rattle.cpu_token.proofs.seats.gather.Given as goal

abbrev pub invariant-loop-pass : goal.invariant-loop-pass
invariant-loop-pass g l = record {
  of : l.seat.table_id ≡ l.initial.seat.table_id;
  slots : l.seat.me.1 ≡ l.initial.seat.me.1;
  tokens : All (λ p. p.token ≡ l.table.shared.table_id) l.passes.items;
  parts : l.initial.passes.items ++ map (shown_part l.table.shared.table_id) l.initial.seat.me.0 ≡ l.passes.items ++ map (shown_part l.table.shared.table_id) l.seat.me.0;
  idle : All IsIdle l.initial.seat.me.0 → All IsIdle l.seat.me.0;
}

abbrev pub decreases-loop-pass : goal.decreases-loop-pass
decreases-loop-pass g l = goal.left-loop-pass g l
