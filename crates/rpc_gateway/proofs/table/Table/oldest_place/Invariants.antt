use Rattle.std.proofs.Common.{◌≡◌}
use Rattle.rpc_gateway.specs.Places.{first_place}
use Rattle.rpc_gateway.proofs.FindingLemmas.{is_posted_below}
use Rattle.rpc_gateway.proofs.table.Table.oldest_place.Given as goal

-- the oldest of the lists so far
abbrev pub invariant-loop-list : goal.invariant-loop-list
invariant-loop-list l = l.oldest ≡ first_place (is_posted_below l.list l.b.0) l.self.calls
