use Rattle.std.proofs.Common.{◌≡◌, drop, find}
use Rattle.std.specs.List.{slice_get}
use Rattle.index_list.specs.Arena.{list_at}
use Rattle.rpc_gateway.specs.Places.{passes_at}
use Rattle.rpc_gateway.specs.Sought.{fits}
use Rattle.rpc_gateway.proofs.sought.Sought.first_in.Given as goal

-- the places so far are not of calls that are looked for
abbrev pub invariant-loop-step : goal.invariant-loop-step
invariant-loop-step l = record {
  here : l.at ≡ slice_get (list_at l.arena.lists l.list) l._step;
  rest : find (passes_at (fits l.self) l.calls) (drop l._step (list_at l.arena.lists l.list))
      ≡ find (passes_at (fits l.self) l.calls) (list_at l.arena.lists l.list);
}
