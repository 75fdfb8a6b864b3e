use Rattle.std.proofs.Common.{◌≡◌, ◌-◌, ◌<◌, ◌^◌, List, length, ap, arith}
use Rattle.std.specs.Vec.{vec_capacity}
use Rattle.flat_model.specs.declared.states.Call.{Call}
use Rattle.rpc_gateway.proofs.TableLemmas.{IsTable-opening, IsTable-same, table_view}
use Rattle.rpc_gateway.proofs.table.Table.new.Goals as goal

pub invariant_of-result : goal.invariant_of-result
invariant_of-result c =
    let few : c.args.room < 2 ^ 32 = omega arith in
    IsTable-same _ _ _ _ _ _ _ _ _ _ _ _ c.in_ok-calls.ensures.items c.in_ok-calls.ensures.exact
    c.in_ok-posted.ensures c.in_ok-uncollected.ensures c.in_ok-waiting.ensures c.in_ok-made.ensures
    (IsTable-opening c.args.room few)

pub returns : goal.returns
returns c =
    let none = ap (λ (x : List Call). length x) c.in_ok-calls.ensures.items in
    let spare : vec_capacity c.in_ok-calls.calls - length c.in_ok-calls.calls.items ≡ c.args.room = omega (arith, none, c.in_ok-calls.ensures.exact) in
    table_view _ _ _ _ c.in_ok-calls.ensures.items spare
