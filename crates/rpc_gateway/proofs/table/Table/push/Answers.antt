use Rattle.std.proofs.Common.{◌≡◌, ◌+◌, ◌-◌, ◌≤◌, ◌∷◌, ◌++◌, [], List, length, sym, ap, ◌∙◌, arith}
use Rattle.std.specs.Vec.{vec_capacity}
use Rattle.std.proofs.lemmas.List.{length_push}
use Rattle.flat_model.specs.declared.states.Call.{Call}
use Rattle.rpc_gateway.specs.Calls.{next_ticket}
use Rattle.rpc_gateway.specs.Table.{TableView}
use Rattle.rpc_gateway.proofs.TableLemmas.{IsTable-push, IsTable-same, own_caller, own_list, posted_free, table_view, uncollected_free}
use Rattle.rpc_gateway.proofs.table.Table.push.Goals as goal

pub push_back-requires-clause-list : goal.push_back-requires-clause-list
push_back-requires-clause-list c =
    own_list c.self.inside.calls.items (vec_capacity c.self.inside.calls) c.self.inside.posted c.self.inside.uncollected c.self.inside.waiting c.self.inside.made c.self.invariant
    c.args.call.ticket.thread.0 c.args.call.target.0 c.pair_list-pair.result c.pair_list-pair.ensures

pub push_back-requires-clause-free : goal.push_back-requires-clause-free
push_back-requires-clause-free c =
    posted_free c.self.inside.calls.items (vec_capacity c.self.inside.calls) c.self.inside.posted c.self.inside.uncollected c.self.inside.waiting c.self.inside.made c.self.invariant
    c.len-place.result (omega arith)

pub push_back-requires-2-clause-list : goal.push_back-requires-2-clause-list
push_back-requires-2-clause-list c =
    own_caller c.self.inside.calls.items (vec_capacity c.self.inside.calls) c.self.inside.posted c.self.inside.uncollected c.self.inside.waiting c.self.inside.made c.self.invariant
    c.args.call.ticket.thread.0 c.caller_list-own.result c.caller_list-own.ensures

pub push_back-requires-2-clause-free : goal.push_back-requires-2-clause-free
push_back-requires-2-clause-free c =
    uncollected_free c.self.inside.calls.items (vec_capacity c.self.inside.calls) c.self.inside.posted c.self.inside.uncollected c.self.inside.waiting c.self.inside.made c.self.invariant
    c.len-place.result (omega arith)

pub invariant_of-self : goal.invariant_of-self
invariant_of-self c =
    let spare : 1 ≤ vec_capacity c.self.inside.calls - length c.self.inside.calls.items = omega (arith, ap (λ (v : TableView). v.spare) c.self.view_is, c.requires.room) in
    let next : c.args.call.ticket ≡ next_ticket c.args.call.ticket.thread c.self.inside.calls.items =
    c.requires.next ∙ ap (λ (v : TableView). next_ticket c.args.call.ticket.thread v.calls) (sym c.self.view_is) in
    IsTable-same _ _ _ _ _ _ _ _ _ _ _ _ c.push_reserved.ensures.items c.push_reserved.ensures.capacity
    c.push_back.ensures c.push_back-2.ensures c.count_up.ensures c.count_up-2.ensures
    (IsTable-push c.self.inside.calls.items (vec_capacity c.self.inside.calls) c.self.inside.posted c.self.inside.uncollected c.self.inside.waiting c.self.inside.made c.self.invariant
    c.args.call c.pair_list-pair.result c.caller_list-own.result c.len-place.result spare next c.requires.posted
    c.pair_list-pair.ensures c.caller_list-own.ensures (omega arith))

pub returns : goal.returns
returns c =
    let calls : c.push_reserved.new.self.items ≡ c.args.self.now.calls ++ c.args.call ∷ [] =
    c.push_reserved.ensures.items ∙ ap (λ (v : TableView). v.calls ++ c.args.call ∷ []) c.self.view_is in
    let longer : length c.push_reserved.new.self.items ≡ length c.self.inside.calls.items + 1 =
    ap (λ (x : List Call). length x) c.push_reserved.ensures.items ∙ length_push c.self.inside.calls.items c.args.call in
    let spare : vec_capacity c.push_reserved.new.self - length c.push_reserved.new.self.items ≡ c.args.self.now.spare - 1 =
    omega (arith, longer, c.push_reserved.ensures.capacity, ap (λ (v : TableView). v.spare) c.self.view_is) in
    table_view _ _ _ _ calls spare
