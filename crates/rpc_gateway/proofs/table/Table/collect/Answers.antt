use Rattle.std.proofs.Common.{◌≡◌, ◌-◌, List, Some, length, set, sym, ap, ◌∙◌, arith, length-set, refl}
use Rattle.std.specs.List.{slice_get}
use Rattle.std.specs.Vec.{vec_capacity}
use Rattle.std.proofs.lemmas.Option.{slice_get_within}
use Rattle.flat_model.specs.declared.states.Call.{Call}
use Rattle.flat_model.specs.declared.states.CallState.TheVariants as state
use Rattle.flat_model.specs.Calls.{with_state}
use Rattle.rpc_gateway.specs.Table.{TableView, call_in}
use Rattle.rpc_gateway.proofs.NumberLemmas.{with_state-at}
use Rattle.rpc_gateway.proofs.TableLemmas.{IsTable-collect, IsTable-same, done_open, table_view, uncollected_stands}
use Rattle.rpc_gateway.proofs.table.Table.collect.Goals as goal

pub remove-requires : goal.remove-requires
remove-requires c =
    let there : slice_get c.self.inside.calls.items c.args.found.place ≡ Some c.args.found.call =
    ap (λ (v : TableView). slice_get v.calls c.args.found.place) c.self.view_is ∙ c.requires.there in
    uncollected_stands c.self.inside.calls.items (vec_capacity c.self.inside.calls) c.self.inside.posted c.self.inside.uncollected c.self.inside.waiting c.self.inside.made c.self.invariant
    c.args.found.place c.args.found.call there ((done_open c.args.found.call.state c.requires.done).1)

pub put_call-requires : goal.put_call-requires
put_call-requires c =
    let there : slice_get c.self.inside.calls.items c.args.found.place ≡ Some c.args.found.call =
    ap (λ (v : TableView). slice_get v.calls c.args.found.place) c.self.view_is ∙ c.requires.there in
    slice_get_within c.self.inside.calls.items c.args.found.place c.args.found.call there

pub invariant_of-self : goal.invariant_of-self
invariant_of-self c =
    let there : slice_get c.self.inside.calls.items c.args.found.place ≡ Some c.args.found.call =
    ap (λ (v : TableView). slice_get v.calls c.args.found.place) c.self.view_is ∙ c.requires.there in
    IsTable-same _ _ _ _ _ _ _ _ _ _ _ _ c.put_call.ensures.items c.put_call.ensures.capacity
    refl c.remove.ensures refl refl
    (IsTable-collect c.self.inside.calls.items (vec_capacity c.self.inside.calls) c.self.inside.posted c.self.inside.uncollected c.self.inside.waiting c.self.inside.made c.self.invariant
    c.args.found.place c.args.found.call there c.requires.done)

pub returns-clause-place : goal.returns-clause-place
returns-clause-place c = c.put_call.ensures.items ∙ ap (λ (v : TableView). set v.calls c.args.found.place (call_in state.Collected c.args.found.call)) c.self.view_is

pub returns-clause-exact : goal.returns-clause-exact
returns-clause-exact c =
    let there : slice_get c.self.inside.calls.items c.args.found.place ≡ Some c.args.found.call =
    ap (λ (v : TableView). slice_get v.calls c.args.found.place) c.self.view_is ∙ c.requires.there in
    let calls : c.put_call.new.calls.items ≡ with_state c.args.found.call.ticket state.Collected c.args.self.now.calls =
    c.put_call.ensures.items
    ∙ (sym (with_state-at c.self.inside.calls.items c.args.found.place c.args.found.call state.Collected there ((done_open c.args.found.call.state c.requires.done).1) c.self.invariant.numbered)
    ∙ ap (λ (v : TableView). with_state c.args.found.call.ticket state.Collected v.calls) c.self.view_is) in
    let kept : length c.put_call.new.calls.items ≡ length c.self.inside.calls.items =
    ap (λ (x : List Call). length x) c.put_call.ensures.items
    ∙ length-set c.self.inside.calls.items c.args.found.place (call_in state.Collected c.args.found.call) in
    let spare : vec_capacity c.put_call.new.calls - length c.put_call.new.calls.items ≡ c.args.self.now.spare =
    omega (arith, kept, c.put_call.ensures.capacity, ap (λ (v : TableView). v.spare) c.self.view_is) in
    table_view _ _ _ _ calls spare
