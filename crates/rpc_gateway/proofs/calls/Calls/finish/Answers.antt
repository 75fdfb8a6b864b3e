use Rattle.std.proofs.Common.{◌≡◌, Some, None, set, sym, ap, ◌∙◌}
use Rattle.std.specs.List.{slice_get}
use Rattle.addr_base.specs.declared.identity.BoxId.{BoxId}
use Rattle.flat_model.specs.declared.states.CallState.TheVariants as state
use Rattle.flat_model.specs.CallRows.{home_of}
use Rattle.rpc_gateway.specs.Calls.{CallsView, with_finish}
use Rattle.rpc_gateway.specs.Servers.{thread_serving}
use Rattle.rpc_gateway.specs.Table.{call_in}
use Rattle.rpc_gateway.proofs.CallsLemmas.{AreServed-finished, served_call, served_place, serving_at, state_view}
use Rattle.rpc_gateway.proofs.calls.Calls.finish.Goals as goal

pub at-found-requires : goal.at-found-requires
at-found-requires c =
    let serves : thread_serving c.self.inside.directory c.self.inside.serving c.args.server.0 ≡ Some c.in-Some.ticket =
    ap (λ (v : CallsView). thread_serving v.config v.serving c.args.server.0) c.self.view_is ∙ (sym c.serving.ensures ∙ c.in-Some.is) in
    let home = ap (λ (b : BoxId). b.0) c.home_of-home.ensures in
    let here : slice_get c.self.inside.serving c.home_of-home.result.0 ≡ Some (Some c.in-Some.ticket) =
    serving_at c.self.inside.directory c.self.inside.serving c.args.server.0 c.home_of-home.result.0 c.in-Some.ticket home serves in
    served_place c.self.inside.table.calls c.self.inside.serving c.self.inside.served c.self.invariant c.home_of-home.result.0 c.at.result c.in-Some.ticket here c.at.ensures

pub finish-requires-clause-started : goal.finish-requires-clause-started
finish-requires-clause-started c =
    let serves : thread_serving c.self.inside.directory c.self.inside.serving c.args.server.0 ≡ Some c.in-Some.ticket =
    ap (λ (v : CallsView). thread_serving v.config v.serving c.args.server.0) c.self.view_is ∙ (sym c.serving.ensures ∙ c.in-Some.is) in
    let home = ap (λ (b : BoxId). b.0) c.home_of-home.ensures in
    let here : slice_get c.self.inside.serving c.home_of-home.result.0 ≡ Some (Some c.in-Some.ticket) =
    serving_at c.self.inside.directory c.self.inside.serving c.args.server.0 c.home_of-home.result.0 c.in-Some.ticket home serves in
    let parts = served_call c.self.inside.table.calls c.self.inside.serving c.self.inside.served c.self.invariant c.home_of-home.result.0 c.at-found.result.place c.in-Some.ticket c.at-found.result.call here
    (c.at.ensures ∙ ap (λ n. Some n) (sym c.at-found.ensures.place))
    (ap (slice_get c.self.inside.table.calls) c.at-found.ensures.place ∙ c.at-found.ensures.there) in
    parts.0

pub invariant_of-self : goal.invariant_of-self
invariant_of-self c =
    let serves : thread_serving c.self.inside.directory c.self.inside.serving c.args.server.0 ≡ Some c.in-Some.ticket =
    ap (λ (v : CallsView). thread_serving v.config v.serving c.args.server.0) c.self.view_is ∙ (sym c.serving.ensures ∙ c.in-Some.is) in
    let home = ap (λ (b : BoxId). b.0) c.home_of-home.ensures in
    let here : slice_get c.self.inside.serving c.home_of-home.result.0 ≡ Some (Some c.in-Some.ticket) =
    serving_at c.self.inside.directory c.self.inside.serving c.args.server.0 c.home_of-home.result.0 c.in-Some.ticket home serves in
    let there : slice_get c.self.inside.table.calls c.at-found.result.place ≡ Some c.at-found.result.call =
    ap (slice_get c.self.inside.table.calls) c.at-found.ensures.place ∙ c.at-found.ensures.there in
    let parts = served_call c.self.inside.table.calls c.self.inside.serving c.self.inside.served c.self.invariant c.home_of-home.result.0 c.at-found.result.place c.in-Some.ticket c.at-found.result.call here
    (c.at.ensures ∙ ap (λ n. Some n) (sym c.at-found.ensures.place)) there in
    AreServed-finished c.self.inside.table.calls c.self.inside.serving c.self.inside.served c.self.invariant _ _
    c.at-found.result.place c.home_of-home.result.0 c.at-found.result.call (call_in (state.Done c.args.v) c.at-found.result.call)
    there parts.2 c.finish.ensures.place c.put.ensures

pub returns-clause-exact : goal.returns-clause-exact
returns-clause-exact c =
    let serves : thread_serving c.self.inside.directory c.self.inside.serving c.args.server.0 ≡ Some c.in-Some.ticket =
    ap (λ (v : CallsView). thread_serving v.config v.serving c.args.server.0) c.self.view_is ∙ (sym c.serving.ensures ∙ c.in-Some.is) in
    let home = ap (λ (b : BoxId). b.0) c.home_of-home.ensures in
    let here : slice_get c.self.inside.serving c.home_of-home.result.0 ≡ Some (Some c.in-Some.ticket) =
    serving_at c.self.inside.directory c.self.inside.serving c.args.server.0 c.home_of-home.result.0 c.in-Some.ticket home serves in
    let there : slice_get c.self.inside.table.calls c.at-found.result.place ≡ Some c.at-found.result.call =
    ap (slice_get c.self.inside.table.calls) c.at-found.ensures.place ∙ c.at-found.ensures.there in
    let parts = served_call c.self.inside.table.calls c.self.inside.serving c.self.inside.served c.self.invariant c.home_of-home.result.0 c.at-found.result.place c.in-Some.ticket c.at-found.result.call here
    (c.at.ensures ∙ ap (λ n. Some n) (sym c.at-found.ensures.place)) there in
    state_view c.self.inside.directory c.self.inside.table c.finish.new.self c.put.new.self
    (set c.self.inside.serving (home_of c.self.inside.directory c.args.server.0).0 None)
    c.at-found.result.call.ticket c.in-Some.ticket (state.Done c.args.v) c.finish.ensures.exact (sym parts.1)
    (c.put.ensures ∙ ap (λ n. set c.self.inside.serving n None) home)
    ∙ (ap (with_finish (record { config = c.self.inside.directory; calls = c.self.inside.table.calls; serving = c.self.inside.serving; spare = c.self.inside.table.spare }) (home_of c.self.inside.directory c.args.server.0).0 c.args.v) (sym serves)
    ∙ ap (λ (v : CallsView). with_finish v (home_of v.config c.args.server.0).0 c.args.v (thread_serving v.config v.serving c.args.server.0)) c.self.view_is)
