use Rattle.std.proofs.Common.{refl, ap, ◌∙◌}
use Rattle.addr_base.specs.declared.identity.Ticket.{Ticket}
use Rattle.flat_model.specs.declared.events.Collected.TheVariants as got
use Rattle.flat_model.specs.declared.states.CallState.TheVariants as state
use Rattle.rpc_gateway.specs.Calls.{CallsView, with_answer}
use Rattle.rpc_gateway.specs.Table.{call_in, is_done}
use Rattle.rpc_gateway.proofs.CallsLemmas.{found_ticket, state_view}
use Rattle.rpc_gateway.proofs.ServedLemmas.{AreServed-changed, AreServed-same}
use Rattle.rpc_gateway.proofs.TableLemmas.{done_open}
use Rattle.rpc_gateway.proofs.calls.Calls.collect.Goals as goal

pub invariant_of-self : goal.invariant_of-self
invariant_of-self c =
    let done = done_open c.in-Some.found.call.state (ap is_done c.in-Done.is) in
    AreServed-same _ _ _ _ _ _ c.collect.ensures.place refl refl
    (AreServed-changed c.self.inside.table.calls c.self.inside.serving c.self.inside.served c.self.invariant
    c.in-Some.found.place c.in-Some.found.call (call_in state.Collected c.in-Some.found.call) c.in-Some.ensures.there done.2)

pub returns-in-Done-clause-exact : goal.returns-in-Done-clause-exact
returns-in-Done-clause-exact c =
    let asked : Ticket = record { thread = c.args.t; seq = c.args.seq } in
    state_view c.self.inside.directory c.self.inside.table c.collect.new.self c.self.inside.serving c.self.inside.serving
    c.in-Some.found.call.ticket asked state.Collected c.collect.ensures.exact
    (found_ticket asked c.self.inside.table.calls c.in-Some.found.call c.in-Some.ensures.call) refl
    ∙ ap (λ (v : CallsView). with_answer v asked (got.Done c.in-Done.value)) c.self.view_is
