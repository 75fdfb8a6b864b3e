use Rattle.std.proofs.Common.{◌≡◌, set, sym, ap, ◌∙◌}
use Rattle.flat_model.specs.declared.states.CallState.TheVariants as state
use Rattle.flat_model.specs.Calls.{is_posted, same_ticket}
use Rattle.rpc_gateway.specs.declared.table.Found.{Found}
use Rattle.rpc_gateway.specs.Table.{call_in}
use Rattle.rpc_gateway.proofs.CallsLemmas.{AreServed-started, oldest_by_parts}
use Rattle.rpc_gateway.proofs.ServedLemmas.{same_ticket-true}
use Rattle.rpc_gateway.proofs.calls.Calls.start.Goals as goal

pub start-requires-clause-posted : goal.start-requires-clause-posted
start-requires-clause-posted c =
    let parts = oldest_by_parts c.args.ticket.thread.0 c.home_of-home.result.0 c.self.inside.table.calls c.in-Some.found.call c.in-Some.ensures.call in
    ap (λ (f : Found). is_posted f.call.state) c.in-Some.found-is ∙ parts.0

pub invariant_of-self : goal.invariant_of-self
invariant_of-self c =
    let parts = oldest_by_parts c.args.ticket.thread.0 c.home_of-home.result.0 c.self.inside.table.calls c.in-Some.found.call c.in-Some.ensures.call in
    let same : c.in-Some.found.call.ticket ≡ c.args.ticket =
    same_ticket-true c.in-Some.found.call.ticket c.args.ticket
    (ap (λ (f : Found). same_ticket f.call.ticket c.args.ticket) (sym c.in-Some.found-is) ∙ sym c.if-eq.ensures) in
    AreServed-started c.self.inside.table.calls c.self.inside.serving c.self.inside.served c.self.invariant _ _ _
    c.in-Some.found.place c.home_of-home.result.0 c.args.ticket c.in-Some.found.call c.in-Some.ensures.there parts.0 parts.1 same
    (c.start.ensures.place ∙ ap (λ (f : Found). set c.self.inside.table.calls f.place (call_in state.Started f.call)) c.in-Some.found-is)
    c.put.ensures
    (c.put-in-Some.ensures ∙ ap (λ (f : Found). set c.self.inside.served c.home_of-home.result.0 f.place) c.in-Some.found-is)
