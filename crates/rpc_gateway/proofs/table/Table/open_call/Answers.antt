use Rattle.std.proofs.Common.{sym, ap, ◌∙◌}
use Rattle.std.specs.List.{slice_get}
use Rattle.std.specs.Option.{option_and_then}
use Rattle.flat_model.specs.Calls.{is_open_call}
use Rattle.rpc_gateway.proofs.FindingLemmas.{first-by_caller}
use Rattle.rpc_gateway.proofs.FirstPlaces.{find-first_place}
use Rattle.rpc_gateway.proofs.table.Table.open_call.Goals as goal

pub returns-clause-call : goal.returns-clause-call
returns-clause-call c =
    c.found_at.ensures.call
    ∙ (ap (option_and_then (slice_get c.args.self.now.calls))
    (c.first_open.ensures ∙ first-by_caller c.args.self.now.calls c.args.ticket c.caller_list-own.result c.caller_list-own.ensures)
    ∙ sym (find-first_place (is_open_call c.args.ticket) c.args.self.now.calls))
