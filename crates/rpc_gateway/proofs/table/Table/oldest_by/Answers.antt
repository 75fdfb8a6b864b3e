use Rattle.std.proofs.Common.{◌&&◌, sym, ap, ◌∙◌}
use Rattle.std.specs.List.{slice_get}
use Rattle.std.specs.Option.{option_and_then}
use Rattle.std.specs.Prelude.{nat_eq}
use Rattle.flat_model.specs.Calls.{is_posted_to}
use Rattle.rpc_gateway.proofs.FindingLemmas.{first-by_pair}
use Rattle.rpc_gateway.proofs.FirstPlaces.{find-first_place}
use Rattle.rpc_gateway.proofs.table.Table.oldest_by.Goals as goal

pub returns-clause-call : goal.returns-clause-call
returns-clause-call c =
    c.found_at.ensures.call
    ∙ (ap (option_and_then (slice_get c.args.self.now.calls))
    (c.first_posted.ensures ∙ first-by_pair c.args.self.now.calls c.args.t.0 c.args.b.0 c.pair_list-pair.result c.pair_list-pair.ensures)
    ∙ sym (find-first_place (λ call. is_posted_to c.args.b.0 call && nat_eq call.ticket.thread.0 c.args.t.0) c.args.self.now.calls))
