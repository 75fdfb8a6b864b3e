use Rattle.std.proofs.Common.{sym, ap, ◌∙◌}
use Rattle.std.specs.List.{slice_get}
use Rattle.std.specs.Option.{option_and_then}
use Rattle.flat_model.specs.Calls.{is_posted_to}
use Rattle.rpc_gateway.proofs.FirstPlaces.{find-first_place}
use Rattle.rpc_gateway.proofs.table.Table.oldest.Goals as goal

pub returns : goal.returns
returns c =
    c.found_at.ensures.call
    ∙ (ap (option_and_then (slice_get c.args.self.now.calls)) c.oldest_place.ensures
    ∙ sym (find-first_place (is_posted_to c.args.b.0) c.args.self.now.calls))
