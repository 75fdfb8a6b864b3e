use Rattle.std.proofs.Common.{sym, ◌∙◌}
use Rattle.std.proofs.lemmas.Result.{err_from_is_err_and}
use Rattle.board_map.proofs.Walks.{first_stop}
use Rattle.board_map.specs.Shape.{box_places}
use Rattle.board_map.proofs.walk.Pass.whole_box.Goals as goal

pub returns-in_err-own : goal.returns-in_err-own
unfolding box_places
returns-in_err-own c =
    let p = err_from_is_err_and c.from_residual.result c.from_residual.ensures.1 in
    rw (p.1, p.2) (sym (first_stop c.args.self c.args.totals _ _ _ (sym c.visit.ensures ∙ c.in_err-own.was)))
