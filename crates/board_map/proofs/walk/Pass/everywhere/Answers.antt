use Rattle.std.proofs.Common.{sym, ◌∙◌}
use Rattle.std.proofs.lemmas.Result.{err_from_is_err_and}
use Rattle.board_map.proofs.Walks.{first_stop, first_then, walk_stop, walk_then}
use Rattle.board_map.specs.Shape.{places}
use Rattle.board_map.proofs.walk.Pass.everywhere.Goals as goal

pub returns-in_err-top : goal.returns-in_err-top
unfolding places
returns-in_err-top c =
    let p = err_from_is_err_and c.from_residual.result c.from_residual.ensures.1 in
    rw (p.1, p.2) (sym (first_stop c.args.self c.args.totals _ _ _ (sym c.visit.ensures ∙ c.in_err-top.was)))

pub returns-in_err-board : goal.returns-in_err-board
unfolding places
returns-in_err-board c =
    let seen = rw c.table_at.ensures at c.board.ensures in
    let p = err_from_is_err_and c.from_residual-in_err-board.result c.from_residual-in_err-board.ensures.1 in
    rw (p.1, p.2)
    (sym (first_then c.args.self c.args.totals _ _ _ (sym c.visit.ensures ∙ c.in_ok-top.was)
    ∙ walk_stop c.args.self _ _ _ _ (sym seen ∙ c.in_err-board.was)))

pub returns-in_err-boxes : goal.returns-in_err-boxes
unfolding places
returns-in_err-boxes c =
    let seen = rw c.table_at.ensures at c.board.ensures in
    let boxes = rw c.array_at.ensures at c.boxes.ensures in
    let p = err_from_is_err_and c.from_residual-in_err-boxes.result c.from_residual-in_err-boxes.ensures.1 in
    rw (p.1, p.2)
    (sym (first_then c.args.self c.args.totals _ _ _ (sym c.visit.ensures ∙ c.in_ok-top.was)
    ∙ walk_then c.args.self _ _ _ _ (sym seen ∙ c.in_ok-board.was)
    ∙ walk_stop c.args.self _ _ _ _ (sym boxes ∙ c.in_err-boxes.was)))

pub returns : goal.returns
unfolding places
returns c =
    let seen = rw c.table_at.ensures at c.board.ensures in
    let boxes = rw c.array_at.ensures at c.boxes.ensures in
    c.sections.ensures
    ∙ sym (first_then c.args.self c.args.totals _ _ _ (sym c.visit.ensures ∙ c.in_ok-top.was)
    ∙ walk_then c.args.self _ _ _ _ (sym seen ∙ c.in_ok-board.was)
    ∙ walk_then c.args.self _ _ _ _ (sym boxes ∙ c.in_ok-boxes.was))
