use Rattle.std.proofs.Common.{sym, ◌∙◌}
use Rattle.std.proofs.lemmas.Result.{err_from_is_err_and}
use Rattle.board_map.proofs.Walks.{boxes_end, boxes_more}
use Rattle.board_map.proofs.walk.Pass.boxes.Goals as goal

pub returns-in_err-totals : goal.returns-in_err-totals
returns-in_err-totals c =
    let seen = rw (c.number.ensures, c.as_table.ensures) at c.one_box.ensures in
    let step = boxes_more c.args.self c.loop-i.totals c.loop-i.i c.args.items.now c.index-items-i.result c.one_box.result c.loop-i-test.true c.index-items-i.is seen in
    let p = err_from_is_err_and c.from_residual.result c.from_residual.ensures.1 in
    rw (p.1, p.2) (sym (rw c.in_err-totals.was at step) ∙ c.loop-i.invariant)

pub loop-i-preserved : goal.loop-i-preserved
loop-i-preserved c =
    let seen = rw (c.number.ensures, c.as_table.ensures) at c.one_box.ensures in
    let step = boxes_more c.args.self c.loop-i.totals c.loop-i.i c.args.items.now c.index-items-i.result c.one_box.result c.loop-i-test.true c.index-items-i.is seen in
    sym (rw c.in_ok-totals.was at step) ∙ c.loop-i.invariant

pub returns : goal.returns
returns c = sym (boxes_end c.args.self c.loop-i.totals c.loop-i.i c.args.items.now c.loop-i-test.false) ∙ c.loop-i.invariant
