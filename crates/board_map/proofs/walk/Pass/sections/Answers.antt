use Rattle.std.proofs.Common.{sym, ◌∙◌}
use Rattle.std.proofs.lemmas.Result.{err_from_is_err_and}
use Rattle.board_map.proofs.Walks.{sections_end, sections_more}
use Rattle.board_map.proofs.walk.Pass.sections.Goals as goal

pub returns-in_err-totals : goal.returns-in_err-totals
returns-in_err-totals c =
    let seen = rw (c.array_at-items.ensures, c.array_key.ensures) at c.leaves.ensures in
    let step = sections_more c.args.self c.loop-form.totals c.args.at_box _ c.args.forms.now c.loop-form.form-index _ c.leaves.result c.loop-form-test.true seen in
    let p = err_from_is_err_and c.from_residual.result c.from_residual.ensures.1 in
    rw (p.1, p.2) (sym (rw c.in_err-totals.was at step) ∙ c.loop-form.invariant)

pub loop-form-preserved : goal.loop-form-preserved
loop-form-preserved c =
    let seen = rw (c.array_at-items.ensures, c.array_key.ensures) at c.leaves.ensures in
    let step = sections_more c.args.self c.loop-form.totals c.args.at_box _ c.args.forms.now c.loop-form.form-index _ c.leaves.result c.loop-form-test.true seen in
    sym (rw c.in_ok-totals.was at step) ∙ c.loop-form.invariant

pub returns : goal.returns
returns c = sym (sections_end c.args.self c.loop-form.totals c.args.at_box _ c.args.forms.now c.loop-form.form-index c.loop-form-test.false) ∙ c.loop-form.invariant
