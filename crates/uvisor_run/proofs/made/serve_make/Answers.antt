use Rattle.std.proofs.Common.{◌∙◌}
use Rattle.uvisor_run.proofs.MakingRuns.{make_told}
use Rattle.uvisor_run.proofs.made.serve_make.Goals as goal

pub returns : goal.returns
returns g c =
    make_told c.args.n c.as_slice.result.now _ _ _ _ _ (c.as_slice.ensures.value ∙ c.in-Ok.ensures) c.answer_text.ensures
