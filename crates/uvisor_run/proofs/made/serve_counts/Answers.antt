use Rattle.uvisor_run.proofs.MakingRuns.{counts_told}
use Rattle.uvisor_run.proofs.made.serve_counts.Goals as goal

pub returns : goal.returns
returns g c =
    counts_told c.args.n c.args.config c.in-Ok.log _ _ _ _ _ c.in-Ok.ensures.legal c.in-Ok.ensures.choices c.answer_counts.ensures
