use Rattle.std.proofs.Common.{sym, ◌∙◌}
use Rattle.uvisor_run.specs.declared.commands.Making.TheVariants.{Make, Tally}
use Rattle.uvisor_run.proofs.MakingRuns.{making_known, no_tally, tallied_same}
use Rattle.uvisor_run.proofs.made.serve_making.Goals as goal

pub returns-in-Make-clause-known : goal.returns-in-Make-clause-known
returns-in-Make-clause-known g c = making_known (Make c.in-Make.n) _ _ _ _ _ c.serve_make.ensures

pub returns-in-Make-clause-tallied : goal.returns-in-Make-clause-tallied
returns-in-Make-clause-tallied g c = λ zero n same. no_tally c.in-Make.n n _ _ (sym c.in-Make.is ∙ same)

pub returns-in-Tally-clause-known : goal.returns-in-Tally-clause-known
returns-in-Tally-clause-known g c = making_known (Tally c.in-Tally.n) _ _ _ _ _ c.serve_tally.ensures.told

pub returns-in-Tally-clause-tallied : goal.returns-in-Tally-clause-tallied
returns-in-Tally-clause-tallied g c = λ zero n same.
    tallied_same c.in-Tally.n n _ _ _ _ c.serve_tally.result (sym c.in-Tally.is ∙ same)
    c.serve_tally.ensures.config c.serve_tally.ensures.told zero
