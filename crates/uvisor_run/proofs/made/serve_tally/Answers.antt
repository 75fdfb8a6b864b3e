use Rattle.std.proofs.Common.{◌∙◌}
use Rattle.uvisor_run.proofs.made.serve_tally.Goals as goal

pub serve_made-requires : goal.serve_made-requires
serve_made-requires g c = c.as_slice.ensures.value ∙ c.in-Ok.ensures
