use Rattle.std.proofs.Common.{length}
use Rattle.flat_model.proofs.pages.+write_table.Given as goal

abbrev pub decreases-write_table : goal.decreases-write_table
decreases-write_table l = length l.frames.now
