use Rattle.std.proofs.Common.{length}
use Rattle.flat_model.proofs.pages.+blank_pages.Given as goal

abbrev pub decreases-blank_pages : goal.decreases-blank_pages
decreases-blank_pages l = length l.frames.now
