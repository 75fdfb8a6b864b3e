use Rattle.std.proofs.Common.{length}
use Rattle.flat_model.proofs.pages.+give_frames.Given as goal

abbrev pub decreases-give_frames : goal.decreases-give_frames
decreases-give_frames l = length l.frames.now
