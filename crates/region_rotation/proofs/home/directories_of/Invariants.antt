use Rattle.region_rotation.proofs.Answering.{IsListed}
use Rattle.region_rotation.proofs.home.directories_of.Given as goal

abbrev pub invariant-loop-part : goal.invariant-loop-part
invariant-loop-part l = IsListed l.part-items l.directories.items l.part-index
