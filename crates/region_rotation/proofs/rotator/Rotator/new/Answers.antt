use Rattle.region_rotation.proofs.Turns.{IsReady-new}
use Rattle.region_rotation.proofs.rotator.Rotator.new.Goals as goal

pub invariant_of-result : goal.invariant_of-result
invariant_of-result c = rw (c.in_ok-homes.ensures, c.new.ensures) (IsReady-new c.args.cfg.now c.requires, c.in_ok-directories.ensures)
