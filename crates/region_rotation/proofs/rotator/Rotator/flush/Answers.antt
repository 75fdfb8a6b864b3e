use Rattle.region_rotation.proofs.Turns.{IsReady-flushed}
use Rattle.region_rotation.proofs.rotator.Rotator.flush.Goals as goal

pub invariant_of-self : goal.invariant_of-self
invariant_of-self c =
    let it = c.self.inside in
    rw c.empty_circle.ensures (IsReady-flushed it.homes.items it.heap it.last it.unit it.circle c.self.invariant.0, c.self.invariant.1)
