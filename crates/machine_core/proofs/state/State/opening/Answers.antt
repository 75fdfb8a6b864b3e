use Rattle.machine_core.proofs.OpeningLemmas.{opened-is, opened-kept, opened-same}
use Rattle.machine_core.proofs.state.State.opening.Goals as goal

pub invariant_of-result : goal.invariant_of-result
invariant_of-result c = (
  opened-same c.args.cfg.now c.in_ok-kernel.kernel c.in_ok-threads.threads c.in_ok-unit.unit
      c.in_ok-kernel.ensures c.in_ok-threads.ensures c.in_ok-unit.ensures,
  opened-kept c.args.cfg.now c.in_ok-kernel.kernel c.in_ok-threads.threads c.in_ok-unit.unit
      c.in_ok-kernel.ensures c.in_ok-threads.ensures c.in_ok-unit.ensures c.requires,
)

pub returns : goal.returns
returns c =
    opened-is c.args.cfg.now c.in_ok-kernel.kernel c.in_ok-threads.threads c.in_ok-unit.unit
    c.in_ok-kernel.ensures c.in_ok-threads.ensures c.in_ok-unit.ensures
