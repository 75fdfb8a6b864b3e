use Rattle.std.proofs.Common.{arith}
use Rattle.machine_core.proofs.machine.no_ends.Goals as goal

pub returns : goal.returns
returns c = record {
  none = c.in_ok-ends.ensures.items;
  room = omega (arith, c.len-threads.ensures, c.in_ok-ends.ensures.exact);
}
