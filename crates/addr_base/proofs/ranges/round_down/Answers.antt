use Rattle.std.proofs.Common.{arith, sym}
use Rattle.addr_base.proofs.Rounding.{greatest_power, round_down-at, round_down-below}
use Rattle.addr_base.proofs.ranges.round_down.Goals as goal

pub returns-then-len-lt-LEAST-clause-exact : goal.returns-then-len-lt-LEAST-clause-exact
returns-then-len-lt-LEAST-clause-exact c = sym (round_down-below c.args.len c.if-len-lt-LEAST.true)

pub returns-else-len-lt-LEAST-clause-value : goal.returns-else-len-lt-LEAST-clause-value
returns-else-len-lt-LEAST-clause-value c = rw c.power_of.ensures (greatest_power c.args.len c.ilog2.result c.ilog2.ensures.power_le c.ilog2.ensures.next_power_gt)

pub returns-else-len-lt-LEAST-clause-exact : goal.returns-else-len-lt-LEAST-clause-exact
returns-else-len-lt-LEAST-clause-exact c =
    rw c.power_of.ensures (sym (round_down-at c.args.len c.ilog2.result c.if-len-lt-LEAST.false (omega arith) c.ilog2.ensures.power_le c.ilog2.ensures.next_power_gt))
