use Rattle.std.proofs.Common.{arith, sym}
use Rattle.addr_base.proofs.Rounding.{least_power, power_fits, round_up-at, round_up-past}
use Rattle.addr_base.proofs.ranges.round_up.Goals as goal

pub returns-then-least-clause-exact : goal.returns-then-least-clause-exact
returns-then-least-clause-exact c = sym (round_up-past c.args.len (omega arith))

pub returns-else-least-clause-value : goal.returns-else-least-clause-value
returns-else-least-clause-value c =
    least_power c.args.len c.max-least.result _ c.max-least.ensures c.next_power_of_two.ensures.power
    c.next_power_of_two.ensures.lower_bound c.next_power_of_two.ensures.upper_bound

pub returns-else-least-clause-exact : goal.returns-else-least-clause-exact
returns-else-least-clause-exact c =
    let least = least_power c.args.len c.max-least.result _ c.max-least.ensures c.next_power_of_two.ensures.power
    c.next_power_of_two.ensures.lower_bound c.next_power_of_two.ensures.upper_bound in
    sym (round_up-at c.args.len _ least (power_fits _ c.next_power_of_two.ensures.power c.next_power_of_two.type_inv))
