use Rattle.uvisor_run.proofs.CallOrder.{started-ascending, started-in_order}
use Rattle.uvisor_run.proofs.CallsPassed.{none-passed}
use Rattle.uvisor_run.proofs.call_laws.calls_keep_their_order.Goals as goal

pub returns-clause-order : goal.returns-clause-order
returns-clause-order c = started-in_order

pub returns-clause-none_passed : goal.returns-clause-none_passed
returns-clause-none_passed c = none-passed

pub returns-clause-numbers : goal.returns-clause-numbers
returns-clause-numbers c = started-ascending
