use Rattle.std.proofs.Common.{arith}
use Rattle.workload.proofs.Decimals.{decimal_appended}
use Rattle.workload.proofs.tally.+push_number.Goals as goal

pub returns-else-n-lt10-clause-text : goal.returns-else-n-lt10-clause-text
returns-else-n-lt10-clause-text t c =
    decimal_appended c.args.page.now _ _ c.args.n (omega arith) (omega arith) c.push_number.ensures.text c.push_byte-else-n-lt10.ensures.text
