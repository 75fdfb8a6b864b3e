use Rattle.std.proofs.Common.{arith}
use Rattle.run_log.proofs.DecimalLemmas.{decimal_appended}
use Rattle.run_log.proofs.page.Page.+push_digits.Goals as goal

pub returns-else-n-lt10-clause-text : goal.returns-else-n-lt10-clause-text
returns-else-n-lt10-clause-text t c =
    decimal_appended c.args.self.now _ _ c.args.n (omega arith) (omega arith) c.push_digits.ensures.text c.push_byte-else-n-lt10.ensures.text
