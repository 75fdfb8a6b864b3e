use Rattle.std.proofs.Common.{arith}
use Rattle.box_program.proofs.DecimalLemmas.{decimal_appended}
use Rattle.box_program.proofs.spelling.+push_decimal.Goals as goal

pub returns-else-n-lt10-clause-text : goal.returns-else-n-lt10-clause-text
returns-else-n-lt10-clause-text t c =
    decimal_appended c.args.out.now.bytes _ _ c.args.n (omega arith) (omega arith) c.push_decimal.ensures.text c.push_byte-else-n-lt10.ensures.text
