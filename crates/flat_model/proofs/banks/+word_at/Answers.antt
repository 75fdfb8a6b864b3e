use Rattle.std.proofs.Common.{arith}
use Rattle.flat_model.proofs.Widths.{word_below, word_fits}
use Rattle.flat_model.proofs.banks.+word_at.Goals as goal

pub overflow_mul-result : goal.overflow_mul-result
overflow_mul-result t c =
    omega (arith, word_fits c.args.n c.byte_at-low.result c.word_at.result c.requires.small c.byte_at-low.type_inv c.word_at.ensures.bound)

pub overflow_add-result : goal.overflow_add-result
overflow_add-result t c =
    omega (arith, word_fits c.args.n c.byte_at-low.result c.word_at.result c.requires.small c.byte_at-low.type_inv c.word_at.ensures.bound)

pub returns-clause-bound : goal.returns-clause-bound
returns-clause-bound t c =
    word_below c.args.n c.byte_at-low.result c.word_at.result (omega arith) c.byte_at-low.type_inv c.word_at.ensures.bound
