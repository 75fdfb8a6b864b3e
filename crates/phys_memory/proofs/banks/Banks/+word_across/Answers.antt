use Rattle.std.proofs.Common.{arith}
use Rattle.flat_model.proofs.Widths.{word_below, word_fits}
use Rattle.phys_memory.proofs.banks.Banks.+word_across.Goals as goal

pub overflow_mul-result : goal.overflow_mul-result
overflow_mul-result t c =
    omega (arith, word_fits c.args.n c.byte_at-low.result c.word_across.result c.requires.small c.byte_at-low.ensures.small c.word_across.ensures.bound)

pub overflow_add-result : goal.overflow_add-result
overflow_add-result t c =
    omega (arith, word_fits c.args.n c.byte_at-low.result c.word_across.result c.requires.small c.byte_at-low.ensures.small c.word_across.ensures.bound)

pub returns-clause-bound : goal.returns-clause-bound
returns-clause-bound t c =
    word_below c.args.n c.byte_at-low.result c.word_across.result (omega arith) c.byte_at-low.ensures.small c.word_across.ensures.bound
