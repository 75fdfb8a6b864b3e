use Rattle.std.proofs.Common.{arith}
use Rattle.run_log.proofs.NumberLemmas.{capped_more}
use Rattle.run_log.proofs.words.number_of.Goals as goal

pub loop-b-preserved : goal.loop-b-preserved
loop-b-preserved c = record {
  capped = omega arith;
  value =
      rw (c.min-value.ensures, c.from.ensures, c.digit_of.ensures)
      (capped_more 4294967295 c.args.radix c.loop-b.value _ c.args.word.now c.loop-b.b-index (omega arith) c.loop-b-test.true c.loop-b.invariant.value);
}
