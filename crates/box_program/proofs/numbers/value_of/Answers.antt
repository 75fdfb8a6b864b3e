use Rattle.std.proofs.Common.{arith}
use Rattle.box_program.proofs.Capped.{capped_digit_more, all_digits_more}
use Rattle.box_program.proofs.numbers.value_of.Goals as goal

pub loop-c-preserved : goal.loop-c-preserved
loop-c-preserved c =
    let kept = c.loop-c.invariant in
    record {
      digits = all_digits_more c.args.radix c.args.digits.now c.loop-c.c-index _ c.loop-c-test.true (rw c.from.ensures at c.in_ok-digit.ensures.value.0) kept.digits;
      capped = omega arith;
      value =
          let digit = rw c.from.ensures at c.in_ok-digit.ensures.value.1 in
          let more = capped_digit_more 4294967296 c.args.radix c.loop-c.value _ c.args.digits.now c.loop-c.c-index (omega arith) c.loop-c-test.true kept.value in
          rw (c.min-value.ensures, c.from-in-loop-c.ensures, c.from-in-loop-c-2.ensures, digit) more;
    }
