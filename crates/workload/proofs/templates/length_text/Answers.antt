use Rattle.std.proofs.Common.{◌≡◌, sym, arith, lit<, lit≤}
use Rattle.workload.proofs.Decimals.{three_digits, two_digits}
use Rattle.workload.proofs.templates.length_text.Goals as goal

pub returns-then-drawn-eq0 : goal.returns-then-drawn-eq0
returns-then-drawn-eq0 c = rw c.if-drawn-eq0.true (sym (two_digits 32 (lit≤ tt) (lit< tt) (lit< tt)))

pub returns-then-drawn-eq1 : goal.returns-then-drawn-eq1
returns-then-drawn-eq1 c = rw c.if-drawn-eq1.true (sym (two_digits 64 (lit≤ tt) (lit< tt) (lit< tt)))

pub returns-then-drawn-eq2 : goal.returns-then-drawn-eq2
returns-then-drawn-eq2 c =
    rw c.if-drawn-eq2.true (sym (three_digits 128 49 50 (lit≤ tt) (lit< tt) (two_digits 12 (lit≤ tt) (lit< tt) (lit< tt))))

pub returns-else-drawn-eq2 : goal.returns-else-drawn-eq2
returns-else-drawn-eq2 c =
    let three : c.args.drawn ≡ 3 = omega arith in
    rw three (sym (three_digits 256 50 53 (lit≤ tt) (lit< tt) (two_digits 25 (lit≤ tt) (lit< tt) (lit< tt))))
