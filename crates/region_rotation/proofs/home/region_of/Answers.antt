use Rattle.std.proofs.Common.{arith, suc}
use Rattle.std.proofs.lemmas.Nat.{leading_top}
use Rattle.flat_model.proofs.Powers.{smaller}
use Rattle.region_rotation.proofs.home.region_of.Goals as goal

pub overflow_sub-result : goal.overflow_sub-result
overflow_sub-result c =
    let top = leading_top 32 c.args.range.len (omega (arith, c.requires.least)) (omega arith) in
    omega (arith, top.1, smaller 5 (suc top.0) (omega (arith, top.3, c.requires.least)))
