use Rattle.std.proofs.Common.{arith}
use Rattle.std.proofs.lemmas.Nat.{leading_top}
use Rattle.flat_model.proofs.Powers.{smaller}
use Rattle.region_packer.proofs.pages.exponent_of_page.Goals as goal

pub returns-clause-small : goal.returns-clause-small
returns-clause-small c =
    let top = leading_top 32 c.args.page (omega (arith, c.requires.least)) (omega (arith, c.requires.most)) in
    omega (arith, top.1, smaller top.0 17 (omega (arith, top.2, c.requires.most)))
