use Rattle.std.proofs.Common.{◌+◌, ◌^◌, ◌≤◌, arith, subst, sym}
use Rattle.flat_model.proofs.Blocks.{IsLargest-exponent, IsSpan}
use Rattle.flat_model.proofs.Exponents.{exponent-is}
use Rattle.region_packer.proofs.blocks.exponent_at.Goals as goal

pub returns-clause-exact : goal.returns-clause-exact
returns-clause-exact c =
    let span : IsSpan c.args.at c.args.end = record { low = c.requires.at; high = c.requires.end; limit = omega arith } in
    exponent-is c.args.at c.args.end c.min.result span c.requires.before c.min.ensures

pub returns-clause-least : goal.returns-clause-least
returns-clause-least c =
    let span : IsSpan c.args.at c.args.end = record { low = c.requires.at; high = c.requires.end; limit = omega arith } in
    let exact = exponent-is c.args.at c.args.end c.min.result span c.requires.before c.min.ensures in
    omega (arith, exact, (IsLargest-exponent c.args.at c.args.end span c.requires.before).enough)

pub returns-clause-ends : goal.returns-clause-ends
returns-clause-ends c =
    let span : IsSpan c.args.at c.args.end = record { low = c.requires.at; high = c.requires.end; limit = omega arith } in
    let exact = exponent-is c.args.at c.args.end c.min.result span c.requires.before c.min.ensures in
    subst (λ k. c.args.at + 2 ^ k ≤ c.args.end) (sym exact) (IsLargest-exponent c.args.at c.args.end span c.requires.before).within
