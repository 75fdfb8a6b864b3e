use Rattle.std.proofs.Common.{◌≡◌, ◌^◌, sym, ◌∙◌, arith, eq-eqb}
use Rattle.std.proofs.lemmas.Bool.{eqb-true}
use Rattle.addr_base.proofs.Rounding.{is_power-told, only_power, zero_is_no_power}
use Rattle.addr_base.proofs.ranges.is_power.Goals as goal

pub returns-then-n-gt0-clause-exact : goal.returns-then-n-gt0-clause-exact
returns-then-n-gt0-clause-exact c = (
  (λ same. (c.ilog2.result, sym (sym c.power_of.ensures ∙ eqb-true _ _ same))),
  (λ power.
      let (j, is) = power in
      let only : 2 ^ j ≡ 2 ^ c.ilog2.result = only_power j c.ilog2.result (rw (← is) c.ilog2.ensures.power_le) (rw (← is) c.ilog2.ensures.next_power_gt) in
      eq-eqb _ _ (c.power_of.ensures ∙ sym only ∙ sym is)),
)

pub returns-then-n-gt0-clause-test : goal.returns-then-n-gt0-clause-test
returns-then-n-gt0-clause-test c =
    is_power-told c.args.n _ (omega arith) (λ same. (c.ilog2.result, sym (sym c.power_of.ensures ∙ eqb-true _ _ same)))
    (λ power.
    let (j, is) = power in
    let only : 2 ^ j ≡ 2 ^ c.ilog2.result = only_power j c.ilog2.result (rw (← is) c.ilog2.ensures.power_le) (rw (← is) c.ilog2.ensures.next_power_gt) in
    eq-eqb _ _ (c.power_of.ensures ∙ sym only ∙ sym is))

pub returns-else-n-gt0-clause-test : goal.returns-else-n-gt0-clause-test
returns-else-n-gt0-clause-test c = let none : c.args.n ≡ 0 = omega arith in rw none (sym zero_is_no_power)
