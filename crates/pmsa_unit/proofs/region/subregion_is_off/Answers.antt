use Rattle.std.proofs.Common.{◌≡◌, ◌+◌, ◌-◌, ◌*◌, ◌/◌, ◌^◌, ◌<◌, ◌≤◌, ℕ, true, arith, ap}
use Rattle.std.specs.Prelude.{nat_le, nat_lt}
use Rattle.std.proofs.lemmas.Bool.{and_parts, ltb-true}
use Rattle.std.proofs.lemmas.Nat.{div_below, pow_pos, pow-add}
use Rattle.flat_model.specs.Decision.{region_contains, region_len, size_field}
use Rattle.addr_base.specs.declared.pairs.Pair.{Pair}
use Rattle.pmsa_unit.proofs.region.subregion_is_off.Goals as goal

-- an address of a region with subregions is in one with a number below 8
subregion_below : (p : Pair) (a size : ℕ) → region_contains p a ≡ true → size ≡ size_field p → 7 ≤ size → (a - p.rbar) / 2 ^ (size - 2) < 8
subregion_below p a size inside is large =
    let before : a < p.rbar + region_len p = ltb-true a (p.rbar + region_len p) (and_parts (nat_le p.rbar a) (nat_lt a (p.rbar + region_len p)) inside).1 in
    let parts : size_field p + 1 ≡ (size - 2) + 3 = omega arith in
    let eight : region_len p ≡ 8 * 2 ^ (size - 2) = omega (arith, ap (λ k. 2 ^ k) parts, pow-add 2 (size - 2) 3) in
    div_below (a - p.rbar) (2 ^ (size - 2)) 8 (pow_pos (size - 2)) (omega (arith, before, eight, pow_pos (size - 2)))

pub overflow_shr-result : goal.overflow_shr-result
overflow_shr-result c =
    omega (arith, subregion_below c.args.pair c.args.a c.size_of-size.result c.requires c.size_of-size.ensures c.if-size-lt-SUBREGION_SIZE.false)
