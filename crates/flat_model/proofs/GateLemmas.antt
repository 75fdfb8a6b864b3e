-- Gateways: what a set of boxes says of a box that is not there.
use Rattle.std.proofs.Common.{◌≡◌, ℕ, ◌/◌, ◌%◌, ◌^◌, ◌<◌, ◌≤◌, false, ap, arith, nat_eq}
use Rattle.std.proofs.Math.Nat.{div-eq_of_lt}
use Rattle.std.proofs.Math.Pow.{pow_mono}
use Rattle.flat_model.specs.Registers.{has_box}

-- a byte has no bit above the seventh
pub past_boxes : (boxes b : ℕ) → boxes < 256 → 8 ≤ b → has_box boxes b ≡ false
past_boxes boxes b small past =
    let wide : 2 ^ 8 ≤ 2 ^ b = pow_mono past in
    let none : boxes / 2 ^ b ≡ 0 = div-eq_of_lt (omega (arith, small, wide)) in
    ap (λ n. nat_eq (n % 2) 1) none
