-- A set of at most eight boxes has no box with a greater number.
use Rattle.std.proofs.Common.{◌≡◌, ℕ, ◌<◌, ◌≤◌, ◌^◌, ◌/◌, false, refl, arith}
use Rattle.std.proofs.Math.Nat.{div-eq_of_lt, pow-le-pow_right}
use Rattle.flat_model.specs.Registers.{has_box}

pub no_box_past : (boxes b : ℕ) → boxes < 2 ^ 8 → 8 ≤ b → has_box boxes b ≡ false
no_box_past boxes b few past =
    let wide : 2 ^ 8 ≤ 2 ^ b = pow-le-pow_right (omega arith) past in
    let none : boxes / 2 ^ b ≡ 0 = div-eq_of_lt (omega arith) in
    rw none refl
