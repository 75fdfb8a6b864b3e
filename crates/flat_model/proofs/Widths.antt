-- How large a word of some bytes is.
use Rattle.std.proofs.Common.{◌≡◌, ℕ, zero, suc, ◌+◌, ◌-◌, ◌*◌, ◌^◌, ◌<◌, ◌≤◌, subst, arith}
use Rattle.std.proofs.Math.Nat.{pow-succ'}

-- the powers of 256 up to the third
power_small : (m : ℕ) → m ≤ 3 → 256 ^ m ≤ 2 ^ 24
power_small zero small = omega arith
power_small (suc zero) small = omega arith
power_small (suc (suc zero)) small = omega arith
power_small (suc (suc (suc zero))) small = omega arith
power_small (suc (suc (suc (suc m)))) small = absurd (omega arith)

step_of : (m low rest : ℕ) → low < 256 → rest < 256 ^ m → low + 256 * rest < 256 ^ suc m
step_of m low rest below within = rw (pow-succ' 256 m) (omega arith)

-- a byte and a word of one byte less make a word
pub word_below : (n low rest : ℕ) → 1 ≤ n → low < 256 → rest < 256 ^ (n - 1) → low + 256 * rest < 256 ^ n
word_below zero low rest some below within = absurd (omega arith)
word_below (suc m) low rest some below within =
    let parts : suc m - 1 ≡ m = omega arith in
    step_of m low rest below (subst (λ k. rest < 256 ^ k) parts within)

-- a byte and a word of up to three bytes are below 2 ^ 32
pub word_fits : (n low rest : ℕ) → n ≤ 4 → low < 256 → rest < 256 ^ (n - 1) → low + 256 * rest < 2 ^ 32
word_fits n low rest small below within = omega (arith, power_small (n - 1) (omega arith))
