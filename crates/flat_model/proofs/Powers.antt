-- Powers of two that divide a number.
use Rattle.std.proofs.Common.{◌≡◌, ℕ, ◌+◌, ◌-◌, ◌*◌, ◌/◌, ◌%◌, ◌^◌, ◌<◌, ◌≤◌, sym, ◌∙◌, ap, subst, arith, inl, inr, ◌⊎◌}
use Rattle.std.proofs.lemmas.Bool.{cases_lt}
use Rattle.std.proofs.lemmas.Nat.{pow_pos, pow-add, mod-pow-add, pow_below}
use Rattle.std.proofs.Math.Nat.{add-mod_right, add-div_right}

-- the next power is twice this one
pub double : (k : ℕ) → 2 ^ (k + 1) ≡ 2 * 2 ^ k
double k = omega (arith, pow-add 2 k 1)

-- a lesser power divides what a greater one divides
pub divides_less : (j d p : ℕ) → p % 2 ^ (d + j) ≡ 0 → p % 2 ^ j ≡ 0
divides_less j d p whole = omega (arith, mod-pow-add p d j, whole)

-- the same of two exponents in order
pub divides_below : (j k p : ℕ) → j ≤ k → p % 2 ^ k ≡ 0 → p % 2 ^ j ≡ 0
divides_below j k p less whole =
    let parts : k ≡ (k - j) + j = omega arith in
    divides_less j (k - j) p (subst (λ m. p % 2 ^ m ≡ 0) parts whole)

-- a lesser power has a lesser exponent
pub smaller : (j k : ℕ) → 2 ^ j < 2 ^ k → j < k
smaller j k less = elim (cases_lt j k) [
  | inl below ↦ below
  | inr above ↦ elim (cases_lt k j) [
    | inl more ↦ absurd (omega (arith, pow_below k j more))
    | inr same ↦ let one : j ≡ k = omega arith in absurd (omega (arith, ap (λ m. 2 ^ m) one))
  ]
]

-- an exponent of at least 5 makes at least 32
pub at_least_32 : (k : ℕ) → 5 ≤ k → 32 ≤ 2 ^ k
at_least_32 k enough =
    let parts : k ≡ (k - 5) + 5 = omega arith in
    subst (λ m. 32 ≤ 2 ^ m) (sym parts) (omega (arith, pow-add 2 (k - 5) 5, pow_pos (k - 5)))

-- a multiple and its power make a multiple
pub divides_next : (k p : ℕ) → p % 2 ^ k ≡ 0 → (p + 2 ^ k) % 2 ^ k ≡ 0
divides_next k p whole = add-mod_right p (2 ^ k) ∙ whole

even_or_odd : (q : ℕ) → (q % 2 ≡ 0) ⊎ (q % 2 ≡ 1)
even_or_odd q = elim (cases_lt (q % 2) 1) [ inl low ↦ inl (omega arith) | inr high ↦ inr (omega arith) ]

even_zero : (q k r : ℕ) → q % 2 ≡ 0 → r ≡ 0 → (q % 2) * k + r ≡ 0
even_zero q k r even none = rw (even, none) (omega arith)

-- what the power divides and its double doesn't is an odd multiple
pub divides_double : (k p : ℕ) → p % 2 ^ k ≡ 0 → (p % 2 ^ (k + 1) ≡ 0 → ⊥) → (p + 2 ^ k) % 2 ^ (k + 1) ≡ 0
divides_double k p whole odd =
    let step : 1 + k ≡ k + 1 = omega arith in
    let before : p % 2 ^ (k + 1) ≡ (p / 2 ^ k % 2) * 2 ^ k + p % 2 ^ k =
    subst (λ m. p % 2 ^ m ≡ (p / 2 ^ k % 2) * 2 ^ k + p % 2 ^ k) step (mod-pow-add p 1 k) in
    let after : (p + 2 ^ k) % 2 ^ (k + 1) ≡ ((p + 2 ^ k) / 2 ^ k % 2) * 2 ^ k + (p + 2 ^ k) % 2 ^ k =
    subst (λ m. (p + 2 ^ k) % 2 ^ m ≡ ((p + 2 ^ k) / 2 ^ k % 2) * 2 ^ k + (p + 2 ^ k) % 2 ^ k) step (mod-pow-add (p + 2 ^ k) 1 k) in
    elim (even_or_odd (p / 2 ^ k)) [
      | inl even ↦ absurd (odd (before ∙ even_zero (p / 2 ^ k) (2 ^ k) (p % 2 ^ k) even whole))
      | inr other ↦ after ∙ even_zero ((p + 2 ^ k) / 2 ^ k) (2 ^ k) ((p + 2 ^ k) % 2 ^ k)
          (omega (arith, other, add-div_right p {k = 2 ^ k} (pow_pos k))) (divides_next k p whole)
    ]
