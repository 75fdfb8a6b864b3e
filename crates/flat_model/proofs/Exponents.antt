-- The exponent of the largest block by what a processor counts: zeros below and above.
use Rattle.std.proofs.Common.{◌≡◌, ℕ, zero, suc, ◌+◌, ◌-◌, ◌*◌, ◌/◌, ◌%◌, ◌^◌, ◌<◌, ◌≤◌, sym, ◌∙◌, subst, arith, inl, inr, min}
use Rattle.std.specs.Int.{w32, bit_at, leading_zeros, trailing_zeros}
use Rattle.std.specs.Int.Count.{trailing_of_zero}
use Rattle.std.proofs.lemmas.Bool.{cases_lt, cases_order}
use Rattle.std.proofs.lemmas.Nat.{leading_top, mod-pow-add, pow_pos}
use Rattle.std.proofs.lemmas.Nat.Bits.{bit_at-trailing_zeros}
use Rattle.std.proofs.Math.Nat.{mod-one, pow-le-pow_right, zero-mod}
use Rattle.flat_model.specs.Cover.{exponent}
use Rattle.flat_model.proofs.Blocks.{IsLargest, IsLargest-exponent, IsSpan}
use Rattle.flat_model.proofs.Powers.{divides_below, smaller}

-- two exponents of the largest block are one
pub IsLargest_same : (p e j k : ℕ) → IsLargest p e j → IsLargest p e k → j ≡ k
IsLargest_same p e j k first second = elim (cases_order j k) [
  | inl same ↦ same
  | inr rest ↦ elim rest [
    | inl less ↦ absurd (first.largest k less second.whole second.within)
    | inr more ↦ absurd (second.largest j more first.whole first.within)
  ]
]

-- a number whose low bits are 0 is a multiple of their power
low_zero : (n t : ℕ) → ((i : ℕ) → i < t → bit_at n i ≡ 0) → n % 2 ^ t ≡ 0
low_zero n zero none = mod-one n
low_zero n (suc t) none =
    let below : n % 2 ^ t ≡ 0 = low_zero n t (λ i less. none i (omega arith)) in
    let step : 1 + t ≡ suc t = omega arith in
    let here : n / 2 ^ t % 2 ≡ 0 = none t (omega arith) in
    subst (λ m. n % 2 ^ m ≡ (n / 2 ^ t % 2) * 2 ^ t + n % 2 ^ t) step (mod-pow-add n 1 t)
    ∙ rw (here, below) (omega arith)

-- a number whose bit t is 1 is no multiple of the next power
next_one : (n t : ℕ) → bit_at n t ≡ 1 → n % 2 ^ (1 + t) ≡ 0 → ⊥
next_one n t one whole =
    let parts : n % 2 ^ (1 + t) ≡ (n / 2 ^ t % 2) * 2 ^ t + n % 2 ^ t = mod-pow-add n 1 t in
    let sum : n % 2 ^ (1 + t) ≡ 1 * 2 ^ t + n % 2 ^ t = subst (λ q. n % 2 ^ (1 + t) ≡ q * 2 ^ t + n % 2 ^ t) one parts in
    absurd (omega (arith, whole, sum, pow_pos t))

-- the powers that divide a number below 2 ^ 32 are those up to its trailing zeros
record HasZeros (p t : ℕ) : Type 0 where
  least : (k : ℕ) → k ≤ t → p % 2 ^ k ≡ 0
  most : (k : ℕ) → k < 32 → t < k → p % 2 ^ k ≡ 0 → ⊥

HasZeros-trailing : (p : ℕ) → p < 2 ^ 32 → HasZeros p (trailing_zeros w32 p)
HasZeros-trailing p below = elim (cases_lt 0 p) [
  | inl some ↦
      let it = bit_at-trailing_zeros w32 p some below in
      record {
        least = λ k up_to. divides_below k (trailing_zeros w32 p) p up_to (low_zero p (trailing_zeros w32 p) it.2);
        most = λ k limit more whole. next_one p (trailing_zeros w32 p) it.1 (divides_below (1 + trailing_zeros w32 p) k p (omega arith) whole);
      }
  | inr none ↦
      let empty : p ≡ 0 = omega arith in
      subst (λ n. HasZeros n (trailing_zeros w32 n)) (sym empty) (record {
        least = λ k up_to. zero-mod (2 ^ k);
        most = λ k limit more whole. absurd (omega (arith, trailing_of_zero 32));
      })
]

-- The lesser of the two counts is the exponent of the largest block.
pub exponent-is : (p e k : ℕ) → IsSpan p e → p < e → k ≡ min (trailing_zeros w32 p) (31 - leading_zeros w32 (e - p)) → k ≡ exponent p e
exponent-is p e k span before is =
    IsLargest_same p e k (exponent p e) (largest (leading_top 32 (e - p) (omega arith) (omega (arith, span.limit))) (HasZeros-trailing p (omega (arith, span.limit)))) (IsLargest-exponent p e span before)
  where
    largest : ((j : ℕ) × (leading_zeros w32 (e - p) + suc j ≡ 32) × (2 ^ j ≤ e - p) × (e - p < 2 ^ suc j)) → HasZeros p (trailing_zeros w32 p) → IsLargest p e k
    largest top zeros =
        let t : ℕ = trailing_zeros w32 p in
        let j : ℕ = top.0 in
        let counted : 31 - leading_zeros w32 (e - p) ≡ j = omega (arith, top.1) in
        let lesser : k ≡ min t j = subst (λ m. k ≡ min t m) counted is in
        let by_low : k ≤ t = omega arith in
        let by_high : k ≤ j = omega arith in
        let top_limit : j < 32 = omega (arith, top.1) in
        let room : 32 ≤ e - p = omega (arith, span.low, span.high) in
        let high_enough : 5 < suc j = smaller 5 (suc j) (omega (arith, top.3)) in
        let low_enough : 5 ≤ t = elim (cases_lt t 5) [
          | inl few ↦ absurd (zeros.most 5 (omega arith) few span.low)
          | inr fine ↦ fine
        ] in
        let small : 2 ^ k ≤ 2 ^ j = pow-le-pow_right (omega arith) {i = k} {j = j} by_high in
        record {
          enough = omega arith;
          limit = omega arith;
          whole = zeros.least k by_low;
          within = omega (arith, small, top.2);
          largest = λ i more whole within.
              let below : i < suc j = smaller i (suc j) (omega (arith, top.3)) in
              zeros.most i (omega arith) (omega arith) whole;
        }
