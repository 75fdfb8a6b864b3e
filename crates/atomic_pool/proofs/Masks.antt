-- Words that differ from another in one bit.
use Rattle.std.proofs.Common.{◌≡◌, ◌≢◌, ℕ, ◌-◌, ◌*◌, ◌%◌, ◌^◌, ◌<◌, ap, sym, ◌∙◌, arith, bit_and, w64, mod-eq_of_lt, one-mul}
use mathlib.Core.Logic.{dite}
use native.Mathlib.Decide.{ℕ_discrete, dec_le}
use Rattle.std.specs.Int.{bit_at, bit_not}
use Rattle.std.proofs.lemmas.Nat.{pow_below, mod_below}
use Rattle.std.proofs.lemmas.Nat.Bits.{bit_at-pow_same, bit_at-pow_other, bit_at_and, bit_at_above, bit_at_clear_same, bit_at_clear_other, same_from_bits}
use Rattle.atomic_pool.specs.Bits.{mask}

pub mask_is : (k : ℕ) → k < 64 → mask k ≡ 2 ^ k
mask_is k within =
    let small : 2 ^ k < 2 ^ 64 = pow_below k 64 within in
    ap (λ n. n % 2 ^ 64) (one-mul (2 ^ k)) ∙ mod-eq_of_lt small

-- a mask tells its bit
pub mask_same : (k l : ℕ) → k < 64 → l < 64 → mask k ≡ mask l → l ≡ k
mask_same k l k_in l_in e = dite (ℕ_discrete l k) (λ same. same)
    (λ other.
    let powers : 2 ^ k ≡ 2 ^ l = sym (mask_is k k_in) ∙ (e ∙ mask_is l l_in) in
    let here : bit_at (2 ^ l) l ≡ 1 = bit_at-pow_same l in
    let there : bit_at (2 ^ k) l ≡ 0 = bit_at-pow_other k l other in
    let same : bit_at (2 ^ k) l ≡ bit_at (2 ^ l) l = ap (λ n. bit_at n l) powers in
    absurd (omega (arith, here, there, same)))

-- and so does the word with that bit alone clear
pub not_mask_same : (k l : ℕ) → k < 64 → l < 64 → bit_not w64 (mask k) ≡ bit_not w64 (mask l) → l ≡ k
not_mask_same k l k_in l_in e =
    let a : mask k < 2 ^ 64 = mod_below (1 * 2 ^ k) (2 ^ 64) (omega arith) in
    let b : mask l < 2 ^ 64 = mod_below (1 * 2 ^ l) (2 ^ 64) (omega arith) in
    mask_same k l k_in l_in (apart (mask k) (mask l) a b e)
  where
    apart : (x y : ℕ) → x < 2 ^ 64 → y < 2 ^ 64 → 2 ^ 64 - 1 - x ≡ 2 ^ 64 - 1 - y → x ≡ y
    apart x y a b e = omega arith

pub bit_cleared : (n k : ℕ) → k < 64 → bit_at (bit_and n (bit_not w64 (mask k))) k ≡ 0
bit_cleared n k within = bit_at_clear_same w64 n k within

pub bit_kept : (n k i : ℕ) → n < 2 ^ 64 → k < 64 → i ≢ k → bit_at (bit_and n (bit_not w64 (mask k))) i ≡ bit_at n i
bit_kept n k i small within other = dite (dec_le 64 i)
    (λ above.
    let gone : bit_at n i ≡ 0 = bit_at_above n 64 i small above in
    omega (arith, bit_at_and n (bit_not w64 (mask k)) i, gone))
    (λ below. bit_at_clear_other w64 n k within i (omega arith) other)

-- a word without the bit stays as it is where the bit is cleared
pub cleared_again : (n k : ℕ) → n < 2 ^ 64 → k < 64 → bit_at n k ≡ 0 → bit_and n (bit_not w64 (mask k)) ≡ n
cleared_again n k small within clear = same_from_bits _ _ (λ i. dite (ℕ_discrete i k)
    (λ here. ap (bit_at (bit_and n (bit_not w64 (mask k)))) here ∙ (bit_cleared n k within ∙ (sym clear ∙ ap (bit_at n) (sym here))))
    (λ other. bit_kept n k i small within other))
