-- One bit of a word, and the word as flags.
use Rattle.std.proofs.Common.{◌≡◌, ◌≢◌, ℕ, zero, suc, ◌+◌, ◌*◌, ◌%◌, ◌^◌, ◌<◌, ◌≤◌, Bool, true, false, ◌&&◌, ◌||◌, nat_eq, ◌∷◌, replicate, min, refl, sym, ap, ◌∙◌, arith, w64, bit_and, bit_or}
use mathlib.Core.Logic.{dite}
use native.Mathlib.Decide.{ℕ_discrete, dec_le}
use Rattle.std.specs.Int.{bit_at, bit_not}
use Rattle.std.specs.List.{slice_set}
use Rattle.std.proofs.lemmas.Bool.{eq-eqb, ne_eqb}
use Rattle.std.proofs.lemmas.Bool.Decides.{nat_tests}
use Rattle.std.proofs.lemmas.Nat.Bits.{bit_at-lt, bit_at-zero, bit_at_above, bit_at_and, bit_at_clear_other, bit_at_clear_same, bit_at_set_other, bit_at_set_same}
use Rattle.flat_model.specs.Interrupts.{is_set}
use Rattle.irq_owner.specs.Bits.{flags, flags_from, has_bit}

-- the word in which this bit alone is set
abbrev pub mask : ℕ → ℕ
mask k = 1 * 2 ^ k % 2 ^ 64

-- ---- one bit changes one flag

module _ (old new j : ℕ) (v : Bool) (here : has_bit new j ≡ v) (others : (i : ℕ) → i ≢ j → has_bit new i ≡ has_bit old i) where
  flags-past : (k n : ℕ) → j < k → flags_from new k n ≡ flags_from old k n
  flags-past k zero past = refl
  flags-past k (suc n) past =
      ap (λ b. b ∷ flags_from new (k + 1) n) (others k (λ same. omega (arith, same)))
      ∙ ap (λ bs. has_bit old k ∷ bs) (flags-past (k + 1) n (omega arith))

  flags-changed : (k n d : ℕ) → j ≡ k + d → flags_from new k n ≡ slice_set (flags_from old k n) d v
  flags-changed k zero d at = refl
  flags-changed k (suc n) zero at =
      let same : k ≡ j = omega (arith, at) in
      ap (λ b. b ∷ flags_from new (k + 1) n) (ap (has_bit new) same ∙ here)
      ∙ ap (λ bs. v ∷ bs) (flags-past (k + 1) n (omega (arith, same)))
  flags-changed k (suc n) (suc d) at =
      ap (λ b. b ∷ flags_from new (k + 1) n) (others k (λ same. omega (arith, same, at)))
      ∙ ap (λ bs. has_bit old k ∷ bs) (flags-changed (k + 1) n d (omega (arith, at)))

pub flags-with : (word k : ℕ) → k < 64 → flags (bit_or word (mask k)) ≡ slice_set (flags word) k true
unfolding flags
flags-with word k within =
    flags-changed word (bit_or word (mask k)) k true
    (ap (λ b. nat_eq b 1) (bit_at_set_same w64 word k within))
    (λ i other. ap (λ b. nat_eq b 1) (bit_at_set_other w64 word k within i other))
    0 64 k (omega arith)

-- the other bits of a word stay where one is cleared
kept-bit : (word k i : ℕ) → word < 2 ^ 64 → k < 64 → i ≢ k → bit_at (bit_and word (bit_not w64 (mask k))) i ≡ bit_at word i
kept-bit word k i small within other = dite (dec_le 64 i)
    (λ above.
    let gone : bit_at word i ≡ 0 = bit_at_above word 64 i small above in
    omega (arith, bit_at_and word (bit_not w64 (mask k)) i, gone))
    (λ below. bit_at_clear_other w64 word k within i (omega arith) other)

pub flags-without : (word k : ℕ) → word < 2 ^ 64 → k < 64 → flags (bit_and word (bit_not w64 (mask k))) ≡ slice_set (flags word) k false
unfolding flags
flags-without word k small within =
    flags-changed word (bit_and word (bit_not w64 (mask k))) k false
    (ap (λ b. nat_eq b 1) (bit_at_clear_same w64 word k within))
    (λ i other. ap (λ b. nat_eq b 1) (kept-bit word k i small within other))
    0 64 k (omega arith)

zeros-from : (k n : ℕ) → flags_from 0 k n ≡ replicate n false
zeros-from k zero = refl
zeros-from k (suc n) =
    ap (λ b. nat_eq b 1 ∷ flags_from 0 (k + 1) n) (bit_at-zero k) ∙ ap (λ bs. false ∷ bs) (zeros-from (k + 1) n)

pub flags-zero : flags 0 ≡ replicate 64 false
unfolding flags
flags-zero = zeros-from 0 64

-- ---- a flag is a bit

set-within : (word k n d : ℕ) → d < n → is_set (flags_from word k n) d ≡ has_bit word (k + d)
set-within word k zero d below = absurd (omega arith)
set-within word k (suc n) zero below = let same : k ≡ k + 0 = omega arith in ap (has_bit word) same
set-within word k (suc n) (suc d) below =
    let same : k + 1 + d ≡ k + suc d = omega arith in
    set-within word (k + 1) n d (omega arith) ∙ ap (has_bit word) same

set-past : (word k n d : ℕ) → n ≤ d → is_set (flags_from word k n) d ≡ false
set-past word k zero d past = refl
set-past word k (suc n) zero past = absurd (omega arith)
set-past word k (suc n) (suc d) past = set-past word (k + 1) n d (omega arith)

pub is_set-flags : (word k : ℕ) → k < 64 → is_set (flags word) k ≡ has_bit word k
unfolding flags
is_set-flags word k within = set-within word 0 64 k within ∙ ap (has_bit word) (let same : 0 + k ≡ k = omega arith in same)

pub is_set-past : (word k : ℕ) → 64 ≤ k → is_set (flags word) k ≡ false
unfolding flags
is_set-past word k past = set-past word 0 64 k past

one-of_both : (x y : ℕ) → x < 2 → y < 2 → nat_eq (min x y) 1 ≡ (nat_eq x 1 && nat_eq y 1)
one-of_both x y a b = grind (arith, nat_tests)

pub has_bit-and : (a b k : ℕ) → has_bit (bit_and a b) k ≡ (has_bit a k && has_bit b k)
has_bit-and a b k =
    ap (λ n. nat_eq n 1) (bit_at_and a b k) ∙ one-of_both (bit_at a k) (bit_at b k) (bit_at-lt a k) (bit_at-lt b k)

pub has_bit-with : (word j k : ℕ) → j < 64 → has_bit (bit_or word (mask j)) k ≡ (nat_eq j k || has_bit word k)
has_bit-with word j k within = dite (ℕ_discrete k j)
    (λ here.
    let set : bit_at (bit_or word (mask j)) j ≡ 1 = bit_at_set_same w64 word j within in
    ap (λ i. has_bit (bit_or word (mask j)) i) here ∙ ap (λ b. nat_eq b 1) set
    ∙ sym (ap (λ b. b || has_bit word k) (eq-eqb j k (sym here))))
    (λ other.
    ap (λ b. nat_eq b 1) (bit_at_set_other w64 word j within k other)
    ∙ sym (ap (λ b. b || has_bit word k) (ne_eqb j k (λ same. other (sym same)))))
