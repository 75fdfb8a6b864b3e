-- Reading digits with a cap gives the capped number, and what is printed of a number reads as that number.
use Rattle.std.proofs.Common.{◌≡◌, ℕ, zero, suc, ◌+◌, ◌*◌, ◌/◌, ◌%◌, ◌^◌, ◌<◌, ◌≤◌, min, List, [], ◌∷◌, ◌++◌, length, get_or, drop, refl, sym, ◌∙◌, arith, inl, inr}
use Rattle.std.specs.Fmt.{decimal}
use Rattle.std.proofs.lemmas.Bool.{cases_lt}
use Rattle.std.proofs.lemmas.Bool.Decides.{nat_tests}
use Rattle.std.proofs.lemmas.Fmt.{decimal_by_steps}
use Rattle.std.proofs.lemmas.List.{at_drop_more}
use Rattle.std.proofs.Math.Nat.{mul-le-mul_left, pow-suc}
use Rattle.flat_model.specs.Text.{hex_digit, hex_digits, hex_word}
use Rattle.run_log.specs.LineWords.{digit_of, number_after, number_of, small_of}

one_more : (radix n digit : ℕ) → 1 ≤ radix → n ≤ n * radix + digit
one_more radix n digit h = let p : n * 1 ≤ n * radix = mul-le-mul_left n h in omega arith

number_after_ge : (radix n : ℕ) (bs : List ℕ) → 1 ≤ radix → n ≤ number_after radix n bs
number_after_ge radix n [] h = omega arith
number_after_ge radix n (b ∷ bs) h =
    let first : n ≤ n * radix + digit_of b = one_more radix n (digit_of b) h in
    let more : n * radix + digit_of b ≤ number_after radix (n * radix + digit_of b) bs = number_after_ge radix (n * radix + digit_of b) bs h in
    omega (arith, first, more)

capped : (cap radix n : ℕ) (bs : List ℕ) → 1 ≤ radix → min (number_after radix (min n cap) bs) cap ≡ min (number_after radix n bs) cap
capped cap radix n bs h =
    elim (cases_lt n cap) as (λ _. min (number_after radix (min n cap) bs) cap ≡ min (number_after radix n bs) cap) [
      | inl below ↦ let e : min n cap ≡ n = omega arith in rw e
      | inr above ↦
          let e : min n cap ≡ cap = omega arith in
          let low = number_after_ge radix cap bs h in
          let high = number_after_ge radix n bs h in
          rw e (omega (arith, low, high))
    ]

-- one more digit, where the number so far is capped
pub capped_more : (cap radix n all : ℕ) (bs : List ℕ) (i : ℕ) → 1 ≤ radix → i < length bs → min (number_after radix n (drop i bs)) cap ≡ all
    → min (number_after radix (min (n * radix + digit_of (get_or bs i 0)) cap) (drop (i + 1) bs)) cap ≡ all
capped_more cap radix n all bs i h lt before =
    capped cap radix (n * radix + digit_of (get_or bs i 0)) (drop (i + 1) bs) h
    ∙ sym (at_drop_more (λ xs. min (number_after radix n xs) cap) bs i 0 lt)
    ∙ before

number_after-push : (radix n : ℕ) (bs : List ℕ) (b : ℕ) → number_after radix n (bs ++ b ∷ []) ≡ number_after radix n bs * radix + digit_of b
number_after-push radix n [] b = refl
number_after-push radix n (a ∷ bs) b = number_after-push radix (n * radix + digit_of a) bs b

digit_of_decimal : (d : ℕ) → d < 10 → digit_of (48 + d) ≡ d
unfolding digit_of
digit_of_decimal d h = grind (arith, nat_tests)

digit_of_hex : (d : ℕ) → d < 16 → digit_of (hex_digit d) ≡ d
unfolding digit_of
digit_of_hex d h = grind (arith, nat_tests)

number_after_decimal : (n : ℕ) → n < 2 ^ 64 → number_after 10 0 (decimal n) ≡ n
number_after_decimal n h =
    decimal_by_steps (λ m ds. number_after 10 0 ds ≡ m) (λ m small. omega (arith, digit_of_decimal m small))
    (λ m ds _ front. number_after-push 10 0 ds (48 + m % 10) ∙ rw (front, digit_of_decimal (m % 10) (omega arith)) (omega arith)) n h

number_after_hex : (k n : ℕ) → n < 16 ^ k → number_after 16 0 (hex_digits k n) ≡ n
number_after_hex zero n h = omega arith
number_after_hex (suc k) n h =
    let power : 16 ^ suc k ≡ 16 ^ k * 16 = pow-suc 16 k in
    let front : n / 16 < 16 ^ k = omega (arith, power, h) in
    number_after-push 16 0 (hex_digits k (n / 16)) (hex_digit (n % 16))
    ∙ rw (number_after_hex k (n / 16) front, digit_of_hex (n % 16) (omega arith)) (omega arith)

-- what is printed of a number of 32 bits in decimal reads as that number
pub number_of_decimal : (n : ℕ) → n < 2 ^ 32 → number_of 10 (decimal n) ≡ n
unfolding number_of
number_of_decimal n h = rw (number_after_decimal n (omega arith)) (omega arith)

-- and in hexadecimal
pub number_of_hex : (n : ℕ) → n < 2 ^ 32 → number_of 16 (hex_word n) ≡ n
unfolding number_of hex_word digit_of
number_of_hex n h = rw (number_after_hex 8 n (omega arith)) (omega arith)

-- what is printed of a number of 8 bits reads as that number
pub small_of_decimal : (n : ℕ) → n < 256 → small_of (decimal n) ≡ n
unfolding small_of
small_of_decimal n h = rw (number_of_decimal n (omega arith)) (omega arith)
