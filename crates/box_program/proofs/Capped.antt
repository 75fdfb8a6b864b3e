-- Reading digits with a cap gives the capped number.
use Rattle.std.proofs.Common.{◌≡◌, ℕ, ◌+◌, ◌*◌, ◌<◌, ◌≤◌, Bool, true, nat_lt, min, List, [], ◌∷◌, length, get_or, drop, sym, ◌∙◌, arith, inl, inr}
use Rattle.std.specs.Char.{is_digit, digit_value}
use Rattle.std.specs.List.{list_all}
use Rattle.std.specs.Str.Parse.{digits_value_after}
use Rattle.std.proofs.lemmas.Bool.{cases_lt, lt-ltb}
use Rattle.std.proofs.lemmas.List.{at_drop_more}
use Rattle.std.proofs.Math.Nat.{mul-le-mul_left}

one_more_digit : (radix n digit : ℕ) → 1 ≤ radix → n ≤ n * radix + digit
one_more_digit radix n digit h = let p : n * 1 ≤ n * radix = mul-le-mul_left n h in omega arith

-- more digits make no smaller number
pub digits_value_after_ge : (radix n : ℕ) (ds : List ℕ) → 1 ≤ radix → n ≤ digits_value_after radix n ds
digits_value_after_ge radix n [] h = omega arith
digits_value_after_ge radix n (d ∷ ds) h =
    let first : n ≤ n * radix + digit_value d = one_more_digit radix n (digit_value d) h in
    let more : n * radix + digit_value d ≤ digits_value_after radix (n * radix + digit_value d) ds = digits_value_after_ge radix (n * radix + digit_value d) ds h in
    omega (arith, first, more)

-- a number that is capped before more digits are read is the same under the cap
pub capped_digits : (cap radix n : ℕ) (ds : List ℕ) → 1 ≤ radix → min (digits_value_after radix (min n cap) ds) cap ≡ min (digits_value_after radix n ds) cap
capped_digits cap radix n ds h =
    elim (cases_lt n cap) as (λ _. min (digits_value_after radix (min n cap) ds) cap ≡ min (digits_value_after radix n ds) cap) [
      | inl below ↦ let e : min n cap ≡ n = omega arith in rw e
      | inr above ↦
          let e : min n cap ≡ cap = omega arith in
          let low = digits_value_after_ge radix cap ds h in
          let high = digits_value_after_ge radix n ds h in
          rw e (omega (arith, low, high))
    ]

-- one more digit, where the number so far is capped
pub capped_digit_more : (cap radix n all : ℕ) (ds : List ℕ) (i : ℕ) → 1 ≤ radix → i < length ds → min (digits_value_after radix n (drop i ds)) cap ≡ all
    → min (digits_value_after radix (min (n * radix + digit_value (get_or ds i 0)) cap) (drop (i + 1) ds)) cap ≡ all
capped_digit_more cap radix n all ds i h lt before =
    capped_digits cap radix (n * radix + digit_value (get_or ds i 0)) (drop (i + 1) ds) h
    ∙ sym (at_drop_more (λ xs. min (digits_value_after radix n xs) cap) ds i 0 lt)
    ∙ before

-- one more byte that is a digit
pub all_digits_more : (radix : ℕ) (ds : List ℕ) (i : ℕ) (b : Bool) → i < length ds → digit_value (get_or ds i 0) < radix → list_all (λ c. is_digit c radix) (drop i ds) ≡ b → list_all (λ c. is_digit c radix) (drop (i + 1) ds) ≡ b
all_digits_more radix ds i b lt digit before =
    let step = at_drop_more (list_all (λ c. is_digit c radix)) ds i 0 lt in
    let is : nat_lt (digit_value (get_or ds i 0)) radix ≡ true = lt-ltb _ _ digit in
    let both = rw is at step in
    sym both ∙ before
