-- What std reads as a number of 16 bits is the number of a made input, where neither a plus nor a zero stands first.
use Rattle.std.proofs.Common.{◌≡◌, ◌≢◌, ℕ, ◌^◌, ◌<◌, ◌≤◌, Bool, true, false, ◌&&◌, nat_le, List, [], ◌∷◌, length, get_or, Some, None, ◌⊎◌, inl, inr, if◌then◌else◌, refl, ap, arith}
use Rattle.std.specs.Prelude.{nat_eq, not}
use Rattle.std.specs.Char.{is_digit}
use Rattle.std.specs.List.{list_all}
use Rattle.std.specs.Str.Parse.{AllDigits, IsNumeral, digits_value, without_leading_plus}
use Rattle.std.proofs.lemmas.Bool.{and_parts, le-leb, leb-true, lt-ltb, ltb-true, ne_eqb}
use Rattle.std.proofs.lemmas.Bool.Decides.{eqb_tells}
use Rattle.workload.specs.InputNumber.{input_number, is_plain_number}

digits_all : (ds : List ℕ) → AllDigits 10 ds → list_all (λ c. is_digit c 10) ds ≡ true
digits_all [] all = refl
digits_all (d ∷ ds) all = rw (lt-ltb _ _ all.0, digits_all ds all.1) refl

all_digits : (ds : List ℕ) → list_all (λ c. is_digit c 10) ds ≡ true → AllDigits 10 ds
all_digits [] all = tt
all_digits (d ∷ ds) all = let parts = and_parts (is_digit d 10) (list_all (λ c. is_digit c 10) ds) all in (ltb-true _ _ parts.0, all_digits ds parts.1)

-- no word that is empty, or begins with a plus or a zero, is a number
pub none_otherwise : (word : List ℕ) → (length word ≢ 0 → get_or word 0 0 ≢ 43 → get_or word 0 0 ≡ 48) → None ≡ input_number word
unfolding input_number
none_otherwise [] begins = refl
none_otherwise (w ∷ ws) begins = by_plus (eqb_tells w 43)
  where
    by_plus : ((nat_eq w 43 ≡ true) × (w ≡ 43)) ⊎ ((nat_eq w 43 ≡ false) × (w ≢ 43)) → None ≡ input_number (w ∷ ws)
    by_plus (inl is) = rw is.1 refl
    by_plus (inr other) = let nought : w ≡ 48 = begins (λ none. absurd (omega arith)) other.1 in rw nought refl

-- what is read
pub some_read : (word : List ℕ) (n : ℕ) → 0 < length word → get_or word 0 0 ≢ 43 → get_or word 0 0 ≢ 48 → (IsNumeral 10 (without_leading_plus word) × (digits_value 10 (without_leading_plus word) < 2 ^ 16)) × (n ≡ digits_value 10 (without_leading_plus word)) → Some n ≡ input_number word
unfolding input_number
some_read [] n some plus nought read = absurd (omega arith)
some_read (w ∷ ws) n some plus nought read =
    let unsigned : nat_eq w 43 ≡ false = ne_eqb _ _ plus in
    let leading : nat_eq w 48 ≡ false = ne_eqb _ _ nought in
    let told = rw unsigned at read in
    let digits : list_all (λ c. is_digit c 10) (w ∷ ws) ≡ true = digits_all (w ∷ ws) told.0.0.1 in
    let low : digits_value 10 (w ∷ ws) ≤ 65535 = omega (arith, told.0.1) in
    let below : nat_le (digits_value 10 (w ∷ ws)) 65535 ≡ true = le-leb _ _ low in
    rw (leading, digits, below) (ap Some told.1)

-- what is not read
pub none_read : (word : List ℕ) → 0 < length word → get_or word 0 0 ≢ 43 → (IsNumeral 10 (without_leading_plus word) × (digits_value 10 (without_leading_plus word) < 2 ^ 16) → ⊥) → None ≡ input_number word
unfolding input_number
none_read [] some plus read = absurd (omega arith)
none_read (w ∷ ws) some plus read =
    let unsigned : nat_eq w 43 ≡ false = ne_eqb _ _ plus in
    let told = rw unsigned at read in
    by_test (is_plain_number (w ∷ ws) && nat_le (digits_value 10 (w ∷ ws)) 65535) refl
    (λ digits below. told ((some, all_digits (w ∷ ws) digits), omega arith))
  where
    by_test : (t : Bool) → (is_plain_number (w ∷ ws) && nat_le (digits_value 10 (w ∷ ws)) 65535) ≡ t
        → (list_all (λ c. is_digit c 10) (w ∷ ws) ≡ true → digits_value 10 (w ∷ ws) ≤ 65535 → ⊥)
        → None ≡ (if t then Some (digits_value 10 (w ∷ ws)) else None)
    by_test true is refused =
        let parts = and_parts (is_plain_number (w ∷ ws)) (nat_le (digits_value 10 (w ∷ ws)) 65535) is in
        let plain = and_parts (not (nat_eq w 48)) (list_all (λ c. is_digit c 10) (w ∷ ws)) parts.0 in
        absurd (refused plain.1 (leb-true _ _ parts.1))
    by_test false is refused = refl
