-- A number that is shown is read again.
use Rattle.std.proofs.Common.{◌≡◌, ℕ, zero, suc, ◌+◌, ◌*◌, ◌/◌, ◌%◌, ◌^◌, ◌<◌, ◌≤◌, Bool, true, false, nat_le, nat_lt, List, [], ◌∷◌, ◌++◌, length, get_or, Some, Ok, refl, ap, inl, inr, ◌&&◌, ◌||◌, ◌∙◌, arith, length-append}
use Rattle.std.specs.Prelude.{codes, nat_eq}
use Rattle.std.specs.Char.{is_digit, digit_value}
use Rattle.std.specs.Fmt.{decimal, digit_glyph}
use Rattle.std.specs.List.{list_all, starts_with}
use Rattle.std.specs.Str.Parse.{digits_value, AllDigits}
use Rattle.std.proofs.lemmas.Bool.{cases_lt, lt-ltb, le-leb}
use Rattle.std.proofs.Math.Nat.{pow-suc}
use Rattle.std.proofs.lemmas.Bool.Decides.{nat_tests}
use Rattle.std.proofs.lemmas.Fmt.{decimal_digit, decimal_is_IsNumeral, decimal_nonempty, first_decimal}
use Rattle.std.proofs.lemmas.Int.Digits.{digits_value_push, digits_push}
use Rattle.box_program.specs.declared.opcodes.Operand.{Operand}
use Rattle.box_program.specs.declared.opcodes.Operand.TheVariants.{Register, Word, Small, Looks}
use Rattle.box_program.specs.Numbers.{value_of, leads_well, decimal_value, hexadecimal_value, number}
use Rattle.box_program.specs.Program.{register, number_within, operand}
use Rattle.box_program.specs.Shown.{hexadecimal_digits, operand_text}
use Rattle.box_program.proofs.ValidLemmas.{IsOperand}

list_all-from_digits : (radix : ℕ) (ds : List ℕ) → AllDigits radix ds → list_all (λ c. is_digit c radix) ds ≡ true
list_all-from_digits radix [] h = refl
list_all-from_digits radix (d ∷ ds) h =
    let first : nat_lt (digit_value d) radix ≡ true = lt-ltb _ _ h.0 in
    rw (first, list_all-from_digits radix ds h.1)

value_of_digits : (radix : ℕ) (ds : List ℕ) → AllDigits radix ds → value_of radix ds ≡ Some (digits_value radix ds)
unfolding value_of
value_of_digits radix ds h = rw (list_all-from_digits radix ds h)

glyph_value : (d : ℕ) → d < 16 → digit_value (digit_glyph true d) ≡ d
glyph_value d h = grind (arith, nat_tests)

pub length-hexadecimal_digits : (k n : ℕ) → length (hexadecimal_digits k n) ≡ k
unfolding hexadecimal_digits
length-hexadecimal_digits zero n = refl
length-hexadecimal_digits (suc k) n =
    length-append (hexadecimal_digits k (n / 16)) (digit_glyph true (n % 16) ∷ []) ∙ ap (λ m. m + 1) (length-hexadecimal_digits k (n / 16)) ∙ omega arith

all_hexadecimal : (k n : ℕ) → AllDigits 16 (hexadecimal_digits k n)
unfolding hexadecimal_digits
all_hexadecimal zero n = tt
all_hexadecimal (suc k) n =
    digits_push 16 (hexadecimal_digits k (n / 16)) (digit_glyph true (n % 16)) (all_hexadecimal k (n / 16)) (rw (glyph_value (n % 16) (omega arith)) (omega arith))

hexadecimal_value_is : (k n : ℕ) → n < 16 ^ k → digits_value 16 (hexadecimal_digits k n) ≡ n
unfolding hexadecimal_digits
hexadecimal_value_is zero n h = omega arith
hexadecimal_value_is (suc k) n h =
    let power : 16 ^ suc k ≡ 16 ^ k * 16 = pow-suc 16 k in
    let front : n / 16 < 16 ^ k = omega (arith, power, h) in
    digits_value_push 16 (hexadecimal_digits k (n / 16)) (digit_glyph true (n % 16))
    ∙ rw (hexadecimal_value_is k (n / 16) front, glyph_value (n % 16) (omega arith)) (omega arith)

pub number_hexadecimal : (n : ℕ) → n < 2 ^ 32 → number (codes "0x" ++ hexadecimal_digits 8 n) ≡ Some n
unfolding number hexadecimal_value
number_hexadecimal n h =
    rw (length-hexadecimal_digits 8 n) (value_of_digits 16 (hexadecimal_digits 8 n) (all_hexadecimal 8 n) ∙ ap Some (hexadecimal_value_is 8 n (omega arith)))

digit_not_x : (c : ℕ) → digit_value c < 10 → nat_eq 120 c ≡ false
digit_not_x c h = grind (arith, nat_tests)

and_false : (b : Bool) → (b && false) ≡ false
and_false true = refl
and_false false = refl

or_true : (b : Bool) → (b || true) ≡ true
or_true true = refl
or_true false = refl

not_hexadecimal : (ds : List ℕ) → AllDigits 10 ds → starts_with nat_eq ds (codes "0x") ≡ false
not_hexadecimal [] h = refl
not_hexadecimal (d ∷ []) h = and_false (nat_eq 48 d)
not_hexadecimal (d ∷ e ∷ ds) h = rw (digit_not_x e h.1.0) (and_false (nat_eq 48 d))

leads_well-from : (ds : List ℕ) → 0 < length ds → 48 < get_or ds 0 0 → leads_well ds ≡ true
unfolding leads_well
leads_well-from ds long high =
    let some : nat_le 1 (length ds) ≡ true = lt-ltb _ _ long in
    let first : nat_eq (get_or ds 0 0) 48 ≡ false = grind (arith, nat_tests) in
    rw (some, first) (or_true (nat_eq (length ds) 1))

leads_well-decimal : (n : ℕ) → n < 2 ^ 32 → leads_well (decimal n) ≡ true
unfolding leads_well
leads_well-decimal n h =
    elim (cases_lt 0 n) as (λ _. leads_well (decimal n) ≡ true) [
      | inl more ↦ leads_well-from (decimal n) (decimal_nonempty n (omega arith)) (first_decimal n more (omega arith))
      | inr none ↦ rw (decimal_digit n (omega arith))
    ]

pub number_decimal : (n : ℕ) → n < 2 ^ 32 → number (decimal n) ≡ Some n
unfolding number decimal_value
number_decimal n h =
    let is = decimal_is_IsNumeral n (omega arith) in
    rw (not_hexadecimal (decimal n) is.0.1, leads_well-decimal n h) (value_of_digits 10 (decimal n) is.0.1 ∙ ap Some is.1)

number_within_back : (low high n : ℕ) → low ≤ n → n ≤ high → number_within low high (Some n) ≡ Some n
unfolding number_within
number_within_back low high n a b =
    let least : nat_le low n ≡ true = le-leb _ _ a in
    let most : nat_le n high ≡ true = le-leb _ _ b in
    rw (least, most)

register_back : (n : ℕ) → n < 8 → register (codes "r" ++ decimal n) ≡ Some n
unfolding register
register_back n h =
    let digit : decimal n ≡ (48 + n) ∷ [] = decimal_digit n (omega arith) in
    let least : nat_le 48 (48 + n) ≡ true = le-leb _ _ (omega arith) in
    let most : nat_le (48 + n) 55 ≡ true = le-leb _ _ (omega arith) in
    rw (digit, least, most) (ap Some (omega arith))

-- an operand that is shown is read again
pub operand_back : (o : Operand) (n : ℕ) → IsOperand o n → operand o (operand_text o n) ≡ Ok n
unfolding operand operand_text
operand_back Register n h = rw (register_back n h)
operand_back Word n h = rw (number_hexadecimal n h, number_within_back 0 4294967295 n (omega arith) (omega arith))
operand_back Small n h = rw (number_decimal n (omega arith), number_within_back 0 65535 n (omega arith) (omega arith))
operand_back Looks n h = rw (number_decimal n (omega arith), number_within_back 1 65535 n h.0 (omega arith))
