-- How long the decimal digits of a number of 64 bits are, and how they end.
use Rattle.std.proofs.Common.{◌≡◌, ℕ, ◌+◌, ◌/◌, ◌%◌, ◌^◌, ◌<◌, ◌≤◌, List, [], ◌∷◌, ◌++◌, length, ap, sym, ◌∙◌, arith, length-append, append_assoc}
use Rattle.std.specs.Fmt.{decimal}
use Rattle.std.proofs.lemmas.Fmt.{decimal_digit, decimal_step, length-decimal-le}

-- a number from ten on ends in its last digit
pub decimal_ends : (n : ℕ) → 10 ≤ n → n < 2 ^ 64 → decimal n ≡ decimal (n / 10) ++ ((48 + n % 10) ∷ [])
decimal_ends n low high = decimal_step n low high

-- and has one more digit than its front
pub decimal_longer : (n : ℕ) → 10 ≤ n → n < 2 ^ 64 → length (decimal n) ≡ length (decimal (n / 10)) + 1
decimal_longer n low high =
    ap length (decimal_ends n low high) ∙ length-append (decimal (n / 10)) ((48 + n % 10) ∷ [])

-- bytes, the digits of a number's front and its last digit are the bytes and the number's digits
pub decimal_appended : (old front new : List ℕ) (n : ℕ) → 10 ≤ n → n < 2 ^ 64 → front ≡ old ++ decimal (n / 10) → new ≡ front ++ ((48 + n % 10) ∷ []) → new ≡ old ++ decimal n
decimal_appended old front new n low high is_front is_new =
    is_new ∙ ap (λ xs. xs ++ ((48 + n % 10) ∷ [])) is_front ∙ append_assoc old (decimal (n / 10)) ((48 + n % 10) ∷ []) ∙ ap (λ xs. old ++ xs) (sym (decimal_ends n low high))

-- a number of 64 bits has at most twenty decimal digits
pub decimal_short : (n : ℕ) → n < 2 ^ 64 → length (decimal n) ≤ 20
decimal_short n high = length-decimal-le 20 n (omega arith) (omega arith) high

-- a number of two decimal digits
pub two_digits : (n : ℕ) → 10 ≤ n → n < 2 ^ 64 → n / 10 < 10 → decimal n ≡ (48 + n / 10) ∷ (48 + n % 10) ∷ []
two_digits n low high few = decimal_ends n low high ∙ ap (λ (ds : List ℕ). ds ++ ((48 + n % 10) ∷ [])) (decimal_digit (n / 10) few)

-- a number of three decimal digits, of which the first two are these
pub three_digits : (n : ℕ) (a b : ℕ) → 10 ≤ n → n < 2 ^ 64 → decimal (n / 10) ≡ a ∷ b ∷ [] → decimal n ≡ a ∷ b ∷ (48 + n % 10) ∷ []
three_digits n a b low high front = decimal_ends n low high ∙ ap (λ (ds : List ℕ). ds ++ ((48 + n % 10) ∷ [])) front
