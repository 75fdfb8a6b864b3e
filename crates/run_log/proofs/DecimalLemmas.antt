-- How long the decimal digits of a word are, and how they end.
use Rattle.std.proofs.Common.{◌≡◌, ℕ, ◌+◌, ◌/◌, ◌%◌, ◌^◌, ◌<◌, ◌≤◌, List, [], ◌∷◌, ◌++◌, length, ap, sym, ◌∙◌, arith, length-append, append_assoc}
use Rattle.std.specs.Fmt.{decimal}
use Rattle.std.proofs.lemmas.Fmt.{decimal_step, length-decimal-le}

-- a number from ten on ends in its last digit
pub decimal_ends : (n : ℕ) → 10 ≤ n → n < 2 ^ 32 → decimal n ≡ decimal (n / 10) ++ ((48 + n % 10) ∷ [])
decimal_ends n low high = decimal_step n low (omega arith)

-- and has one more digit than its front
pub decimal_longer : (n : ℕ) → 10 ≤ n → n < 2 ^ 32 → length (decimal n) ≡ length (decimal (n / 10)) + 1
decimal_longer n low high =
    ap length (decimal_ends n low high) ∙ length-append (decimal (n / 10)) ((48 + n % 10) ∷ [])

-- a word has at most ten decimal digits
pub decimal_short : (n : ℕ) → n < 2 ^ 32 → length (decimal n) ≤ 10
decimal_short n high = length-decimal-le 10 n (omega arith) (omega arith) (omega arith)

-- bytes, the digits of a number's front and its last digit are the bytes and the number's digits
pub decimal_appended : (old front new : List ℕ) (n : ℕ) → 10 ≤ n → n < 2 ^ 32 → front ≡ old ++ decimal (n / 10) → new ≡ front ++ ((48 + n % 10) ∷ []) → new ≡ old ++ decimal n
decimal_appended old front new n low high is_front is_new =
    is_new ∙ ap (λ xs. xs ++ ((48 + n % 10) ∷ [])) is_front ∙ append_assoc old (decimal (n / 10)) ((48 + n % 10) ∷ []) ∙ ap (λ xs. old ++ xs) (sym (decimal_ends n low high))
