-- Where pages lie.
use Rattle.std.proofs.Common.{◌≡◌, ℕ, ◌+◌, ◌<◌, Bool, false, List, [], ◌∷◌, refl, arith}
use Rattle.std.proofs.lemmas.Bool.Decides.{nat_tests}
use Rattle.flat_model.specs.Access.{in_pages}

-- no page from a base on holds bytes that begin before it
pub in_pages_past : {A : Type 0} (is_own : A → Bool) (base page a n : ℕ) (xs : List A) →
    a < base → in_pages is_own base page a n xs ≡ false
in_pages_past is_own base page a n [] past = refl
in_pages_past is_own base page a n (x ∷ xs) past =
    grind (arith, nat_tests, in_pages_past is_own (base + page) page a n xs (omega arith))
