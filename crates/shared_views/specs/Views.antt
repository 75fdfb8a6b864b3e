-- What is said of the views of all seats, where the view of a seat is a list of parts.
use Rattle.std.specs.Prelude.{◌≡◌, ℕ, zero, suc, List, [], ◌∷◌, sum_by, cond, eqb}
use mathlib.Core.Option.{some}
use lib.ListN.{get_elem?}

module _ {P : Type 0} where
  -- the sum of a number of each part, over all views
  abbrev pub of_views : (P → ℕ) → List (List P) → ℕ
  of_views g vs = sum_by (λ v. sum_by g v) vs

  -- each part of each view meets the fact
  abbrev pub Every : (P → Type 0) → List (List P) → Type 0
  Every F vs = (i : ℕ) (v : List P) (j : ℕ) (p : P) → get_elem? vs i ≡ some v
      → get_elem? v j ≡ some p → F p

  -- 1 where the number of the part is k, and 0 elsewhere
  abbrev pub is_at : (P → ℕ) → ℕ → P → ℕ
  is_at number k p = cond (eqb (number p) k) 1 0

  -- the parts that are made of n numbers from k on
  abbrev pub made_from : (ℕ → P) → ℕ → ℕ → List P
  made_from f k zero = []
  made_from f k (suc n) = f k ∷ made_from f (suc k) n
