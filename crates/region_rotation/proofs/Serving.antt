-- The first pair that serves an access, along a list.
use Rattle.std.proofs.Common.{◌≡◌, ℕ, ◌+◌, ◌<◌, true, false, List, [], ◌∷◌, ◌++◌, length, get_or, drop, Some, None, refl, sym, ◌∙◌, ap, inl, inr}
use Rattle.std.specs.Prelude.{if◌then◌else◌}
use Rattle.std.proofs.lemmas.Bool.{cases_Bool}
use Rattle.std.proofs.lemmas.List.{at_drop_more}
use Rattle.addr_base.specs.declared.pairs.Pair.{Pair}
use Rattle.addr_base.specs.declared.rights.Kind.{Kind}
use Rattle.flat_model.specs.Plan.{first_serving, serves}

module _ (a : ℕ) (kind : Kind) where
  pub first_serving-here : (p : Pair) (ps : List Pair) → serves a kind p ≡ true → first_serving a kind (p ∷ ps) ≡ Some p
  first_serving-here p ps here = ap (λ t. if t then Some p else first_serving a kind ps) here

  pub first_serving-past : (p : Pair) (ps : List Pair) → serves a kind p ≡ false → first_serving a kind (p ∷ ps) ≡ first_serving a kind ps
  first_serving-past p ps off = ap (λ t. if t then Some p else first_serving a kind ps) off

  -- a pair of the first list comes first
  pub first_serving-left : (xs ys : List Pair) (p : Pair) → first_serving a kind xs ≡ Some p → first_serving a kind (xs ++ ys) ≡ Some p
  first_serving-left [] ys p found = absurd (cc)
  first_serving-left (x ∷ xs) ys p found = elim (cases_Bool (serves a kind x)) [
    | inl here ↦ first_serving-here x (xs ++ ys) here ∙ sym (first_serving-here x xs here) ∙ found
    | inr off ↦ first_serving-past x (xs ++ ys) off ∙ first_serving-left xs ys p (sym (first_serving-past x xs off) ∙ found)
  ]

  -- where the first list has none, the second decides
  pub first_serving-right : (xs ys : List Pair) → first_serving a kind xs ≡ None → first_serving a kind (xs ++ ys) ≡ first_serving a kind ys
  first_serving-right [] ys none = refl
  first_serving-right (x ∷ xs) ys none = elim (cases_Bool (serves a kind x)) [
    | inl here ↦ absurd (let e : Some x ≡ None = sym (first_serving-here x xs here) ∙ none in cc)
    | inr off ↦ first_serving-past x (xs ++ ys) off ∙ first_serving-right xs ys (sym (first_serving-past x xs off) ∙ none)
  ]
