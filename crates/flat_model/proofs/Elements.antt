-- What holds of each element of a list, and elements by their index.
use Rattle.std.proofs.Common.{◌≡◌, ◌≢◌, ℕ, zero, suc, ◌<◌, Bool, true, List, [], ◌∷◌, ◌++◌, length, map, Some, refl, ◌∙◌, ap, arith, inl, inr, set}
use Rattle.std.specs.List.{AllByRecursion, list_any, slice_get, flat_map}
use Rattle.std.proofs.lemmas.Bool.{or_cases, or_left, or_right, false≢true}

module _ {X : Type 0} (P : X → Type 0) where
  pub each-append : (xs ys : List X) → AllByRecursion P xs → AllByRecursion P ys → AllByRecursion P (xs ++ ys)
  each-append [] ys first second = second
  each-append (x ∷ xs) ys first second = (first.0, each-append xs ys first.1 second)

  -- an element by its index has what holds of each
  pub each-get : (xs : List X) (i : ℕ) (x : X) → AllByRecursion P xs → slice_get xs i ≡ Some x → P x
  each-get [] i x each found = absurd (cc)
  each-get (y ∷ ys) zero x each found = let same : y ≡ x = cc in rw (← same) each.0
  each-get (y ∷ ys) (suc i) x each found = each-get ys i x each.1 found

  -- what each index has holds of each element
  pub each-from_get : (xs : List X) → ((i : ℕ) (x : X) → slice_get xs i ≡ Some x → P x) → AllByRecursion P xs
  each-from_get [] at = tt
  each-from_get (x ∷ xs) at = (at 0 x refl, each-from_get xs (λ i y found. at (suc i) y found))

module _ {X : Type 0} (P Q : X → Type 0) (weaker : (x : X) → P x → Q x) where
  pub each_weaker : (xs : List X) → AllByRecursion P xs → AllByRecursion Q xs
  each_weaker [] each = tt
  each_weaker (x ∷ xs) each = (weaker x each.0, each_weaker xs each.1)

module _ {X Y : Type 0} (f : X → Y) (P : X → Type 0) (Q : Y → Type 0) (to : (x : X) → P x → Q (f x)) where
  pub each-map : (xs : List X) → AllByRecursion P xs → AllByRecursion Q (map f xs)
  each-map [] each = tt
  each-map (x ∷ xs) each = (to x each.0, each-map xs each.1)

module _ {X Y : Type 0} (f : X → List Y) (P : X → Type 0) (Q : Y → Type 0) (to : (x : X) → P x → AllByRecursion Q (f x)) where
  pub each-flat_map : (xs : List X) → AllByRecursion P xs → AllByRecursion Q (flat_map f xs)
  each-flat_map [] each = tt
  each-flat_map (x ∷ xs) each = each-append Q (f x) (flat_map f xs) (to x each.0) (each-flat_map xs each.1)

module _ {X : Type 0} (p : X → Bool) where
  -- an element that passes, by its index
  pub list_any_found : (xs : List X) → list_any p xs ≡ true → (i : ℕ) × (x : X) × (slice_get xs i ≡ Some x) × (p x ≡ true)
  list_any_found [] some = absurd (false≢true some)
  list_any_found (x ∷ xs) some = elim (or_cases (p x) (list_any p xs) some) [
    | inl here ↦ (0, x, refl, here)
    | inr later ↦ let rest = list_any_found xs later in (suc rest.0, rest.1, rest.2, rest.3)
  ]

  -- an element that passes makes some element pass
  pub list_any_at_get : (xs : List X) (i : ℕ) (x : X) → slice_get xs i ≡ Some x → p x ≡ true → list_any p xs ≡ true
  list_any_at_get [] i x found pass = absurd (cc)
  list_any_at_get (y ∷ ys) zero x found pass = let same : y ≡ x = cc in or_left (p y) (list_any p ys) (ap p same ∙ pass)
  list_any_at_get (y ∷ ys) (suc i) x found pass = or_right (p y) (list_any p ys) (list_any_at_get ys i x found pass)

module _ {X : Type 0} where
  -- a number below the length has an element
  pub slice_get_some : (xs : List X) (i : ℕ) → i < length xs → (x : X) × (slice_get xs i ≡ Some x)
  slice_get_some [] i below = absurd (omega arith)
  slice_get_some (x ∷ xs) zero below = (x, refl)
  slice_get_some (x ∷ xs) (suc i) below = slice_get_some xs i (omega arith)

  pub slice_get-set_same : (xs : List X) (i : ℕ) (x : X) → i < length xs → slice_get (set xs i x) i ≡ Some x
  slice_get-set_same [] i x below = absurd (omega arith)
  slice_get-set_same (y ∷ ys) zero x below = refl
  slice_get-set_same (y ∷ ys) (suc i) x below = slice_get-set_same ys i x (omega arith)

  pub slice_get-set_other : (xs : List X) (i j : ℕ) (x : X) → j ≢ i → slice_get (set xs i x) j ≡ slice_get xs j
  slice_get-set_other [] i j x other = refl
  slice_get-set_other (y ∷ ys) zero zero x other = absurd (other refl)
  slice_get-set_other (y ∷ ys) zero (suc j) x other = refl
  slice_get-set_other (y ∷ ys) (suc i) zero x other = refl
  slice_get-set_other (y ∷ ys) (suc i) (suc j) x other = slice_get-set_other ys i j x (λ same. other (ap suc same))
