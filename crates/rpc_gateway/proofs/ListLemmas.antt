-- Elements of a list that grows at its end or changes at one place, and the first list with a node.
use Rattle.std.proofs.Common.{◌≡◌, ◌≢◌, ℕ, suc, zero, ◌+◌, ◌<◌, Bool, true, false, ◌⊎◌, inl, inr, cond, Option, Some, None, List, [], ◌∷◌, ◌++◌, length, get_or, set, refl, ap, ◌∙◌, subst, arith}
use Rattle.std.specs.List.{position_from, slice_get, count_by}
use Rattle.std.specs.Option.{IsSome}
use Rattle.std.proofs.lemmas.Option.{get_or_from_slice_get, slice_get_within}
use Rattle.std.proofs.lemmas.List.Sums.{sum_by-set, sum_by_push}
use Rattle.index_list.specs.Arena.{has_node, list_at, list_with}

module _ {X : Type 0} where
  pub slice_get-set_same : (xs : List X) (i : ℕ) (y : X) → i < length xs → slice_get (set xs i y) i ≡ Some y
  slice_get-set_same [] i y within = absurd (omega arith)
  slice_get-set_same (x ∷ xs) zero y within = refl
  slice_get-set_same (x ∷ xs) (suc i) y within = slice_get-set_same xs i y (omega arith)

  pub slice_get-set_other : (xs : List X) (i k : ℕ) (y : X) → k ≢ i → slice_get (set xs i y) k ≡ slice_get xs k
  slice_get-set_other [] i k y other = refl
  slice_get-set_other (x ∷ xs) zero zero y other = absurd (other refl)
  slice_get-set_other (x ∷ xs) zero (suc k) y other = refl
  slice_get-set_other (x ∷ xs) (suc i) zero y other = refl
  slice_get-set_other (x ∷ xs) (suc i) (suc k) y other = slice_get-set_other xs i k y (λ same. other (ap suc same))

  pub slice_get-push : (xs : List X) (y : X) (k : ℕ) (x : X) → slice_get xs k ≡ Some x → slice_get (xs ++ y ∷ []) k ≡ Some x
  slice_get-push [] y k x is = absurd (cc)
  slice_get-push (z ∷ zs) y zero x is = is
  slice_get-push (z ∷ zs) y (suc k) x is = slice_get-push zs y k x is

  -- an element of a longer list was there, or is the last
  pub slice_get_pushed : (xs : List X) (y : X) (k : ℕ) (x : X) → slice_get (xs ++ y ∷ []) k ≡ Some x → (slice_get xs k ≡ Some x) ⊎ ((k ≡ length xs) × (y ≡ x))
  slice_get_pushed [] y zero x is = inr (refl, cc)
  slice_get_pushed [] y (suc k) x is = absurd (cc)
  slice_get_pushed (z ∷ zs) y zero x is = inl is
  slice_get_pushed (z ∷ zs) y (suc k) x is =
      elim (slice_get_pushed zs y k x is) [ inl old ↦ inl old | inr new ↦ inr (ap suc new.0, new.1) ]

  pub count_by-set : (p : X → Bool) (xs : List X) (i : ℕ) (x y : X) → slice_get xs i ≡ Some x → count_by p (set xs i y) + cond (p x) 1 0 ≡ count_by p xs + cond (p y) 1 0
  count_by-set p xs i x y is =
      let within = slice_get_within xs i x is in
      let at : get_or xs i y ≡ x = get_or_from_slice_get xs i x y is in
      subst (λ (z : X). count_by p (set xs i y) + cond (p z) 1 0 ≡ count_by p xs + cond (p y) 1 0) at (sum_by-set (λ z. cond (p z) 1 0) xs i y y within)

  pub count_by-push : (p : X → Bool) (xs : List X) (y : X) → count_by p (xs ++ y ∷ []) ≡ count_by p xs + cond (p y) 1 0
  count_by-push p xs y = sum_by_push (λ z. cond (p z) 1 0) xs y

found_first : (b : Bool) (n : ℕ) (r : Option ℕ) → (b ≡ true) ⊎ IsSome r → IsSome (cond b (Some n) r)
found_first true n r either = refl
found_first false n r (inl here) = absurd (cc)
found_first false n r (inr later) = later

found_from : {X : Type 0} (p : X → Bool) (n : ℕ) (xs : List X) (k : ℕ) (d : X) → k < length xs → p (get_or xs k d) ≡ true → IsSome (position_from p n xs)
found_from p n [] k d within passes = absurd (omega arith)
found_from p n (x ∷ xs) zero d within passes = found_first (p x) n (position_from p (n + 1) xs) (inl passes)
found_from p n (x ∷ xs) (suc k) d within passes =
    found_first (p x) n (position_from p (n + 1) xs) (inr (found_from p (n + 1) xs k d (omega arith) passes))

missed_from : {X : Type 0} (p : X → Bool) (n : ℕ) (xs : List X) (d : X) → ((k : ℕ) → k < length xs → p (get_or xs k d) ≡ false) → position_from p n xs ≡ None
missed_from p n [] d none = refl
missed_from p n (x ∷ xs) d none =
    ap (λ b. cond b (Some n) (position_from p (n + 1) xs)) (none 0 (omega arith))
    ∙ missed_from p (n + 1) xs d (λ k within. none (suc k) (omega arith))

-- a node that stands in a list is found
pub list_with_some : (lists : List (List ℕ)) (list node : ℕ) → list < length lists → has_node node (list_at lists list) ≡ true → IsSome (list_with lists node)
list_with_some lists list node within stands = found_from (has_node node) 0 lists list [] within stands

-- a node that stands in none is not
pub list_with_none : (lists : List (List ℕ)) (node : ℕ) → ((list : ℕ) → list < length lists → has_node node (list_at lists list) ≡ false) → list_with lists node ≡ None
list_with_none lists node none = missed_from (has_node node) 0 lists [] none
