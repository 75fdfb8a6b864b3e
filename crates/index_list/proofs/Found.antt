-- The first list of some that passes a test.
use Rattle.std.proofs.Common.{◌≡◌, ℕ, zero, suc, ◌+◌, ◌<◌, Bool, true, false, cond, Some, None, IsSome, get_or, List, [], ◌∷◌, length, refl, sym, ap, ◌∙◌, subst, arith, inl, inr}
use Rattle.std.specs.List.{position_from}
use Rattle.std.proofs.lemmas.Bool.{cases_Bool}

-- a list passes, and none before it
pub position_from-first : {X : Type 0} (p : X → Bool) (i : ℕ) (xs : List X) (l : ℕ) (d : X) → l < length xs →
    p (get_or xs l d) ≡ true → ((k : ℕ) → k < l → p (get_or xs k d) ≡ false) → position_from p i xs ≡ Some (i + l)
position_from-first p i [] l d within passes before = absurd (omega arith)
position_from-first p i (x ∷ xs) zero d within passes before =
    ap (λ b. cond b (Some i) (position_from p (i + 1) xs)) passes ∙ ap Some (omega arith)
position_from-first p i (x ∷ xs) (suc l) d within passes before =
    let moved : (i + 1) + l ≡ i + suc l = omega arith in
    ap (λ b. cond b (Some i) (position_from p (i + 1) xs)) (before 0 (omega arith))
    ∙ position_from-first p (i + 1) xs l d (omega arith) passes (λ k below. before (suc k) (omega arith))
    ∙ ap Some moved

-- none passes
pub position_from-none : {X : Type 0} (p : X → Bool) (i : ℕ) (xs : List X) (d : X) →
    ((k : ℕ) → k < length xs → p (get_or xs k d) ≡ false) → position_from p i xs ≡ None
position_from-none p i [] d each = refl
position_from-none p i (x ∷ xs) d each =
    ap (λ b. cond b (Some i) (position_from p (i + 1) xs)) (each 0 (omega arith))
    ∙ position_from-none p (i + 1) xs d (λ k below. each (suc k) (omega arith))

-- where one is found it passes
pub found_passes : {X : Type 0} (p : X → Bool) (i : ℕ) (xs : List X) (r : ℕ) (d : X) → position_from p i xs ≡ Some r →
    (k : ℕ) × (r ≡ i + k) × (k < length xs) × (p (get_or xs k d) ≡ true)
found_passes p i [] r d found = absurd (cc)
found_passes p i (x ∷ xs) r d found =
    elim (cases_Bool (p x)) [
      | inl passes ↦
          let here : Some i ≡ Some r = sym (ap (λ b. cond b (Some i) (position_from p (i + 1) xs)) passes) ∙ found in
          let same : i ≡ r = cc in
          (0, omega arith, omega arith, passes)
      | inr fails ↦
          let later = found_passes p (i + 1) xs r d
          (sym (ap (λ b. cond b (Some i) (position_from p (i + 1) xs)) fails) ∙ found) in
          (suc later.0, omega (arith, later.1), omega (arith, later.2), later.3)
    ]

-- one passes, so one is found
pub position_from-some : {X : Type 0} (p : X → Bool) (i : ℕ) (xs : List X) (l : ℕ) (d : X) → l < length xs →
    p (get_or xs l d) ≡ true → IsSome (position_from p i xs)
position_from-some p i [] l d within passes = absurd (omega arith)
position_from-some p i (x ∷ xs) zero d within passes =
    subst IsSome (sym (ap (λ b. cond b (Some i) (position_from p (i + 1) xs)) passes)) refl
position_from-some p i (x ∷ xs) (suc l) d within passes =
    elim (p x) as (λ b. IsSome (cond b (Some i) (position_from p (i + 1) xs))) [
      | true ↦ refl
      | false ↦ position_from-some p (i + 1) xs l d (omega arith) passes
    ]

-- none is found, so none passes
pub none_passes : {X : Type 0} (p : X → Bool) (i : ℕ) (xs : List X) (k : ℕ) (d : X) → position_from p i xs ≡ None →
    k < length xs → p (get_or xs k d) ≡ false
none_passes p i [] k d none below = absurd (omega arith)
none_passes p i (x ∷ xs) zero d none below =
    elim (cases_Bool (p x)) [
      | inl passes ↦
          let here : Some i ≡ None = sym (ap (λ b. cond b (Some i) (position_from p (i + 1) xs)) passes) ∙ none in
          absurd (cc)
      | inr fails ↦ fails
    ]
none_passes p i (x ∷ xs) (suc k) d none below =
    elim (cases_Bool (p x)) [
      | inl passes ↦
          let here : Some i ≡ None = sym (ap (λ b. cond b (Some i) (position_from p (i + 1) xs)) passes) ∙ none in
          absurd (cc)
      | inr fails ↦
          none_passes p (i + 1) xs k d
          (sym (ap (λ b. cond b (Some i) (position_from p (i + 1) xs)) fails) ∙ none) (omega arith)
    ]
