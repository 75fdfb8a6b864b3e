-- The circle's next slot, and the regions after a flush.
use Rattle.std.proofs.Common.{◌≡◌, ◌≢◌, ℕ, zero, suc, ◌+◌, ◌-◌, ◌<◌, ◌≤◌, List, [], ◌∷◌, ◌++◌, length, replicate, set, Some, refl, sym, ◌∙◌, subst, arith, inl, inr, ◌⊎◌}
use Rattle.std.specs.Prelude.{nat_eq}
use Rattle.std.specs.List.{slice_get}
use Rattle.std.proofs.lemmas.Bool.{cases_Bool, cases_eq, cases_lt, eqb-false}
use Rattle.std.proofs.Math.ListN.{length-set}
use Rattle.addr_base.specs.declared.pairs.Pair.{Pair}
use Rattle.flat_model.specs.Plan.{cleared, flushed_pairs, next_slot, no_pair, slots_from}
use Rattle.flat_model.specs.Circle.{IsTurnedBy, OnCircle}
use Rattle.flat_model.proofs.Elements.{slice_get-set_same, slice_get-set_other}
use Rattle.flat_model.proofs.Turning.{length-slots_from}

-- the circle's next slot is on the circle
pub OnCircle-next : (regions c : ℕ) → 4 ≤ regions → OnCircle regions c → OnCircle regions (next_slot regions c)
OnCircle-next regions c enough on = elim (cases_Bool (nat_eq (c + 2) regions)) [
  | inl last ↦ rw last (omega arith, omega arith)
  | inr more ↦
      let other : c + 2 ≡ regions → ⊥ = eqb-false (c + 2) regions more in
      rw more (omega (arith, on.0), next c regions on.1 other)
]
  where
    next : (c regions : ℕ) → c + 2 ≤ regions → (c + 2 ≡ regions → ⊥) → (c + 1) + 2 ≤ regions
    next c regions low other = elim (cases_lt (c + 2) regions) [
      | inl less ↦ omega arith
      | inr past ↦ absurd (other (omega arith))
    ]

pub length-cleared : (n : ℕ) (pairs : List Pair) → length (cleared n pairs) ≡ length pairs
length-cleared zero pairs = refl
length-cleared (suc n) pairs = length-set (cleared n pairs) (n + 2) no_pair ∙ length-cleared n pairs

-- the circle's first n slots are disabled
pub cleared_inside : (n j : ℕ) (pairs : List Pair) → n + 2 ≤ length pairs → 2 ≤ j → j < n + 2 → slice_get (cleared n pairs) j ≡ Some no_pair
cleared_inside zero j pairs room low high = absurd (omega arith)
cleared_inside (suc n) j pairs room low high = elim (cases_eq j (n + 2)) [
  | inl same ↦ subst (λ i. slice_get (set (cleared n pairs) (n + 2) no_pair) i ≡ Some no_pair) (sym same)
      (slice_get-set_same (cleared n pairs) (n + 2) no_pair (omega (arith, length-cleared n pairs)))
  | inr other ↦ slice_get-set_other (cleared n pairs) (n + 2) j no_pair other ∙ cleared_inside n j pairs (omega arith) low (less n j high other)
]
  where
    less : (n j : ℕ) → j < suc n + 2 → (j ≡ n + 2 → ⊥) → j < n + 2
    less n j high other = elim (cases_lt j (n + 2)) [
      | inl fine ↦ fine
      | inr past ↦ absurd (other (omega arith))
    ]

-- and the other slots stay
pub cleared_outside : (n j : ℕ) (pairs : List Pair) → (j < 2) ⊎ (n + 2 ≤ j) → slice_get (cleared n pairs) j ≡ slice_get pairs j
cleared_outside zero j pairs out = refl
cleared_outside (suc n) j pairs out =
    slice_get-set_other (cleared n pairs) (n + 2) j no_pair (other n j out) ∙ cleared_outside n j pairs (wider n j out)
  where
    other : (n j : ℕ) → (j < 2) ⊎ (suc n + 2 ≤ j) → j ≢ n + 2
    other n j (inl low) = λ same. absurd (omega arith)
    other n j (inr high) = λ same. absurd (omega arith)

    wider : (n j : ℕ) → (j < 2) ⊎ (suc n + 2 ≤ j) → (j < 2) ⊎ (n + 2 ≤ j)
    wider n j (inl low) = inl low
    wider n j (inr high) = inr (omega arith)

-- the slots of the circle are disabled at a switch
middle_off : (n k : ℕ) (top : Pair) → k < n → slice_get (replicate n no_pair ++ top ∷ []) k ≡ Some no_pair
middle_off zero k top below = absurd (omega arith)
middle_off (suc n) zero top below = refl
middle_off (suc n) (suc k) top below = middle_off n k top (omega arith)

pub circle_off : (regions : ℕ) (flash own top : Pair) (j : ℕ) → OnCircle regions j → slice_get (slots_from regions flash own top) j ≡ Some no_pair
circle_off regions flash own top zero on = absurd (omega (arith, on.0))
circle_off regions flash own top (suc zero) on = absurd (omega (arith, on.0))
circle_off regions flash own top (suc (suc k)) on = middle_off (regions - 3) k top (omega (arith, on.1))

-- two lists of one length with the same elements are one
pub same_from_get : {X : Type 0} (xs ys : List X) → length xs ≡ length ys → ((j : ℕ) → slice_get xs j ≡ slice_get ys j) → xs ≡ ys
same_from_get [] [] len at = refl
same_from_get [] (y ∷ ys) len at = absurd (omega arith)
same_from_get (x ∷ xs) [] len at = absurd (omega arith)
same_from_get (x ∷ xs) (y ∷ ys) len at =
    let first : x ≡ y = let e : Some x ≡ Some y = at 0 in cc in
    let rest : xs ≡ ys = same_from_get xs ys (omega arith) (λ j. at (suc j)) in
    cc

-- After a flush the regions are those of a switch.
pub flushed_pairs-turned : (From : Pair → Type 0) (regions : ℕ) (flash own top : Pair) (pairs : List Pair) → 4 ≤ regions → IsTurnedBy From (slots_from regions flash own top) pairs → flushed_pairs pairs ≡ slots_from regions flash own top
flushed_pairs-turned From regions flash own top pairs enough turned =
    let len : length (slots_from regions flash own top) ≡ regions = length-slots_from regions flash own top enough in
    let all : length pairs ≡ regions = turned.same_length ∙ len in
    same_from_get (flushed_pairs pairs) (slots_from regions flash own top) (length-cleared (length pairs - 3) pairs ∙ turned.same_length)
    (λ j. elim (cases_lt j 2) [
      | inl low ↦ cleared_outside (length pairs - 3) j pairs (inl low) ∙ stays j (λ on. absurd (omega (arith, on.0, low)))
      | inr high ↦ elim (cases_lt j ((length pairs - 3) + 2)) [
        | inl inside ↦ cleared_inside (length pairs - 3) j pairs (omega (arith, all, enough)) high inside
            ∙ sym (circle_off regions flash own top j (high, omega (arith, inside, all, enough)))
        | inr outside ↦ cleared_outside (length pairs - 3) j pairs (inr outside) ∙ stays j (λ on. absurd (omega (arith, on.1, outside, all, len)))
      ]
    ])
  where
    stays : (j : ℕ) → (OnCircle (length (slots_from regions flash own top)) j → ⊥) → slice_get pairs j ≡ slice_get (slots_from regions flash own top) j
    stays j off = elim (turned.each j) [
      | inl kept ↦ kept
      | inr moved ↦ absurd (off moved.0)
    ]
