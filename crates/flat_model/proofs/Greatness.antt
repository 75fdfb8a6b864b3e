-- What the greatest number of a set says of the set.
use Rattle.std.proofs.Common.{◌≡◌, ℕ, zero, suc, Bool, true, false, Option, Some, None, refl, sym, ◌∙◌, ap, arith, inl, inr}
use Rattle.std.specs.Prelude.{if◌then◌else◌}
use Rattle.std.proofs.lemmas.Bool.{cases_Bool, false≢true, cases_order}
use Rattle.flat_model.specs.Greatest.{greatest, Says}

-- a greater bound keeps the answer where the set lacks the new number
Says_more-without : (has : ℕ → Bool) (n : ℕ) (o : Option ℕ) → has n ≡ false → Says has n o → Says has (suc n) o
Says_more-without has n None none says = λ j below.
    elim (cases_order j n) [
      | inl same ↦ ap has same ∙ none
      | inr rest ↦ says j (omega arith)
    ]
Says_more-without has n (Some s) none says = record {
  below = omega (arith, says.below);
  here = says.here;
  above = λ j after below. elim (cases_order j n) [
    | inl same ↦ ap has same ∙ none
    | inr rest ↦ says.above j after (omega arith)
  ];
}

-- a number that the set has is the greatest below the next
pub Says_more-with : (has : ℕ → Bool) (n : ℕ) → has n ≡ true → Says has (suc n) (Some n)
Says_more-with has n here =
    record { below = omega arith; here = here; above = λ j after below. absurd (omega arith) }

-- one more number below the bound
pub Says_more : (has : ℕ → Bool) (n : ℕ) (o : Option ℕ) → Says has n o → Says has (suc n) (if has n then Some n else o)
Says_more has n o says = elim (cases_Bool (has n)) [
  | inl here ↦ rw here (Says_more-with has n here)
  | inr none ↦ rw none (Says_more-without has n o none says)
]

-- the definition says what it should
pub Says-greatest : (has : ℕ → Bool) (n : ℕ) → Says has n (greatest has n)
unfolding greatest
Says-greatest has zero = λ j below. absurd (omega arith)
Says-greatest has (suc n) = Says_more has n (greatest has n) (Says-greatest has n)

-- two answers that say this are one
pub Says_same : (has : ℕ → Bool) (n : ℕ) (o p : Option ℕ) → Says has n o → Says has n p → o ≡ p
Says_same has n None None first second = refl
Says_same has n None (Some s) first second = absurd (false≢true (sym (first s second.below) ∙ second.here))
Says_same has n (Some s) None first second = absurd (false≢true (sym (second s first.below) ∙ first.here))
Says_same has n (Some s) (Some t) first second = elim (cases_order s t) [
  | inl same ↦ ap Some same
  | inr rest ↦ elim rest [
    | inl less ↦ absurd (false≢true (sym (first.above t less second.below) ∙ second.here))
    | inr more ↦ absurd (false≢true (sym (second.above s more first.below) ∙ first.here))
  ]
]

-- an answer that says this is the definition's
pub greatest-is : (has : ℕ → Bool) (n : ℕ) (o : Option ℕ) → Says has n o → greatest has n ≡ o
greatest-is has n o says = Says_same has n (greatest has n) o (Says-greatest has n) says
