-- How often a number is in a list that grows at its end.
use Rattle.std.proofs.Common.{◌≡◌, ◌≢◌, ℕ, ◌+◌, ◌≤◌, List, [], ◌∷◌, ◌++◌, cond, eqb, refl, ap, ◌∙◌, arith, eq-eqb, ne_eqb}
use Rattle.std.proofs.lemmas.List.Sums.{sum_by_push}
use Rattle.atomic_pool.specs.Times.{times}

times-push : (k x : ℕ) (xs : List ℕ) → times k (xs ++ x ∷ []) ≡ times k xs + cond (eqb x k) 1 0
times-push k x xs = sum_by_push (λ (y : ℕ). cond (eqb y k) 1 0) xs x

pub times-same : (k : ℕ) (xs : List ℕ) → times k (xs ++ k ∷ []) ≡ times k xs + 1
times-same k xs = times-push k k xs ∙ ap {B = ℕ} (λ b. times k xs + cond b 1 0) (eq-eqb k k refl)

pub times-other : (k x : ℕ) (xs : List ℕ) → k ≢ x → times k (xs ++ x ∷ []) ≡ times k xs
times-other k x xs other =
    let none : cond {A = ℕ} (eqb x k) 1 0 ≡ 0 = ap {B = ℕ} (λ b. cond b 1 0) (ne_eqb x k (λ e. other (omega (arith, e)))) in
    omega (arith, times-push k x xs, none)

pub times-grows : (k x : ℕ) (xs : List ℕ) → times k xs ≤ times k (xs ++ x ∷ [])
times-grows k x xs = omega (arith, times-push k x xs)
