-- How the line of the counts is printed.
use Rattle.std.proofs.Common.{◌≡◌, ℕ, List, [], ◌∷◌, ◌++◌, refl, sym, ap, ◌∙◌, append_assoc}
use Rattle.std.specs.Prelude.{codes}
use Rattle.std.specs.Fmt.{decimal}
use Rattle.flat_model.specs.declared.events.Logged.{Logged}
use Rattle.run_log.specs.Spaced.{spaced}
use Rattle.run_log.proofs.SpacedLemmas.{two_pushed}
use Rattle.workload.specs.Tally.{counts_line, event_counts, unit_counts}

spaced-append : (xs ys : List (List ℕ)) → spaced (xs ++ ys) ≡ spaced xs ++ spaced ys
spaced-append [] ys = refl
spaced-append (x ∷ xs) ys =
    ap (λ (t : List ℕ). 32 ∷ (x ++ t)) (spaced-append xs ys) ∙ ap (λ (t : List ℕ). 32 ∷ t) (sym (append_assoc x (spaced xs) (spaced ys)))

-- a name and its count were pushed, and then others
pub count_pushed : (old mid new name : List ℕ) (n m : ℕ) (rest : List (List ℕ)) → n ≡ m → mid ≡ old ++ spaced (name ∷ decimal n ∷ []) → new ≡ mid ++ spaced rest → new ≡ old ++ spaced (name ∷ decimal m ∷ rest)
count_pushed old mid new name n m rest same is_mid is_new = rw (is_new, is_mid, same) (simp append_assoc)

-- all words of the line were pushed
pub counts_pushed : (n : ℕ) (log : List Logged) (old a b d e new : List ℕ) → a ≡ old ++ codes "tally " → b ≡ a ++ decimal n → d ≡ b ++ spaced (unit_counts log)
    → e ≡ d ++ spaced (event_counts log) → new ≡ e ++ 10 ∷ [] → new ≡ old ++ counts_line n log
unfolding counts_line
counts_pushed n log old a b d e new is_a is_b is_d is_e is_new =
    let units : List (List ℕ) = unit_counts log in
    let events : List (List ℕ) = event_counts log in
    let both : e ≡ b ++ spaced (units ++ events) =
    is_e ∙ ap (λ (t : List ℕ). t ++ spaced events) is_d ∙ append_assoc b (spaced units) (spaced events) ∙ ap (λ (t : List ℕ). b ++ t) (sym (spaced-append units events)) in
    is_new ∙ two_pushed old a b e (codes "tally") (decimal n) (units ++ events) is_a is_b both
