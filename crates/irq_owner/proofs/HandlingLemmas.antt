-- The flags of the boxes, of which there is room for eight.
use Rattle.std.proofs.Common.{◌≡◌, ℕ, zero, suc, ◌<◌, ◌≤◌, Bool, false, List, [], ◌∷◌, take, replicate, refl, ap, ◌∙◌, arith}
use Rattle.std.specs.List.{slice_index_or, slice_set}
use Rattle.std.proofs.lemmas.List.{get_or-take}
use Rattle.std.proofs.lemmas.Option.{unwrap_or-slice_get}
use Rattle.flat_model.specs.Interrupts.{is_set}

pub take-changed : {X : Type 0} (n : ℕ) (xs : List X) (i : ℕ) (x : X) → take n (slice_set xs i x) ≡ slice_set (take n xs) i x
take-changed zero xs i x = refl
take-changed (suc n) [] i x = refl
take-changed (suc n) (y ∷ ys) zero x = refl
take-changed (suc n) (y ∷ ys) (suc i) x = ap (λ zs. y ∷ zs) (take-changed n ys i x)

pub take-replicate : {X : Type 0} (n m : ℕ) (x : X) → n ≤ m → take n (replicate m x) ≡ replicate n x
take-replicate zero m x few = refl
take-replicate (suc n) zero x few = absurd (omega arith)
take-replicate (suc n) (suc m) x few = ap (λ xs. x ∷ xs) (take-replicate n m x (omega arith))

pub is_set-take : (n : ℕ) (flags : List Bool) (b : ℕ) → b < n → is_set (take n flags) b ≡ slice_index_or flags b false
is_set-take n flags b below = unwrap_or-slice_get (take n flags) b false ∙ get_or-take n flags b false below
