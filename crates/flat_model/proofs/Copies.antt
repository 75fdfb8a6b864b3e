-- Lists of one value.
use Rattle.std.proofs.Common.{◌≡◌, ℕ, ◌+◌, ◌≤◌, List, [], ◌∷◌, ◌++◌, take, replicate, length, sym, ap, ◌∙◌}
use Rattle.std.proofs.lemmas.List.{length-replicate, replicate-append-replicate, take-replicate}

-- one copy more at the end
pub replicate_more : {A : Type 0} (n : ℕ) (x : A) → replicate n x ++ x ∷ [] ≡ replicate (n + 1) x
replicate_more n x = replicate-append-replicate n 1 x

module _ (old zeros new : List ℕ) (more block : ℕ)
    (all : zeros ≡ replicate block 0) (same : old ≡ replicate (length old) 0) (few : more ≤ block) (is : new ≡ old ++ take more zeros) where
  longer : new ≡ replicate (length old + more) 0
  longer =
      is ∙ ap (λ xs. xs ++ take more zeros) same
      ∙ ap (λ ys. replicate (length old) 0 ++ ys) (ap (take more) all ∙ take-replicate more block 0 few)
      ∙ replicate-append-replicate (length old) more 0

  -- zero bytes behind zero bytes are so many more
  pub zeros-long : length new ≡ length old + more
  zeros-long = ap length longer ∙ length-replicate (length old + more) 0

  -- and all are zero
  pub zeros-more : new ≡ replicate (length new) 0
  zeros-more = longer ∙ ap (λ k. replicate k 0) (sym zeros-long)
