-- For a caller that closes a token: when all its passes are there.
use Rattle.std.proofs.Common.{◌≡◌, ℕ, ◌<◌, List, [], ◌∷◌, All, sum_by, refl, ap, ◌∙◌, subst, sym, arith}
use Rattle.std.specs.List.{AllZip}
use Rattle.std.proofs.lemmas.List.Elements.{All-cons, All-nil, All-head, All-tail}
use Rattle.std.proofs.lemmas.List.Sums.{sum_by-cons}
use Rattle.shared_views.specs.Views.{is_at}
use Rattle.shared_views.proofs.Views.{made_once, made_every}
use Rattle.cpu_token.specs.Passes.{TokenValue, PassValue, pass_number, fresh_pass, fresh_passes, AreAll}
use Rattle.cpu_token.proofs.Ends.{all_of}

-- the passes that a token was made with are all
pub fresh_are_all : (E : Type 0) {F : Type 0} (t : TokenValue) (f : F) → AreAll t (fresh_passes E t.id f t.passes)
fresh_are_all E t f = record {
  of = all_of (λ p. p.token ≡ t.id) (fresh_passes E t.id f t.passes) (made_every (λ p. p.token ≡ t.id) (fresh_pass E t.id f) t.passes 0 (λ _ _ _. refl));
  each = λ k inside. omega (arith, made_once pass_number (fresh_pass E t.id f) (λ _. refl) t.passes 0 k (omega arith) (omega arith));
}

module _ {E F : Type 0} where
  -- the pass is of the same token and has the same number
  abbrev pub IsSamePass : PassValue E F → PassValue E F → Type 0
  IsSamePass p q = (q.token ≡ p.token) × (q.number ≡ p.number)

  kept_of : (t : TokenValue) (ps qs : List (PassValue E F)) → AllZip IsSamePass ps qs → All (λ p. p.token ≡ t.id) ps → All (λ p. p.token ≡ t.id) qs
  kept_of t [] [] same of = All-nil (λ p. p.token ≡ t.id)
  kept_of t [] (q ∷ qs) same of = absurd same
  kept_of t (p ∷ ps) [] same of = absurd same
  kept_of t (p ∷ ps) (q ∷ qs) same of =
      All-cons (λ x. x.token ≡ t.id) q qs (same.0.0 ∙ All-head (λ x. x.token ≡ t.id) p ps of) (kept_of t ps qs same.1 (All-tail (λ x. x.token ≡ t.id) p ps of))

  kept_count : (k : ℕ) (ps qs : List (PassValue E F)) → AllZip IsSamePass ps qs → sum_by (is_at pass_number k) qs ≡ sum_by (is_at pass_number k) ps
  kept_count k [] [] same = refl
  kept_count k [] (q ∷ qs) same = absurd same
  kept_count k (p ∷ ps) [] same = absurd same
  kept_count k (p ∷ ps) (q ∷ qs) same =
      let here : is_at pass_number k q ≡ is_at pass_number k p = ap (λ (n : ℕ). is_at (λ (m : ℕ). m) k n) same.0.1 in
      omega (arith, sum_by-cons (is_at pass_number k) p ps, sum_by-cons (is_at pass_number k) q qs, here, kept_count k ps qs same.1)

  -- what the calls do to passes leaves them all
  pub kept_are_all : (t : TokenValue) (ps qs : List (PassValue E F)) → AllZip IsSamePass ps qs → AreAll t ps → AreAll t qs
  kept_are_all t ps qs same all = record {
    of = kept_of t ps qs same all.of;
    each = λ k inside. subst (λ (n : ℕ). 0 < n) (sym (kept_count k ps qs same)) (all.each k inside);
  }
