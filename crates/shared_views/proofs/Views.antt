-- How the sums and the facts on all views follow a step, a split and a join.
use Rattle.std.proofs.Common.{◌≡◌, ◌≢◌, ℕ, zero, suc, ◌+◌, ◌<◌, ◌≤◌, List, [], ◌∷◌, ◌++◌, length, drop, set, sum_by, cond, eqb, eq-eqb, ne_eqb, refl, ap, sym, ◌∙◌, subst, inl, inr, ⊎_elim, ◌⊎◌, arith}
use mathlib.Core.Option.{some, some-injective, some-ne-none}
use mathlib.Core.Logic.{dite}
use native.Mathlib.Decide.{ℕ_discrete}
use lib.ListN.{get_elem?}
use Rattle.std.proofs.lemmas.List.Sums.{sum_by-cons, sum_by-append, sum_by_push}
use Rattle.atomic_table.proofs.Lists.{at_set, set_else, at_snoc}
use Rattle.shared_views.specs.Views.{of_views, Every, is_at, made_from}

module _ {P : Type 0} where
  abbrev total : (P → ℕ) → List P → ℕ
  total g v = sum_by g v

  -- a seat's new view changes a sum by the difference
  pub changed : (g : P → ℕ) (vs : List (List P)) (i : ℕ) (v w : List P) → get_elem? vs i ≡ some v → of_views g (set vs i w) + sum_by g v ≡ of_views g vs + sum_by g w
  changed g [] i v w e = absurd (some-ne-none v (sym e))
  changed g (x ∷ xs) zero v w e =
      let same : x ≡ v = some-injective x v e in
      omega (arith, sum_by-cons (total g) x xs, sum_by-cons (total g) w xs, ap (total g) same)
  changed g (x ∷ xs) (suc i) v w e =
      omega (arith, sum_by-cons (total g) x (set xs i w), sum_by-cons (total g) x xs, changed g xs i v w e)

  -- a view's sum is within the whole
  pub within : (g : P → ℕ) (vs : List (List P)) (i : ℕ) (v : List P) → get_elem? vs i ≡ some v → sum_by g v ≤ of_views g vs
  within g vs i v e = omega (arith, changed g vs i v [] e)

  -- and so are those of two seats together
  pub both : (g : P → ℕ) (vs : List (List P)) (i j : ℕ) (v w : List P) → j ≢ i → get_elem? vs i ≡ some v → get_elem? vs j ≡ some w → sum_by g v + sum_by g w ≤ of_views g vs
  both g vs i j v w other e f =
      let there : get_elem? (set vs i []) j ≡ some w = set_else vs i j [] other ∙ f in
      omega (arith, changed g vs i v [] e, within g (set vs i []) j w there)

  -- a part's number is within its view's sum
  pub part_within : (g : P → ℕ) (v : List P) (j : ℕ) (p : P) → get_elem? v j ≡ some p → g p ≤ sum_by g v
  part_within g [] j p e = absurd (some-ne-none p (sym e))
  part_within g (x ∷ xs) zero p e = omega (arith, sum_by-cons g x xs, ap g (some-injective x p e))
  part_within g (x ∷ xs) (suc j) p e = omega (arith, sum_by-cons g x xs, part_within g xs j p e)

  -- the numbers of the one part of a seat and of a part of another seat are within the whole
  pub two_parts : (g : P → ℕ) (vs : List (List P)) (i : ℕ) (p : P) (k : ℕ) (v : List P) (j : ℕ) (r : P)
      → k ≢ i → get_elem? vs i ≡ some (p ∷ []) → get_elem? vs k ≡ some v → get_elem? v j ≡ some r → g p + g r ≤ of_views g vs
  two_parts g vs i p k v j r other e f at =
      omega (arith, both g vs i k (p ∷ []) v other e f, part_within g v j r at)

  -- one part in place of another
  pub swapped : (g : P → ℕ) (vs : List (List P)) (i : ℕ) (p q : P) → get_elem? vs i ≡ some (p ∷ []) → of_views g (set vs i (q ∷ [])) + g p ≡ of_views g vs + g q
  swapped g vs i p q e = omega (arith, changed g vs i (p ∷ []) (q ∷ []) e)

  -- a part whose number stays leaves the count of each number
  pub counted : (number : P → ℕ) (k : ℕ) (vs : List (List P)) (i : ℕ) (p q : P) → get_elem? vs i ≡ some (p ∷ []) → number q ≡ number p
      → of_views (is_at number k) (set vs i (q ∷ [])) ≡ of_views (is_at number k) vs
  counted number k vs i p q e same = omega (arith, swapped (is_at number k) vs i p q e, ap {B = ℕ} (λ n. cond (eqb n k) 1 0) same)

  pub is_at-same : (number : P → ℕ) (p : P) → is_at number (number p) p ≡ 1
  is_at-same number p = ap {B = ℕ} (λ b. cond b 1 0) (eq-eqb (number p) (number p) refl)

  pub is_at-other : (number : P → ℕ) (k : ℕ) (p : P) → number p ≢ k → is_at number k p ≡ 0
  is_at-other number k p other = ap {B = ℕ} (λ b. cond b 1 0) (ne_eqb (number p) k other)

  -- where a number is there at most once, a part of another seat has another number
  pub apart : (number : P → ℕ) (vs : List (List P)) (i : ℕ) (p : P) (k : ℕ) (v : List P) (j : ℕ) (r : P) → ((n : ℕ) → of_views (is_at number n) vs ≤ 1)
      → k ≢ i → get_elem? vs i ≡ some (p ∷ []) → get_elem? vs k ≡ some v → get_elem? v j ≡ some r → number r ≢ number p
  apart number vs i p k v j r once other e f at same =
      let two : is_at number (number r) p + is_at number (number r) r ≤ of_views (is_at number (number r)) vs = two_parts (is_at number (number r)) vs i p k v j r other e f at in
      let mine : is_at number (number r) p ≡ 1 = ap (λ n. is_at number n p) same ∙ is_at-same number p in
      omega (arith, once (number r), is_at-same number r)

  -- after a step of one seat, its new part meets the new fact, and so does each part of the others
  pub turned : (F G : P → Type 0) (vs : List (List P)) (i : ℕ) (q : P) → Every F vs → G q
      → ((k : ℕ) (v : List P) (j : ℕ) (r : P) → k ≢ i → get_elem? vs k ≡ some v → get_elem? v j ≡ some r → F r → G r) → Every G (set vs i (q ∷ []))
  turned F G vs i q every mine theirs k v j r e f = ⊎_elim
      (λ (t : (k ≡ i) × (q ∷ [] ≡ v)). alone v j r (sym t.1) f)
      (λ (t : (k ≢ i) × (get_elem? vs k ≡ some v)). theirs k v j r t.0 t.1 f (every k v j r t.1 f))
      (at_set vs i k (q ∷ []) v e)
    where
      alone : (v : List P) (j : ℕ) (r : P) → v ≡ q ∷ [] → get_elem? v j ≡ some r → G r
      alone v zero r is f = subst G (some-injective q r (subst (λ (w : List P). get_elem? w zero ≡ some r) is f)) mine
      alone v (suc j) r is f = absurd (some-ne-none r (sym (subst (λ (w : List P). get_elem? w (suc j) ≡ some r) is f)))

  -- a fact on each part holds of one part
  pub at_part : (F : P → Type 0) (vs : List (List P)) (i : ℕ) (p : P) → Every F vs → get_elem? vs i ≡ some (p ∷ []) → F p
  at_part F vs i p every e = every i (p ∷ []) zero p e refl

  pub at_drop : (n : ℕ) (v : List P) (j : ℕ) → get_elem? (drop n v) j ≡ get_elem? v (n + j)
  at_drop zero v j = ap (get_elem? v) (omega arith)
  at_drop (suc n) [] j = refl
  at_drop (suc n) (x ∷ xs) j = at_drop n xs j ∙ ap (get_elem? (x ∷ xs)) more
    where
      more : suc (n + j) ≡ suc n + j
      more = omega arith

  -- a seat whose view is cut after its first part leaves each sum
  pub split_sum : (g : P → ℕ) (vs : List (List P)) (i : ℕ) (p : P) (ps : List P) → get_elem? vs i ≡ some (p ∷ ps)
      → of_views g (set vs i ps ++ (p ∷ []) ∷ []) ≡ of_views g vs
  split_sum g vs i p ps e =
      omega (arith, sum_by_push (total g) (set vs i ps) (p ∷ []), changed g vs i (p ∷ ps) ps e, sum_by-cons g p ps)

  -- and each fact on all parts
  pub split_every : (F : P → Type 0) (vs : List (List P)) (i : ℕ) (p : P) (ps : List P) → get_elem? vs i ≡ some (p ∷ ps) → Every F vs
      → Every F (set vs i ps ++ (p ∷ []) ∷ [])
  split_every F vs i p ps e every k v j r at in_v = ⊎_elim
      (λ (there : get_elem? (set vs i ps) k ≡ some v). ⊎_elim
      (λ (t : (k ≡ i) × (ps ≡ v)). every i (p ∷ ps) (suc j) r e (subst (λ (w : List P). get_elem? w j ≡ some r) (sym t.1) in_v))
      (λ (t : (k ≢ i) × (get_elem? vs k ≡ some v)). every k v j r t.1 in_v)
      (at_set vs i k ps v there))
      (λ (is : p ∷ [] ≡ v). first j r (subst (λ (w : List P). get_elem? w j ≡ some r) (sym is) in_v))
      (at_snoc (set vs i ps) (p ∷ []) v k at)
    where
      first : (j : ℕ) (r : P) → get_elem? (p ∷ []) j ≡ some r → F r
      first zero r f = every i (p ∷ ps) zero r e f
      first (suc j) r f = absurd (some-ne-none r (sym f))

  pub at_append : (w v : List P) (j : ℕ) (r : P) → get_elem? (w ++ v) j ≡ some r → (get_elem? w j ≡ some r) ⊎ ((k : ℕ) × (get_elem? v k ≡ some r))
  at_append [] v j r e = inr (j, e)
  at_append (x ∷ xs) v zero r e = inl e
  at_append (x ∷ xs) v (suc j) r e = at_append xs v j r e

  -- a seat that takes in all parts of another leaves each sum
  pub join_sum : (g : P → ℕ) (vs : List (List P)) (i j : ℕ) (v w : List P) → get_elem? vs i ≡ some v → get_elem? (set vs i (w ++ v)) j ≡ some w
      → of_views g (set (set vs i (w ++ v)) j []) ≡ of_views g vs
  join_sum g vs i j v w e f =
      omega (arith, changed g (set vs i (w ++ v)) j w [] f, changed g vs i v (w ++ v) e, sum_by-append g w v)

  -- and each fact on all parts
  pub join_every : (F : P → Type 0) (vs : List (List P)) (i j : ℕ) (v w : List P) → j ≢ i → get_elem? vs i ≡ some v → get_elem? (set vs i (w ++ v)) j ≡ some w → Every F vs
      → Every F (set (set vs i (w ++ v)) j [])
  join_every F vs i j v w other e f every k u l r at in_u = ⊎_elim
      (λ (t : (k ≡ j) × ([] ≡ u)). absurd (some-ne-none r (sym (subst (λ (x : List P). get_elem? x l ≡ some r) (sym t.1) in_u))))
      (λ (t : (k ≢ j) × (get_elem? (set vs i (w ++ v)) k ≡ some u)). ⊎_elim
      (λ (s : (k ≡ i) × (w ++ v ≡ u)). ⊎_elim
      (λ (in_w : get_elem? w l ≡ some r). every j w l r (sym (set_else vs i j (w ++ v) other) ∙ f) in_w)
      (λ (in_v : (m : ℕ) × (get_elem? v m ≡ some r)). every i v in_v.0 r e in_v.1)
      (at_append w v l r (subst (λ (x : List P). get_elem? x l ≡ some r) (sym s.1) in_u)))
      (λ (s : (k ≢ i) × (get_elem? vs k ≡ some u)). every k u l r s.1 in_u)
      (at_set vs i k (w ++ v) u t.1))
      (at_set (set vs i (w ++ v)) j k [] u at)

  -- where one seat has each number as often as it is there, no other seat has a part
  pub no_parts : (number : P → ℕ) (vs : List (List P)) (i : ℕ) (v : List P) → get_elem? vs i ≡ some v → ((n : ℕ) → of_views (is_at number n) vs ≤ sum_by (is_at number n) v)
      → (k : ℕ) (w : List P) → k ≢ i → get_elem? vs k ≡ some w → w ≡ []
  no_parts number vs i v e all k [] other f = refl
  no_parts number vs i v e all k (r ∷ rs) other f =
      absurd (omega (arith, both (is_at number (number r)) vs i k v (r ∷ rs) other e f, all (number r), sum_by-cons (is_at number (number r)) r rs, is_at-same number r))

  pub empty_sum : (g : P → ℕ) (vs : List (List P)) → ((k : ℕ) (w : List P) → get_elem? vs k ≡ some w → w ≡ []) → of_views g vs ≡ 0
  empty_sum g [] none = refl
  empty_sum g (x ∷ xs) none =
      omega (arith, sum_by-cons (total g) x xs, empty_sum g xs (λ k w e. none (suc k) w e), ap (total g) (none zero x refl))

  -- then each sum is that seat's
  pub of_all : (number : P → ℕ) (g : P → ℕ) (vs : List (List P)) (i : ℕ) (v : List P) → get_elem? vs i ≡ some v → ((n : ℕ) → of_views (is_at number n) vs ≤ sum_by (is_at number n) v)
      → of_views g vs ≡ sum_by g v
  of_all number g vs i v e all = omega (arith, changed g vs i v [] e, empty_sum g (set vs i []) none)
    where
      none : (k : ℕ) (w : List P) → get_elem? (set vs i []) k ≡ some w → w ≡ []
      none k w f = ⊎_elim
          (λ (t : (k ≡ i) × ([] ≡ w)). sym t.1)
          (λ (t : (k ≢ i) × (get_elem? vs k ≡ some w)). no_parts number vs i v e all k w t.0 t.1)
          (at_set vs i k [] w f)

  -- parts that are made of numbers have each of these once
  pub made_outside : (number : P → ℕ) (f : ℕ → P) → ((k : ℕ) → number (f k) ≡ k) → (n k j : ℕ) → (j < k) ⊎ (k + n ≤ j) → sum_by (is_at number j) (made_from f k n) ≡ 0
  made_outside number f is zero k j out = refl
  made_outside number f is (suc n) k j out =
      let further : (j < suc k) ⊎ (suc k + n ≤ j) = ⊎_elim (λ h. inl (omega arith)) (λ h. inr (omega arith)) out in
      let other : number (f k) ≢ j = λ e. let here : k ≡ j = sym (is k) ∙ e in ⊎_elim (λ h. omega arith) (λ h. omega arith) out in
      omega (arith, sum_by-cons (is_at number j) (f k) (made_from f (suc k) n), is_at-other number j (f k) other, made_outside number f is n (suc k) j further)

  pub made_once : (number : P → ℕ) (f : ℕ → P) → ((k : ℕ) → number (f k) ≡ k) → (n k j : ℕ) → k ≤ j → j < k + n → sum_by (is_at number j) (made_from f k n) ≡ 1
  made_once number f is zero k j low high = absurd (omega arith)
  made_once number f is (suc n) k j low high = dite (ℕ_discrete k j)
      (λ here. let mine : is_at number j (f k) ≡ 1 = ap (λ m. is_at number m (f k)) (sym here ∙ sym (is k)) ∙ is_at-same number (f k) in
      omega (arith, sum_by-cons (is_at number j) (f k) (made_from f (suc k) n), mine, made_outside number f is n (suc k) j (inl (omega arith))))
      (λ past. let other : number (f k) ≢ j = λ e. past (sym (is k) ∙ e) in
      omega (arith, sum_by-cons (is_at number j) (f k) (made_from f (suc k) n), is_at-other number j (f k) other, made_once number f is n (suc k) j (omega arith) (omega arith)))

  -- a fact of each number is a fact of each part that is made
  pub made_every : (F : P → Type 0) (f : ℕ → P) → (n k : ℕ) → ((j : ℕ) → k ≤ j → j < k + n → F (f j)) → (j : ℕ) (p : P) → get_elem? (made_from f k n) j ≡ some p → F p
  made_every F f zero k each j p e = absurd (some-ne-none p (sym e))
  made_every F f (suc n) k each zero p e = subst F (some-injective (f k) p e) (each k (omega arith) (omega arith))
  made_every F f (suc n) k each (suc j) p e = made_every F f n (suc k) (λ i low high. each i (omega arith) (omega arith)) j p e

  -- one more part is made at the end
  pub made_more : (f : ℕ → P) → (n k : ℕ) → made_from f k (suc n) ≡ made_from f k n ++ f (k + n) ∷ []
  made_more f zero k = λ i. f (at_end i) ∷ []
    where
      at_end : k ≡ k + 0
      at_end = omega arith
  made_more f (suc n) k = ap (λ ps. f k ∷ ps) (made_more f n (suc k) ∙ ap (λ j. made_from f (suc k) n ++ f j ∷ []) further)
    where
      further : suc k + n ≡ k + suc n
      further = omega arith

  -- where each part counts nothing, so do all
  pub made_zero : (g : P → ℕ) (f : ℕ → P) → ((k : ℕ) → g (f k) ≡ 0) → (n k : ℕ) → sum_by g (made_from f k n) ≡ 0
  made_zero g f none zero k = refl
  made_zero g f none (suc n) k = omega (arith, sum_by-cons g (f k) (made_from f (suc k) n), none k, made_zero g f none n (suc k))

  pub made_length : (f : ℕ → P) → (n k : ℕ) → length (made_from f k n) ≡ n
  made_length f zero k = refl
  made_length f (suc n) k = ap suc (made_length f n (suc k))
