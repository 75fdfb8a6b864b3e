-- The places of the elements that pass a test, as a list grows at its end and one element changes.
use Rattle.std.proofs.Common.{◌≡◌, ◌≢◌, ℕ, suc, zero, ◌+◌, ◌<◌, ◌≤◌, Bool, true, false, not, cond, Some, List, [], ◌∷◌, ◌++◌, length, get_or, set, refl, sym, ap, ◌∙◌, subst, arith, eq-eqb, add-zero}
use Rattle.std.specs.List.{slice_get, All, Contains}
use Rattle.std.specs.Prelude.{nat_eq}
use Rattle.std.proofs.lemmas.Bool.{ne_eqb}
use Rattle.std.proofs.lemmas.List.Recursion.{or_at, or_from_places}
use Rattle.std.proofs.lemmas.List.Elements.{All-nil, All-cons, All-weaker}
use Rattle.index_list.specs.Arena.{has_node, without}
use Rattle.rpc_gateway.specs.Places.{places_from, places, prepend_if}

prepend_if-append : (b : Bool) (n : ℕ) (ns ms : List ℕ) → prepend_if b n (ns ++ ms) ≡ prepend_if b n ns ++ ms
prepend_if-append true n ns ms = refl
prepend_if-append false n ns ms = refl

length-prepend_if : (b : Bool) (n m : ℕ) (ns : List ℕ) → length ns ≤ m → length (prepend_if b n ns) ≤ suc m
length-prepend_if true n m ns few = omega arith
length-prepend_if false n m ns few = omega arith

All-prepend_if : (P : ℕ → Type 0) (b : Bool) (n : ℕ) (ns : List ℕ) → P n → All P ns → All P (prepend_if b n ns)
All-prepend_if P true n ns first rest = All-cons P n ns first rest
All-prepend_if P false n ns first rest = rest

Contains-prepend_if : (b : Bool) (n m : ℕ) (ns : List ℕ) → Contains ns m → Contains (prepend_if b n ns) m
Contains-prepend_if true n m ns (k, within, is) = (suc k, omega arith, is)
Contains-prepend_if false n m ns at = at

first_stands : (n : ℕ) (ns : List ℕ) (b : Bool) → b ≡ true → Contains (prepend_if b n ns) (n + 0)
first_stands n ns true is = (0, omega arith, sym (add-zero n))
first_stands n ns false is = absurd (cc)

without-head : (n : ℕ) (ns : List ℕ) → without n (n ∷ ns) ≡ without n ns
without-head n ns = ap (λ b. cond (not b) (n ∷ without n ns) (without n ns)) (eq-eqb n n refl)

without-cons : (m n : ℕ) (ns : List ℕ) → n ≢ m → without m (n ∷ ns) ≡ n ∷ without m ns
without-cons m n ns other = ap (λ b. cond (not b) (n ∷ without m ns) (without m ns)) (ne_eqb m n (λ same. other (sym same)))

without-prepend_if : (b : Bool) (m n : ℕ) (ns : List ℕ) → n ≢ m → without m (prepend_if b n ns) ≡ prepend_if b n (without m ns)
without-prepend_if true m n ns other = without-cons m n ns other
without-prepend_if false m n ns other = refl

without-first : (b : Bool) (n : ℕ) (ns : List ℕ) → without n (prepend_if b n ns) ≡ without n ns
without-first true n ns = without-head n ns
without-first false n ns = refl

has_node-Contains : (n : ℕ) (ns : List ℕ) → Contains ns n → has_node n ns ≡ true
has_node-Contains n ns (k, within, is) =
    or_at (has_node n) (nat_eq n) refl (λ _ _. refl) ns k n within (eq-eqb n (get_or ns k n) (sym is))

module _ {X : Type 0} (p : X → Bool) where
  places_from-push : (n : ℕ) (xs : List X) (y : X) → places_from p n (xs ++ y ∷ []) ≡ places_from p n xs ++ prepend_if (p y) (n + length xs) []
  places_from-push n [] y = ap (λ m. prepend_if (p y) m []) (sym (add-zero n))
  places_from-push n (x ∷ xs) y =
      let shift : (n + 1) + length xs ≡ n + suc (length xs) = omega arith in
      ap (prepend_if (p x) n) (places_from-push (n + 1) xs y ∙ ap (λ m. places_from p (n + 1) xs ++ prepend_if (p y) m []) shift)
      ∙ prepend_if-append (p x) n (places_from p (n + 1) xs) (prepend_if (p y) (n + suc (length xs)) [])

  pub length-places_from : (n : ℕ) (xs : List X) → length (places_from p n xs) ≤ length xs
  length-places_from n [] = omega arith
  length-places_from n (x ∷ xs) = length-prepend_if (p x) n (length xs) (places_from p (n + 1) xs) (length-places_from (n + 1) xs)

  places_from-kept : (n : ℕ) (xs : List X) (i : ℕ) (y : X) → p y ≡ p (get_or xs i y) → places_from p n (set xs i y) ≡ places_from p n xs
  places_from-kept n [] i y same = refl
  places_from-kept n (x ∷ xs) zero y same = ap (λ b. prepend_if b n (places_from p (n + 1) xs)) same
  places_from-kept n (x ∷ xs) (suc i) y same = ap (prepend_if (p x) n) (places_from-kept (n + 1) xs i y same)

  within_places : (n : ℕ) (xs : List X) → All (λ m. (n ≤ m) × (m < n + length xs)) (places_from p n xs)
  within_places n [] = All-nil (λ m. (n ≤ m) × (m < n + 0))
  within_places n (x ∷ xs) =
      let P : ℕ → Type 0 = λ m. (n ≤ m) × (m < n + suc (length xs)) in
      let wider : (m : ℕ) → (n + 1 ≤ m) × (m < (n + 1) + length xs) → P m = λ m h. (omega (arith, h.0), omega (arith, h.1)) in
      All-prepend_if P (p x) n (places_from p (n + 1) xs) (omega arith, omega arith)
      (All-weaker (λ m. (n + 1 ≤ m) × (m < (n + 1) + length xs)) P wider (places_from p (n + 1) xs) (within_places (n + 1) xs))

  without_below : (m n : ℕ) (xs : List X) → m < n → without m (places_from p n xs) ≡ places_from p n xs
  without_below m n [] below = refl
  without_below m n (x ∷ xs) below =
      let other : n ≢ m = omega arith in
      without-prepend_if (p x) m n (places_from p (n + 1) xs) other
      ∙ ap (prepend_if (p x) n) (without_below m (n + 1) xs (omega arith))

  places_from-dropped : (n : ℕ) (xs : List X) (i : ℕ) (y : X) → p y ≡ false → places_from p n (set xs i y) ≡ without (n + i) (places_from p n xs)
  places_from-dropped n [] i y none = refl
  places_from-dropped n (x ∷ xs) zero y none =
      let rest = places_from p (n + 1) xs in
      ap (λ b. prepend_if b n rest) none
      ∙ (sym (without_below n (n + 1) xs (omega arith)) ∙ (sym (without-first (p x) n rest)
      ∙ ap (λ m. without m (prepend_if (p x) n rest)) (sym (add-zero n))))
  places_from-dropped n (x ∷ xs) (suc i) y none =
      let rest = places_from p (n + 1) xs in
      let shift : (n + 1) + i ≡ n + suc i = omega arith in
      let other : n ≢ n + suc i = omega arith in
      ap (prepend_if (p x) n) (places_from-dropped (n + 1) xs i y none ∙ ap (λ m. without m rest) shift)
      ∙ sym (without-prepend_if (p x) (n + suc i) n rest other)

  stands_from : (n : ℕ) (xs : List X) (i : ℕ) (x : X) → slice_get xs i ≡ Some x → p x ≡ true → Contains (places_from p n xs) (n + i)
  stands_from n [] i x is passes = absurd (cc)
  stands_from n (y ∷ ys) zero x is passes =
      let same : y ≡ x = cc in
      first_stands n (places_from p (n + 1) ys) (p y) (ap p same ∙ passes)
  stands_from n (y ∷ ys) (suc i) x is passes =
      let shift : (n + 1) + i ≡ n + suc i = omega arith in
      Contains-prepend_if (p y) n (n + suc i) (places_from p (n + 1) ys)
      (subst (Contains (places_from p (n + 1) ys)) shift (stands_from (n + 1) ys i x is passes))

  -- one more element, at the end
  pub places-push : (xs : List X) (y : X) → places p (xs ++ y ∷ []) ≡ places p xs ++ prepend_if (p y) (length xs) []
  places-push xs y =
      let start : 0 + length xs ≡ length xs = omega arith in
      places_from-push 0 xs y ∙ ap (λ m. places p xs ++ prepend_if (p y) m []) start

  -- an element that changes and passes as before
  pub places-kept : (xs : List X) (i : ℕ) (y : X) → p y ≡ p (get_or xs i y) → places p (set xs i y) ≡ places p xs
  places-kept xs i y same = places_from-kept 0 xs i y same

  -- an element that passes no longer
  pub places-dropped : (xs : List X) (i : ℕ) (y : X) → p y ≡ false → places p (set xs i y) ≡ without i (places p xs)
  places-dropped xs i y none =
      let start : 0 + i ≡ i = omega arith in
      places_from-dropped 0 xs i y none ∙ ap (λ m. without m (places p xs)) start

  -- an element that passes has its place among them
  pub place_stands : (xs : List X) (i : ℕ) (x : X) → slice_get xs i ≡ Some x → p x ≡ true → has_node i (places p xs) ≡ true
  place_stands xs i x is passes =
      let start : 0 + i ≡ i = omega arith in
      has_node-Contains i (places p xs) (subst (Contains (places p xs)) start (stands_from 0 xs i x is passes))

  -- each is the place of an element
  pub places_within : (xs : List X) → All (λ m. m < length xs) (places p xs)
  places_within xs =
      let wider : (m : ℕ) → (0 ≤ m) × (m < 0 + length xs) → m < length xs = λ m h. omega (arith, h.1) in
      All-weaker (λ m. (0 ≤ m) × (m < 0 + length xs)) (λ m. m < length xs) wider (places p xs) (within_places 0 xs)

  -- the place after the last is none of them
  pub place_past : (xs : List X) → has_node (length xs) (places p xs) ≡ false
  place_past xs =
      let below : (k : ℕ) → k < length (places p xs) → nat_eq (length xs) (get_or (places p xs) k 0) ≡ false = λ k within.
      let under = places_within xs k 0 within in
      ne_eqb (length xs) (get_or (places p xs) k 0) (λ same. omega (arith, under, same)) in
      or_from_places (has_node (length xs)) (nat_eq (length xs)) refl (λ _ _. refl) (places p xs) 0 below
