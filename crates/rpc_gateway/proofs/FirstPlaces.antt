-- The first place of an element that passes a test, and the first of a list of places.
use Rattle.std.proofs.Common.{◌≡◌, ℕ, ◌+◌, ◌≤◌, Bool, true, false, ◌&&◌, ◌||◌, cond, Option, Some, None, List, [], ◌∷◌, ◌++◌, length, find, drop, inl, inr, refl, sym, ap, ◌∙◌, subst, arith, append_assoc}
use Rattle.std.specs.List.{position_from, slice_get}
use Rattle.std.specs.Option.{option_and_then, option_map_or, IfSome}
use Rattle.std.proofs.lemmas.List.{drop_all, drop_more, length_push}
use Rattle.std.proofs.lemmas.Bool.{cases_lt}
use Rattle.std.proofs.lemmas.Option.{get_or_from_slice_get, slice_get-get_or, slice_get_within}
use Rattle.rpc_gateway.specs.Places.{places_from, places, first_place, passes_at, lesser, prepend_if}

pub slice_get-middle : {X : Type 0} (pre : List X) (y : X) (ys : List X) → slice_get (pre ++ y ∷ ys) (length pre) ≡ Some y
slice_get-middle [] y ys = refl
slice_get-middle (x ∷ pre) y ys = slice_get-middle pre y ys

find-prepend_if : (t : ℕ → Bool) (b c : Bool) (n : ℕ) (ns : List ℕ) (o : Option ℕ) → t n ≡ c → find t ns ≡ o → find t (prepend_if b n ns) ≡ cond (b && c) (Some n) o
find-prepend_if t true c n ns o is rest = ap (λ b. cond b (Some n) (find t ns)) is ∙ ap (λ r. cond c (Some n) r) rest
find-prepend_if t false c n ns o is rest = rest

found_passes : {X : Type 0} (p : X → Bool) (b : Bool) (y : X) (o : Option X) (x : X) → p y ≡ b → (o ≡ Some x → p x ≡ true) → cond b (Some y) o ≡ Some x → p x ≡ true
found_passes p true y o x here rest is = let same : y ≡ x = cc in subst (λ z. p z ≡ true) same here
found_passes p false y o x here rest is = rest is

module _ {X : Type 0} where
  position_from-agree : (p q : X → Bool) → ((x : X) → p x ≡ q x) → (n : ℕ) (xs : List X) → position_from p n xs ≡ position_from q n xs
  position_from-agree p q agree n [] = refl
  position_from-agree p q agree n (x ∷ xs) =
      ap (λ b. cond b (Some n) (position_from p (n + 1) xs)) (agree x)
      ∙ ap (λ r. cond (q x) (Some n) r) (position_from-agree p q agree (n + 1) xs)

  find_from : (p q : X → Bool) (pre ys : List X) → find (passes_at q (pre ++ ys)) (places_from p (length pre) ys) ≡ position_from (λ x. p x && q x) (length pre) ys
  find_from p q pre [] = refl
  find_from p q pre (y ∷ ys) =
      let t : ℕ → Bool = passes_at q (pre ++ y ∷ ys) in
      let here : t (length pre) ≡ q y = ap (λ o. option_map_or q o false) (slice_get-middle pre y ys) in
      let joined : (pre ++ y ∷ []) ++ ys ≡ pre ++ y ∷ ys = append_assoc pre (y ∷ []) ys in
      let longer : length (pre ++ y ∷ []) ≡ length pre + 1 = length_push pre y in
      let next : find (passes_at q ((pre ++ y ∷ []) ++ ys)) (places_from p (length (pre ++ y ∷ [])) ys) ≡ position_from (λ x. p x && q x) (length (pre ++ y ∷ [])) ys = find_from p q (pre ++ y ∷ []) ys in
      let at_all : find t (places_from p (length (pre ++ y ∷ [])) ys) ≡ position_from (λ x. p x && q x) (length (pre ++ y ∷ [])) ys =
      subst (λ (whole : List X). find (passes_at q whole) (places_from p (length (pre ++ y ∷ [])) ys) ≡ position_from (λ x. p x && q x) (length (pre ++ y ∷ [])) ys) joined next in
      let rest : find t (places_from p (length pre + 1) ys) ≡ position_from (λ x. p x && q x) (length pre + 1) ys =
      subst (λ (n : ℕ). find t (places_from p n ys) ≡ position_from (λ x. p x && q x) n ys) longer at_all in
      find-prepend_if t (p y) (q y) (length pre) (places_from p (length pre + 1) ys) (position_from (λ x. p x && q x) (length pre + 1) ys) here rest

  -- the first of the places of those that pass whose element passes a second test too
  pub find-places : (p q : X → Bool) (xs : List X) → find (passes_at q xs) (places p xs) ≡ first_place (λ x. p x && q x) xs
  find-places p q xs = find_from p q [] xs

  pub first_place-agree : (p q : X → Bool) → ((x : X) → p x ≡ q x) → (xs : List X) → first_place p xs ≡ first_place q xs
  first_place-agree p q agree xs = position_from-agree p q agree 0 xs

found_here : {X : Type 0} (t : ℕ → Option X) (b : Bool) (n : ℕ) (y : X) (o : Option X) (r : Option ℕ) → t n ≡ Some y → o ≡ option_and_then t r → cond b (Some y) o ≡ option_and_then t (cond b (Some n) r)
found_here t true n y o r is rest = sym is
found_here t false n y o r is rest = rest

lesser_first : (a b : Bool) (n : ℕ) (r s : Option ℕ) → IfSome r (λ m. n ≤ m) → IfSome s (λ m. n ≤ m) → cond (a || b) (Some n) (lesser r s) ≡ lesser (cond a (Some n) r) (cond b (Some n) s)
lesser_first true true n r s low high = ap Some (omega arith)
lesser_first true false n r None low high = refl
lesser_first true false n r (Some m) low high = ap Some (omega arith)
lesser_first false true n None s low high = refl
lesser_first false true n (Some m) s low high = ap Some (omega arith)
lesser_first false false n r s low high = refl

at_least_first : (b : Bool) (n : ℕ) (r : Option ℕ) → IfSome r (λ m. n + 1 ≤ m) → IfSome (cond b (Some n) r) (λ m. n ≤ m)
at_least_first true n r later = omega arith
at_least_first false n None later = later
at_least_first false n (Some m) later = omega arith

not_less : (n : ℕ) (r : Option ℕ) → IfSome r (λ m. n + 1 ≤ m) → IfSome r (λ m. n ≤ m)
not_less n None later = later
not_less n (Some m) later = omega arith

module _ {X : Type 0} where
  first_from : (p : X → Bool) (pre ys : List X) → find p ys ≡ option_and_then (slice_get (pre ++ ys)) (position_from p (length pre) ys)
  first_from p pre [] = refl
  first_from p pre (y ∷ ys) =
      let t : ℕ → Option X = slice_get (pre ++ y ∷ ys) in
      let joined : (pre ++ y ∷ []) ++ ys ≡ pre ++ y ∷ ys = append_assoc pre (y ∷ []) ys in
      let longer : length (pre ++ y ∷ []) ≡ length pre + 1 = length_push pre y in
      let next : find p ys ≡ option_and_then (slice_get ((pre ++ y ∷ []) ++ ys)) (position_from p (length (pre ++ y ∷ [])) ys) = first_from p (pre ++ y ∷ []) ys in
      let at_all : find p ys ≡ option_and_then t (position_from p (length (pre ++ y ∷ [])) ys) =
      subst (λ (whole : List X). find p ys ≡ option_and_then (slice_get whole) (position_from p (length (pre ++ y ∷ [])) ys)) joined next in
      let rest : find p ys ≡ option_and_then t (position_from p (length pre + 1) ys) =
      subst (λ (n : ℕ). find p ys ≡ option_and_then t (position_from p n ys)) longer at_all in
      found_here t (p y) (length pre) y (find p ys) (position_from p (length pre + 1) ys) (slice_get-middle pre y ys) rest

  -- the first element that passes stands at the first such place
  pub find-first_place : (p : X → Bool) (xs : List X) → find p xs ≡ option_and_then (slice_get xs) (first_place p xs)
  find-first_place p xs = first_from p [] xs

  at_least : (p : X → Bool) (n : ℕ) (xs : List X) → IfSome (position_from p n xs) (λ m. n ≤ m)
  at_least p n [] = tt
  at_least p n (x ∷ xs) = at_least_first (p x) n (position_from p (n + 1) xs) (at_least p (n + 1) xs)

  lesser_from : (p q : X → Bool) (n : ℕ) (xs : List X) → position_from (λ x. p x || q x) n xs ≡ lesser (position_from p n xs) (position_from q n xs)
  lesser_from p q n [] = refl
  lesser_from p q n (x ∷ xs) =
      ap (λ r. cond (p x || q x) (Some n) r) (lesser_from p q (n + 1) xs)
      ∙ lesser_first (p x) (q x) n (position_from p (n + 1) xs) (position_from q (n + 1) xs)
      (not_less n (position_from p (n + 1) xs) (at_least p (n + 1) xs)) (not_less n (position_from q (n + 1) xs) (at_least q (n + 1) xs))

  -- the first that passes one of two tests
  pub first_place-or : (p q : X → Bool) (xs : List X) → first_place (λ x. p x || q x) xs ≡ lesser (first_place p xs) (first_place q xs)
  first_place-or p q xs = lesser_from p q 0 xs

  nowhere_from : (p : X → Bool) → ((x : X) → p x ≡ false) → (n : ℕ) (xs : List X) → position_from p n xs ≡ None
  nowhere_from p none n [] = refl
  nowhere_from p none n (x ∷ xs) = ap (λ b. cond b (Some n) (position_from p (n + 1) xs)) (none x) ∙ nowhere_from p none (n + 1) xs

  -- no element passes a test that always fails
  pub first_place-none : (p : X → Bool) → ((x : X) → p x ≡ false) → (xs : List X) → first_place p xs ≡ None
  first_place-none p none xs = nowhere_from p none 0 xs

  pub find_passes : (p : X → Bool) (xs : List X) (x : X) → find p xs ≡ Some x → p x ≡ true
  find_passes p [] x is = absurd (cc)
  find_passes p (y ∷ ys) x is = found_passes p (p y) y (find p ys) x refl (find_passes p ys x) is

-- a walk along a list of numbers: what is found from a place on is found in the list
drop_at : (ns : List ℕ) (k n : ℕ) → slice_get ns k ≡ Some n → drop k ns ≡ n ∷ drop (k + 1) ns
drop_at ns k n is =
    let within = slice_get_within ns k n is in
    drop_more ns k n within ∙ ap (λ m. m ∷ drop (k + 1) ns) (get_or_from_slice_get ns k n n is)

module _ (t : ℕ → Bool) (ns : List ℕ) (k : ℕ) (so_far : find t (drop k ns) ≡ find t ns) where
  pub walk_on : (n : ℕ) → slice_get ns k ≡ Some n → t n ≡ false → find t (drop (k + 1) ns) ≡ find t ns
  walk_on n is fails = sym (ap (λ b. cond b (Some n) (find t (drop (k + 1) ns))) fails) ∙ (sym (ap (find t) (drop_at ns k n is)) ∙ so_far)

  pub walk_found : (n : ℕ) → slice_get ns k ≡ Some n → t n ≡ true → Some n ≡ find t ns
  walk_found n is passes = sym (ap (λ b. cond b (Some n) (find t (drop (k + 1) ns))) passes) ∙ (sym (ap (find t) (drop_at ns k n is)) ∙ so_far)

  pub walk_ended : length ns ≤ k → None ≡ find t ns
  walk_ended past = sym (ap (find t) (drop_all k ns past)) ∙ so_far

  pub walk_missed : slice_get ns k ≡ None → None ≡ find t ns
  walk_missed none =
      elim (cases_lt k (length ns)) [
        | inl within ↦ let there = slice_get-get_or ns k 0 within in absurd (cc)
        | inr past ↦ walk_ended past
      ]
