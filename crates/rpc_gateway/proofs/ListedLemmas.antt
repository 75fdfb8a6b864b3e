-- The lists of places and the counts, as an element comes, changes or leaves its list.
use Rattle.std.proofs.Common.{◌≡◌, ◌≢◌, ℕ, ◌+◌, ◌-◌, ◌<◌, ◌≤◌, Bool, true, false, ◌&&◌, inl, inr, cond, Some, None, List, [], ◌∷◌, ◌++◌, length, get_or, set, map, refl, sym, ap, ◌∙◌, subst, arith, eq-eqb, find, get_or-set_same, get_or-set_other, length-set, append-nil}
use Rattle.std.specs.List.{slice_get, count_by, All}
use Rattle.std.specs.Option.{IsSome}
use Rattle.std.specs.Prelude.{nat_eq}
use Rattle.std.proofs.lemmas.Bool.{cases_eq, ne_eqb, and_left}
use Rattle.std.proofs.lemmas.List.{get_or-map, length-map}
use Rattle.std.proofs.lemmas.Option.{get_or_from_slice_get}
use Rattle.index_list.specs.Arena.{has_node, list_at, list_with, without}
use Rattle.rpc_gateway.specs.Listed.{AreCounted, AreListed, stands_in}
use Rattle.rpc_gateway.specs.Places.{first_place, passes_at, places, prepend_if}
use Rattle.rpc_gateway.proofs.FirstPlaces.{find-places}
use Rattle.rpc_gateway.proofs.ListLemmas.{count_by-push, count_by-set, list_with_none, list_with_some}
use Rattle.rpc_gateway.proofs.PlaceLemmas.{place_past, place_stands, places-dropped, places-kept, places-push, places_within, length-places_from}

-- a live element stands in the list of its key, and in no other
stands_at_key : (live : Bool) (key : ℕ) → live ≡ true → (live && nat_eq key key) ≡ true
stands_at_key live key is = ap (λ b. b && nat_eq key key) is ∙ eq-eqb key key refl

stands_nowhere_else : (live : Bool) (key list : ℕ) → list ≢ key → (live && nat_eq key list) ≡ false
stands_nowhere_else true key list other = ne_eqb key list (λ same. other (sym same))
stands_nowhere_else false key list other = refl

module _ {X : Type 0} (live : X → Bool) (key : X → ℕ) where
  pub AreListed-push : (lists : List (List ℕ)) (xs : List X) (y : X) (list : ℕ) → key y ≡ list → list < length lists → live y ≡ true → AreListed live key lists xs → AreListed live key (set lists list (list_at lists list ++ length xs ∷ [])) (xs ++ y ∷ [])
  AreListed-push lists xs y list keyed within alive old = record { listed = at }
    where
      at : (k : ℕ) → k < length (set lists list (list_at lists list ++ length xs ∷ [])) → list_at (set lists list (list_at lists list ++ length xs ∷ [])) k ≡ places (stands_in live key k) (xs ++ y ∷ [])
      at k below =
          let in_lists : k < length lists = subst (λ n. k < n) (length-set lists list (list_at lists list ++ length xs ∷ [])) below in
          elim (cases_eq k list) [
            | inl same ↦
                let here : list_at (set lists list (list_at lists list ++ length xs ∷ [])) list ≡ list_at lists list ++ length xs ∷ [] = get_or-set_same lists list (list_at lists list ++ length xs ∷ []) [] within in
                let stands : stands_in live key list y ≡ true = ap (λ n. live y && nat_eq n list) keyed ∙ stands_at_key (live y) list alive in
                let last : places (stands_in live key list) (xs ++ y ∷ []) ≡ places (stands_in live key list) xs ++ length xs ∷ [] =
                places-push (stands_in live key list) xs y ∙ ap (λ b. places (stands_in live key list) xs ++ prepend_if b (length xs) []) stands in
                subst (λ n. list_at (set lists list (list_at lists list ++ length xs ∷ [])) n ≡ places (stands_in live key n) (xs ++ y ∷ [])) (sym same)
                (here ∙ (ap (λ ns. ns ++ length xs ∷ []) (old.listed list within) ∙ sym last))
            | inr other ↦
                let apart : stands_in live key k y ≡ false = ap (λ n. live y && nat_eq n k) keyed ∙ stands_nowhere_else (live y) list k other in
                get_or-set_other lists list k (list_at lists list ++ length xs ∷ []) [] other
                ∙ (old.listed k in_lists ∙ sym (places-push (stands_in live key k) xs y ∙ (ap (λ b. places (stands_in live key k) xs ++ prepend_if b (length xs) []) apart ∙ append-nil (places (stands_in live key k) xs))))
          ]

  pub AreListed-kept : (lists : List (List ℕ)) (xs : List X) (i : ℕ) (x y : X) → slice_get xs i ≡ Some x → live y ≡ live x → key y ≡ key x → AreListed live key lists xs → AreListed live key lists (set xs i y)
  AreListed-kept lists xs i x y is lives keyed old = record { listed = at }
    where
      at : (k : ℕ) → k < length lists → list_at lists k ≡ places (stands_in live key k) (set xs i y)
      at k below =
          let there : get_or xs i y ≡ x = get_or_from_slice_get xs i x y is in
          let same : stands_in live key k y ≡ stands_in live key k (get_or xs i y) =
          ap (λ b. b && nat_eq (key y) k) lives ∙ (ap (λ n. live x && nat_eq n k) keyed ∙ ap (stands_in live key k) (sym there)) in
          old.listed k below ∙ sym (places-kept (stands_in live key k) xs i y same)

  pub AreListed-dropped : (lists : List (List ℕ)) (xs : List X) (i : ℕ) (y : X) → live y ≡ false → AreListed live key lists xs → AreListed live key (map (without i) lists) (set xs i y)
  AreListed-dropped lists xs i y dead old = record { listed = at }
    where
      at : (k : ℕ) → k < length (map (without i) lists) → list_at (map (without i) lists) k ≡ places (stands_in live key k) (set xs i y)
      at k below =
          let in_lists : k < length lists = subst (λ n. k < n) (length-map lists (without i)) below in
          let none : stands_in live key k y ≡ false = and_left (live y) (nat_eq (key y) k) dead in
          get_or-map (without i) lists k [] [] in_lists
          ∙ (ap (without i) (old.listed k in_lists) ∙ sym (places-dropped (stands_in live key k) xs i y none))

  pub next_is_free : (lists : List (List ℕ)) (xs : List X) → AreListed live key lists xs → list_with lists (length xs) ≡ None
  next_is_free lists xs old = list_with_none lists (length xs) (λ k below. ap (has_node (length xs)) (old.listed k below) ∙ place_past (stands_in live key k) xs)

  pub live_stands : (lists : List (List ℕ)) (xs : List X) (i : ℕ) (x : X) → slice_get xs i ≡ Some x → live x ≡ true → key x < length lists → AreListed live key lists xs → IsSome (list_with lists i)
  live_stands lists xs i x is alive below old =
      list_with_some lists (key x) i below
      (ap (has_node i) (old.listed (key x) below) ∙ place_stands (stands_in live key (key x)) xs i x is (stands_at_key (live x) (key x) alive))

  -- the first of a list whose element passes a test
  pub find-listed : (lists : List (List ℕ)) (xs : List X) (list : ℕ) (q : X → Bool) → list < length lists → AreListed live key lists xs → find (passes_at q xs) (list_at lists list) ≡ first_place (λ x. stands_in live key list x && q x) xs
  find-listed lists xs list q below old = ap (find (passes_at q xs)) (old.listed list below) ∙ find-places (stands_in live key list) q xs

  pub listed_within : (lists : List (List ℕ)) (xs : List X) (list : ℕ) → list < length lists → AreListed live key lists xs → All (λ n. n < length xs) (list_at lists list)
  listed_within lists xs list below old = subst (λ ns. All (λ n. n < length xs) ns) (sym (old.listed list below)) (places_within (stands_in live key list) xs)

  pub length-listed : (lists : List (List ℕ)) (xs : List X) (list : ℕ) → list < length lists → AreListed live key lists xs → length (list_at lists list) ≤ length xs
  length-listed lists xs list below old = subst (λ ns. length ns ≤ length xs) (sym (old.listed list below)) (length-places_from (stands_in live key list) 0 xs)

module _ {X : Type 0} (test : ℕ → X → Bool) where
  pub AreCounted-push : (counts : List ℕ) (xs : List X) (y : X) (n : ℕ) → test n y ≡ true → ((k : ℕ) → k ≢ n → test k y ≡ false) → AreCounted test counts xs → AreCounted test (set counts n (get_or counts n 0 + 1)) (xs ++ y ∷ [])
  AreCounted-push counts xs y n passes alone old = record { counted = at }
    where
      at : (k : ℕ) → k < length (set counts n (get_or counts n 0 + 1)) → get_or (set counts n (get_or counts n 0 + 1)) k 0 ≡ count_by (test k) (xs ++ y ∷ [])
      at k below =
          let in_counts : k < length counts = subst (λ m. k < m) (length-set counts n (get_or counts n 0 + 1)) below in
          elim (cases_eq k n) [
            | inl same ↦
                let within : n < length counts = subst (λ m. m < length counts) same in_counts in
                let here : get_or (set counts n (get_or counts n 0 + 1)) n 0 ≡ get_or counts n 0 + 1 = get_or-set_same counts n (get_or counts n 0 + 1) 0 within in
                let more : count_by (test n) (xs ++ y ∷ []) ≡ count_by (test n) xs + 1 = count_by-push (test n) xs y ∙ ap (λ b. count_by (test n) xs + cond b 1 0) passes in
                subst (λ m. get_or (set counts n (get_or counts n 0 + 1)) m 0 ≡ count_by (test m) (xs ++ y ∷ [])) (sym same)
                (here ∙ (ap (λ m. m + 1) (old.counted n within) ∙ sym more))
            | inr other ↦
                let more : count_by (test k) (xs ++ y ∷ []) ≡ count_by (test k) xs + 0 = count_by-push (test k) xs y ∙ ap (λ b. count_by (test k) xs + cond b 1 0) (alone k other) in
                let kept : get_or (set counts n (get_or counts n 0 + 1)) k 0 ≡ get_or counts k 0 = get_or-set_other counts n k (get_or counts n 0 + 1) 0 other in
                let was = old.counted k in_counts in
                omega (arith, more, kept, was)
          ]

  pub AreCounted-kept : (counts : List ℕ) (xs : List X) (i : ℕ) (x y : X) → slice_get xs i ≡ Some x → ((k : ℕ) → test k y ≡ test k x) → AreCounted test counts xs → AreCounted test counts (set xs i y)
  AreCounted-kept counts xs i x y is same old = record { counted = at }
    where
      at : (k : ℕ) → k < length counts → get_or counts k 0 ≡ count_by (test k) (set xs i y)
      at k below =
          let change : count_by (test k) (set xs i y) + cond (test k x) 1 0 ≡ count_by (test k) xs + cond (test k x) 1 0 = count_by-set (test k) xs i x y is ∙ ap (λ b. count_by (test k) xs + cond b 1 0) (same k) in
          let was = old.counted k below in
          omega (arith, change, was)

  pub AreCounted-dropped : (counts : List ℕ) (xs : List X) (i n : ℕ) (x y : X) → slice_get xs i ≡ Some x → test n x ≡ true → ((k : ℕ) → k ≢ n → test k x ≡ false) → ((k : ℕ) → test k y ≡ false) → AreCounted test counts xs → AreCounted test (set counts n (get_or counts n 0 - 1)) (set xs i y)
  AreCounted-dropped counts xs i n x y is passes alone none old = record { counted = at }
    where
      at : (k : ℕ) → k < length (set counts n (get_or counts n 0 - 1)) → get_or (set counts n (get_or counts n 0 - 1)) k 0 ≡ count_by (test k) (set xs i y)
      at k below =
          let in_counts : k < length counts = subst (λ m. k < m) (length-set counts n (get_or counts n 0 - 1)) below in
          let change = count_by-set (test k) xs i x y is in
          elim (cases_eq k n) [
            | inl same ↦
                let within : n < length counts = subst (λ m. m < length counts) same in_counts in
                let here : get_or (set counts n (get_or counts n 0 - 1)) n 0 ≡ get_or counts n 0 - 1 = get_or-set_same counts n (get_or counts n 0 - 1) 0 within in
                let less : count_by (test n) (set xs i y) + 1 ≡ count_by (test n) xs + 0 = ap (λ b. count_by (test n) (set xs i y) + cond b 1 0) (sym passes) ∙ (count_by-set (test n) xs i x y is ∙ ap (λ b. count_by (test n) xs + cond b 1 0) (none n)) in
                let was = old.counted n within in
                let at_n : get_or (set counts n (get_or counts n 0 - 1)) n 0 ≡ count_by (test n) (set xs i y) = omega (arith, here, less, was) in
                subst (λ m. get_or (set counts n (get_or counts n 0 - 1)) m 0 ≡ count_by (test m) (set xs i y)) (sym same) at_n
            | inr other ↦
                let less : count_by (test k) (set xs i y) + 0 ≡ count_by (test k) xs + 0 = ap (λ b. count_by (test k) (set xs i y) + cond b 1 0) (sym (alone k other)) ∙ (count_by-set (test k) xs i x y is ∙ ap (λ b. count_by (test k) xs + cond b 1 0) (none k)) in
                let kept : get_or (set counts n (get_or counts n 0 - 1)) k 0 ≡ get_or counts k 0 = get_or-set_other counts n k (get_or counts n 0 - 1) 0 other in
                let was = old.counted k in_counts in
                omega (arith, less, kept, was)
          ]
