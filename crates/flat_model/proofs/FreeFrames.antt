-- The frames without an owner, found from the first on.
use Rattle.std.proofs.Common.{◌≡◌, ℕ, zero, suc, ◌+◌, ◌<◌, ◌≤◌, Bool, true, false, cond, Option, Some, None, List, [], ◌∷◌, ◌++◌, refl, sym, ap, ◌∙◌, subst, arith, drop, get_or, length, nat_le, take, replicate}
use Rattle.std.specs.Prelude.{set, slice_set, is_some, Ok, Err}
use Rattle.std.proofs.lemmas.Bool.Decides.{nat_tests}
use Rattle.std.proofs.lemmas.Bool.{false≢true, true≢false}
use Rattle.std.proofs.lemmas.List.{append-nil, length-append, length-set, length-take, length-take-le, take-append-drop, take-replicate, take_more}
use Rattle.std.proofs.Math.Seq.{take-append_seam}
use Rattle.addr_base.specs.declared.identity.BoxId.{BoxId}
use Rattle.flat_model.specs.declared.boards.HeapPart.{HeapPart}
use Rattle.flat_model.specs.declared.events.Frames.{Frames}
use Rattle.flat_model.specs.Kernel.{told}
use Rattle.flat_model.specs.Pages.{allocation, frames_of, frames_or_none, free_frames, is_bad_count, least_free, with_owner}

-- the free frames of two lists, one after the other
pub free_after : (k : ℕ) (first second : List (Option BoxId)) →
    free_frames k (first ++ second) ≡ free_frames k first ++ free_frames (k + length first) second
free_after k [] second =
    let same : k ≡ k + length {A = Option BoxId} [] = omega arith in ap (λ n. free_frames n second) same
free_after k (None ∷ first) second =
    let same : k + 1 + length first ≡ k + length (None ∷ first) = omega arith in
    ap (λ xs. k ∷ xs) (free_after (k + 1) first second ∙ ap (λ n. free_frames (k + 1) first ++ free_frames n second) same)
free_after k (Some owner ∷ first) second =
    let same : k + 1 + length first ≡ k + length (Some owner ∷ first) = omega arith in
    free_after (k + 1) first second ∙ ap (λ n. free_frames (k + 1) first ++ free_frames n second) same

-- what those that were found and the others come to
all_free : (i : ℕ) (owners : List (Option BoxId)) →
    free_frames 0 owners ≡ free_frames 0 (take i owners) ++ free_frames (0 + length (take i owners)) (drop i owners)
all_free i owners = ap (free_frames 0) (sym (take-append-drop i owners)) ∙ free_after 0 (take i owners) (drop i owners)

enough_by : (fs rest : List ℕ) (b : Bool) → nat_le (length fs) (length (fs ++ rest)) ≡ b →
    cond b (Some (take (length fs) (fs ++ rest))) None ≡ Some fs
enough_by fs rest true is = ap (λ (xs : List ℕ). Some xs) (take-append_seam fs rest)
enough_by fs rest false is = absurd (let long = length-append fs rest in grind (arith, nat_tests))

-- so many were found among the first owners: they are the least
pub found_enough : (n i : ℕ) (owners : List (Option BoxId)) → length (free_frames 0 (take i owners)) ≡ n →
    least_free n owners ≡ Some (free_frames 0 (take i owners))
found_enough n i owners many =
    let fs = free_frames 0 (take i owners) in
    let rest = free_frames (0 + length (take i owners)) (drop i owners) in
    ap (λ k. least_free k owners) (sym many)
    ∙ ap (λ (xs : List ℕ). cond (nat_le (length fs) (length xs)) (Some (take (length fs) xs)) None) (all_free i owners)
    ∙ enough_by fs rest (nat_le (length fs) (length (fs ++ rest))) refl

push_by : (m : ℕ) (fs : List ℕ) (x : ℕ) → length fs < m → m ≤ 16 →
    take m ((fs ++ x ∷ []) ++ replicate 16 0) ≡ set (take m (fs ++ replicate 16 0)) (length fs) x
push_by zero fs x some few = absurd (omega (arith, some))
push_by (suc m) [] x some few =
    ap (λ xs. x ∷ xs) (take-replicate m 16 0 (omega (arith, few)) ∙ sym (take-replicate m 15 0 (omega (arith, few))))
push_by (suc m) (f ∷ fs) x some few =
    ap (λ xs. f ∷ xs) (push_by m fs x (let e : length (f ∷ fs) < suc m = some in omega (arith, e)) (omega (arith, few)))

-- one frame more
pub push_frame : (fs : List ℕ) (x : ℕ) → length fs < 16 →
    frames_of (fs ++ x ∷ []) ≡ record { n = length fs + 1; list = set (frames_of fs).list (length fs) x }
push_frame fs x few =
    let long : length (fs ++ x ∷ []) ≡ length fs + 1 = length-append fs (x ∷ []) in
    ap (λ n. record { n = n; list = take 16 ((fs ++ x ∷ []) ++ replicate 16 0) }) long
    ∙ ap (λ (xs : List ℕ). record { n = length fs + 1; list = xs }) (push_by 16 fs x few (omega arith))

next_free : (owners : List (Option BoxId)) (i : ℕ) → i < length owners →
    free_frames 0 (take (i + 1) owners) ≡ free_frames 0 (take i owners) ++ free_frames i (get_or owners i None ∷ [])
next_free owners i below =
    let long : 0 + length (take i owners) ≡ i = omega (arith, length-take-le i owners (omega (arith, below))) in
    ap (free_frames 0) (take_more owners i None below)
    ∙ free_after 0 (take i owners) (get_or owners i None ∷ [])
    ∙ ap (λ n. free_frames 0 (take i owners) ++ free_frames n (get_or owners i None ∷ [])) long

free_by : (i : ℕ) (owner : Option BoxId) → is_some owner ≡ false → free_frames i (owner ∷ []) ≡ i ∷ []
free_by i None is = refl
free_by i (Some owner) is = absurd (true≢false is)

owned_by : (i : ℕ) (owner : Option BoxId) → is_some owner ≡ true → free_frames i (owner ∷ []) ≡ []
owned_by i None is = absurd (false≢true is)
owned_by i (Some owner) is = refl

-- the next page is free
pub next_is_free : (owners : List (Option BoxId)) (i : ℕ) → i < length owners → is_some (get_or owners i None) ≡ false →
    free_frames 0 (take (i + 1) owners) ≡ free_frames 0 (take i owners) ++ i ∷ []
next_is_free owners i below is =
    next_free owners i below ∙ ap (λ xs. free_frames 0 (take i owners) ++ xs) (free_by i (get_or owners i None) is)

-- the next page has an owner
pub next_is_owned : (owners : List (Option BoxId)) (i : ℕ) → i < length owners → is_some (get_or owners i None) ≡ true →
    free_frames 0 (take (i + 1) owners) ≡ free_frames 0 (take i owners)
next_is_owned owners i below is =
    next_free owners i below
    ∙ ap (λ xs. free_frames 0 (take i owners) ++ xs) (owned_by i (get_or owners i None) is)
    ∙ append-nil (free_frames 0 (take i owners))

-- one frame more was found
pub found_one : (frames : Frames) (fs more : List ℕ) (x : ℕ) → frames ≡ frames_of fs → more ≡ fs ++ x ∷ [] → length fs < 16 →
    record { n = frames.n + 1; list = set frames.list frames.n x } ≡ frames_of more
found_one frames fs more x are is few =
    ap (λ (f : Frames). record { n = f.n + 1; list = set f.list f.n x }) are ∙ sym (push_frame fs x few) ∙ sym (ap frames_of is)

take_take : (n m : ℕ) (xs : List ℕ) → n ≤ m → take n (take m xs) ≡ take n xs
take_take zero m xs few = refl
take_take (suc n) zero xs few = absurd (omega (arith, few))
take_take (suc n) (suc m) [] few = refl
take_take (suc n) (suc m) (x ∷ xs) few = ap (λ ys. x ∷ ys) (take_take n m xs (omega (arith, few)))

told_by : (fs : List ℕ) (frames : Frames) → length fs ≤ 16 → frames ≡ frames_of fs → fs ≡ take frames.n frames.list
told_by fs frames few are =
    sym (take-append_seam fs (replicate 16 0))
    ∙ sym (take_take (length fs) 16 (fs ++ replicate 16 0) few)
    ∙ sym (ap (λ (f : Frames). take f.n f.list) are)

-- frames that change hands leave as many owners
pub length-with_owner : (owner : Option BoxId) (frames : List ℕ) (owners : List (Option BoxId)) →
    length (with_owner owner frames owners) ≡ length owners
length-with_owner owner [] owners = refl
length-with_owner owner (frame ∷ frames) owners =
    length-with_owner owner frames (slice_set owners frame owner) ∙ length-set owners frame owner

-- ---- what an allocation gave, from its answer

same_frames : (fs : List ℕ) (frames : Frames) → told (Ok fs) ≡ Ok frames → frames ≡ frames_of fs
same_frames fs frames is = let e : Ok (frames_of fs) ≡ Ok frames = is in cc

least_length : (n : ℕ) (owners : List (Option BoxId)) (fs : List ℕ) (b : Bool) → nat_le n (length (free_frames 0 owners)) ≡ b →
    cond b (Some (take n (free_frames 0 owners))) None ≡ Some fs → length fs ≤ n
least_length n owners fs true enough is =
    let same : take n (free_frames 0 owners) ≡ fs = cc in
    let long = length-take n (free_frames 0 owners) in
    subst (λ (xs : List ℕ). length xs ≤ n) same (omega (arith, long))
least_length n owners fs false enough is = absurd (let e : None ≡ Some fs = is in cc)

frames_told : (heap : Option HeapPart) (n : ℕ) (owners : List (Option BoxId)) (least : Option (List ℕ)) (frames : Frames) →
    least_free n owners ≡ least → n ≤ 16 → told (frames_or_none heap least) ≡ Ok frames →
    frames_or_none heap least ≡ Ok (take frames.n frames.list)
frames_told None n owners least frames are few is = absurd (let e : Err 5 ≡ Ok frames = is in cc)
frames_told (Some heap) n owners None frames are few is = absurd (let e : Err 5 ≡ Ok frames = is in cc)
frames_told (Some heap) n owners (Some fs) frames are few is =
    let short = least_length n owners fs (nat_le n (length (free_frames 0 owners))) refl are in
    ap (λ (xs : List ℕ). Ok xs) (told_by fs frames (omega (arith, short, few)) (same_frames fs frames is))

few_of : (n : ℕ) → is_bad_count n ≡ false → n ≤ 16
few_of n good = grind (arith, nat_tests)

-- the frames of an allocation are those that its answer tells
pub told_back : (heap : Option HeapPart) (may : Bool) (n : ℕ) (owners : List (Option BoxId)) (frames : Frames) →
    told (allocation heap may n owners) ≡ Ok frames → allocation heap may n owners ≡ Ok (take frames.n frames.list)
told_back heap may n owners frames is = by_count (is_bad_count n) refl may is
  where
    by_count : (b : Bool) → is_bad_count n ≡ b → (may : Bool) →
        told (cond b (Err 13) (cond may (frames_or_none heap (least_free n owners)) (Err 6))) ≡ Ok frames →
        cond b (Err 13) (cond may (frames_or_none heap (least_free n owners)) (Err 6)) ≡ Ok (take frames.n frames.list)
    by_count true bad may is = absurd (let e : Err 13 ≡ Ok frames = is in cc)
    by_count false good false is = absurd (let e : Err 6 ≡ Ok frames = is in cc)
    by_count false good true is = frames_told heap n owners (least_free n owners) frames refl (few_of n good) is
