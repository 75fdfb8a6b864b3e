-- The free frames of a heap: which they are at first, once the least is given, and once one comes back.
use Rattle.std.proofs.Common.{◌≡◌, ℕ, zero, suc, ◌+◌, ◌-◌, ◌<◌, ◌≤◌, true, false, cond, ltb, Option, Some, None, get_or, List, [], ◌∷◌, ◌++◌, length, take, replicate, refl, sym, ap, ◌∙◌, subst, arith}
use Rattle.std.specs.List.{AllByRecursion, slice_set}
use Rattle.std.proofs.lemmas.Bool.{le-ltb, lt-ltb}
use Rattle.std.proofs.lemmas.List.{length-set}
use Rattle.addr_base.specs.declared.identity.BoxId.{BoxId}
use Rattle.flat_model.specs.Pages.{free_frames, with_owner}
use Rattle.page_heap.specs.Listed.{with_place}

-- one more frame without an owner is the last free one
pub free_frames-more : (k n : ℕ) → free_frames k (replicate (suc n) None) ≡ free_frames k (replicate n None) ++ (k + n) ∷ []
free_frames-more k zero = let same : k ≡ k + 0 = omega arith in ap (λ m. m ∷ []) same
free_frames-more k (suc n) =
    let same : (k + 1) + n ≡ k + suc n = omega arith in
    ap (λ fs. k ∷ fs) (free_frames-more (k + 1) n ∙ ap (λ m. free_frames (k + 1) (replicate n None) ++ m ∷ []) same)

-- the least free frame, and what is free once a box owns it
pub record IsLeast (k : ℕ) (owners : List (Option BoxId)) (frame : ℕ) (rest : List ℕ) (owner : Option BoxId) : Type 0 where
  pub place : ℕ
  pub at : frame ≡ k + place
  pub within : place < length owners
  pub no_owner : get_or owners place None ≡ None
  pub others : free_frames k (slice_set owners place owner) ≡ rest

pub least_given : (k : ℕ) (owners : List (Option BoxId)) (frame : ℕ) (rest : List ℕ) (b : BoxId) →
    free_frames k owners ≡ frame ∷ rest → IsLeast k owners frame rest (Some b)
least_given k [] frame rest b is = absurd (cc)
least_given k (None ∷ owners) frame rest b is =
    let first : k ≡ frame = cc in
    let others : free_frames (k + 1) owners ≡ rest = cc in
    record { place = 0; at = omega arith; within = omega arith; no_owner = refl; others = others }
least_given k (Some o ∷ owners) frame rest b is =
    let later = least_given (k + 1) owners frame rest b is in
    record {
      place = suc later.place;
      at = omega (arith, later.at);
      within = omega (arith, later.within);
      no_owner = later.no_owner;
      others = later.others;
    }

placed_first : (n k : ℕ) (owners : List (Option BoxId)) → n < k → with_place n (free_frames k owners) ≡ n ∷ free_frames k owners
placed_first n k [] below = refl
placed_first n k (None ∷ owners) below =
    let later = free_frames (k + 1) owners in
    ap (λ b. cond b (n ∷ k ∷ later) (k ∷ with_place n later)) (lt-ltb n k below)
placed_first n k (Some o ∷ owners) below = placed_first n (k + 1) owners (omega arith)

-- a frame that comes back is free in its place
pub free_again : (k : ℕ) (owners : List (Option BoxId)) (place : ℕ) (b : BoxId) → place < length owners →
    get_or owners place None ≡ Some b →
    free_frames k (slice_set owners place None) ≡ with_place (k + place) (free_frames k owners)
free_again k [] place b within owned = absurd (omega arith)
free_again k (None ∷ owners) zero b within owned = absurd (cc)
free_again k (Some o ∷ owners) zero b within owned =
    let same : k ≡ k + 0 = omega arith in
    sym (placed_first k (k + 1) owners (omega arith)) ∙ ap (λ n. with_place n (free_frames (k + 1) owners)) same
free_again k (None ∷ owners) (suc place) b within owned =
    let same : (k + 1) + place ≡ k + suc place = omega arith in
    let later = free_frames (k + 1) owners in
    let n = k + suc place in
    ap (λ fs. k ∷ fs) (free_again (k + 1) owners place b (omega arith) owned ∙ ap (λ m. with_place m later) same)
    ∙ sym (ap (λ b. cond b (n ∷ k ∷ later) (k ∷ with_place n later)) (le-ltb n k (omega arith)))
free_again k (Some o ∷ owners) (suc place) b within owned =
    let same : (k + 1) + place ≡ k + suc place = omega arith in
    free_again (k + 1) owners place b (omega arith) owned ∙ ap (λ m. with_place m (free_frames (k + 1) owners)) same

-- one number more
pub length-with_place : (n : ℕ) (xs : List ℕ) → length (with_place n xs) ≡ length xs + 1
length-with_place n [] = refl
length-with_place n (x ∷ xs) =
    elim (ltb n x) as (λ b. length (cond b (n ∷ x ∷ xs) (x ∷ with_place n xs)) ≡ suc (length xs) + 1) [
      | true ↦ omega arith
      | false ↦ omega (arith, length-with_place n xs)
    ]

below_more : (k n : ℕ) (frames : List ℕ) → AllByRecursion (λ frame. frame < k + 1 + n) frames →
    AllByRecursion (λ frame. frame < k + suc n) frames
below_more k n [] below = tt
below_more k n (frame ∷ frames) below = (omega (arith, below.0), below_more k n frames below.1)

below_take : (limit n : ℕ) (frames : List ℕ) → AllByRecursion (λ frame. frame < limit) frames →
    AllByRecursion (λ frame. frame < limit) (take n frames)
below_take limit zero frames below = tt
below_take limit (suc n) [] below = tt
below_take limit (suc n) (frame ∷ frames) below = (below.0, below_take limit n frames below.1)

free_below : (k : ℕ) (owners : List (Option BoxId)) →
    AllByRecursion (λ frame. frame < k + length owners) (free_frames k owners)
free_below k [] = tt
free_below k (None ∷ owners) =
    (omega arith, below_more k (length owners) (free_frames (k + 1) owners) (free_below (k + 1) owners))
free_below k (Some b ∷ owners) = below_more k (length owners) (free_frames (k + 1) owners) (free_below (k + 1) owners)

-- the least free frames are ones that the list has
pub within_owners : (owners : List (Option BoxId)) (n : ℕ) (found : List ℕ) → found ≡ take n (free_frames 0 owners) →
    AllByRecursion (λ frame. frame < length owners) found
within_owners owners n found least =
    let from_0 : 0 + length owners ≡ length owners = omega arith in
    subst (λ (frames : List ℕ). AllByRecursion (λ frame. frame < length owners) frames) (sym least)
    (below_take (length owners) n (free_frames 0 owners)
    (subst (λ limit. AllByRecursion (λ frame. frame < limit) (free_frames 0 owners)) from_0 (free_below 0 owners)))

-- as many frames have a place for an owner as before
pub with_owner_length : (owner : Option BoxId) (frames : List ℕ) (owners : List (Option BoxId)) →
    length (with_owner owner frames owners) ≡ length owners
with_owner_length owner [] owners = refl
with_owner_length owner (frame ∷ frames) owners =
    with_owner_length owner frames (slice_set owners frame owner) ∙ length-set owners frame owner

-- one more frame gets the owner
pub with_owner-last : (owner : Option BoxId) (frames : List ℕ) (frame : ℕ) (owners : List (Option BoxId)) →
    with_owner owner (frames ++ frame ∷ []) owners ≡ slice_set (with_owner owner frames owners) frame owner
with_owner-last owner [] frame owners = refl
with_owner-last owner (f ∷ frames) frame owners = with_owner-last owner frames frame (slice_set owners f owner)

-- where no frame has an owner all are free
pub length-all_free : (k n : ℕ) → length (free_frames k (replicate n None)) ≡ n
length-all_free k zero = refl
length-all_free k (suc n) = ap suc (length-all_free (k + 1) n)

-- there are no more free frames than frames
pub length-free : (k : ℕ) (owners : List (Option BoxId)) → length (free_frames k owners) ≤ length owners
length-free k [] = omega arith
length-free k (None ∷ owners) = omega (arith, length-free (k + 1) owners)
length-free k (Some b ∷ owners) = omega (arith, length-free (k + 1) owners)
