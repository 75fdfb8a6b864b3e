-- The frames without an owner: which they are, and what becomes of them when some are given or one is given back.
use Rattle.std.proofs.Common.{◌≡◌, ℕ, zero, suc, ◌+◌, ◌-◌, ◌<◌, ◌≤◌, true, false, List, [], ◌∷◌, length, take, Option, Some, None, refl, sym, ◌∙◌, ap, subst, arith, inl, inr}
use Rattle.std.specs.Prelude.{nat_eq, slice_get, slice_set}
use Rattle.std.specs.List.{AllByRecursion}
use Rattle.std.proofs.lemmas.Bool.{false≢true, eqb-true, eqb-false, eq-eqb, lt-ltb, or_cases, or_left, or_parts, or_right}
use Rattle.std.proofs.lemmas.List.{length-set}
use Rattle.std.proofs.lemmas.Option.{none-some, slice_get_within}
use Rattle.addr_base.specs.declared.identity.BoxId.{BoxId}
use Rattle.flat_model.specs.Log.{ascends}
use Rattle.flat_model.specs.Pages.{free_frames, with_owner}
use Rattle.flat_model.proofs.Elements.{each_weaker, slice_get-set_other, slice_get-set_same}
use Rattle.uvisor_run.specs.FrameLaws.{is_among}

-- the owner's place is there, and has none
abbrev pub IsFree : List (Option BoxId) → ℕ → Type 0
IsFree owners frame = slice_get owners frame ≡ Some None

owned-not_free : (id : BoxId) {X : Type 0} → Some (Some id) ≡ Some None → X
owned-not_free id is = absurd (let e : Some (Some id) ≡ Some None = is in cc)

each-take : {X : Type 0} (P : X → Type 0) (n : ℕ) (xs : List X) → AllByRecursion P xs → AllByRecursion P (take n xs)
each-take P zero xs each = tt
each-take P (suc n) [] each = tt
each-take P (suc n) (x ∷ xs) each = (each.0, each-take P n xs each.1)

-- what holds of each frame of a list holds of one that is among them
pub each-among : (P : ℕ → Type 0) (frames : List ℕ) (frame : ℕ) → AllByRecursion P frames → is_among frame frames ≡ true → P frame
each-among P [] frame each on = absurd (false≢true on)
each-among P (x ∷ frames) frame each on = elim (or_cases (nat_eq x frame) (is_among frame frames) on) [
  | inl here ↦ subst P (eqb-true x frame here) each.0
  | inr later ↦ each-among P frames frame each.1 later
]

-- what is shown of each frame that is among them holds of each
pub each-from_among : (P : ℕ → Type 0) (frames : List ℕ) → ((frame : ℕ) → is_among frame frames ≡ true → P frame) → AllByRecursion P frames
each-from_among P [] at = tt
each-from_among P (x ∷ frames) at = (
  at x (or_left (nat_eq x x) (is_among x frames) (eq-eqb x x refl)),
  each-from_among P frames (λ frame on. at frame (or_right (nat_eq x frame) (is_among frame frames) on)),
)

-- ---- which they are

-- the place of a frame that is counted from k on
abbrev IsFreeFrom : ℕ → List (Option BoxId) → ℕ → Type 0
IsFreeFrom k owners frame = (k ≤ frame) × IsFree owners (frame - k)

each-later : (k : ℕ) (owner : Option BoxId) (owners : List (Option BoxId)) (frames : List ℕ) →
    AllByRecursion (IsFreeFrom (k + 1) owners) frames → AllByRecursion (IsFreeFrom k (owner ∷ owners)) frames
each-later k owner owners frames = each_weaker (IsFreeFrom (k + 1) owners) (IsFreeFrom k (owner ∷ owners))
    (λ frame it. let place : frame - k ≡ suc (frame - (k + 1)) = omega (arith, it.0) in (omega (arith, it.0), ap (slice_get (owner ∷ owners)) place ∙ it.1)) frames

each-free_from : (k : ℕ) (owners : List (Option BoxId)) → AllByRecursion (IsFreeFrom k owners) (free_frames k owners)
each-free_from k [] = tt
each-free_from k (None ∷ owners) =
    let zeroth : k - k ≡ 0 = omega arith in
    ((omega arith, ap (slice_get (None ∷ owners)) zeroth), each-later k None owners (free_frames (k + 1) owners) (each-free_from (k + 1) owners))
each-free_from k (Some owner ∷ owners) = each-later k (Some owner) owners (free_frames (k + 1) owners) (each-free_from (k + 1) owners)

-- the first free frames are free
pub each-free : (n : ℕ) (owners : List (Option BoxId)) → AllByRecursion (IsFree owners) (take n (free_frames 0 owners))
each-free n owners = each-take (IsFree owners) n (free_frames 0 owners)
    (each_weaker (IsFreeFrom 0 owners) (IsFree owners)
    (λ frame it. let place : frame - 0 ≡ frame = omega arith in subst (IsFree owners) place it.1) (free_frames 0 owners) (each-free_from 0 owners))

listed-free : (k i : ℕ) (owners : List (Option BoxId)) → IsFree owners i → is_among (k + i) (free_frames k owners) ≡ true
listed-free k i [] free = absurd (none-some None free)
listed-free k zero (None ∷ owners) free = or_left (nat_eq k (k + 0)) (is_among (k + 0) (free_frames (k + 1) owners)) (eq-eqb k (k + 0) (omega arith))
listed-free k (suc i) (None ∷ owners) free =
    let place : (k + 1) + i ≡ k + suc i = omega arith in
    or_right (nat_eq k (k + suc i)) (is_among (k + suc i) (free_frames (k + 1) owners))
    (subst (λ x. is_among x (free_frames (k + 1) owners) ≡ true) place (listed-free (k + 1) i owners free))
listed-free k zero (Some owner ∷ owners) free = owned-not_free owner free
listed-free k (suc i) (Some owner ∷ owners) free =
    let place : (k + 1) + i ≡ k + suc i = omega arith in
    subst (λ x. is_among x (free_frames (k + 1) owners) ≡ true) place (listed-free (k + 1) i owners free)

-- ---- their order

-- the numbers ascend, and none is below the bound
abbrev AscendFrom : ℕ → List ℕ → Type 0
AscendFrom k [] = Unit {0}
AscendFrom k (x ∷ xs) = (k ≤ x) × AscendFrom (x + 1) xs

AscendFrom-lower : (k : ℕ) (xs : List ℕ) → AscendFrom (k + 1) xs → AscendFrom k xs
AscendFrom-lower k [] it = tt
AscendFrom-lower k (x ∷ xs) it = (omega (arith, it.0), it.1)

AscendFrom-free : (k : ℕ) (owners : List (Option BoxId)) → AscendFrom k (free_frames k owners)
AscendFrom-free k [] = tt
AscendFrom-free k (None ∷ owners) = (omega arith, AscendFrom-free (k + 1) owners)
AscendFrom-free k (Some owner ∷ owners) = AscendFrom-lower k (free_frames (k + 1) owners) (AscendFrom-free (k + 1) owners)

AscendFrom-take : (n k : ℕ) (xs : List ℕ) → AscendFrom k xs → AscendFrom k (take n xs)
AscendFrom-take zero k xs it = tt
AscendFrom-take (suc n) k [] it = tt
AscendFrom-take (suc n) k (x ∷ xs) it = (it.0, AscendFrom-take n (x + 1) xs it.1)

ascends-from : (k : ℕ) (xs : List ℕ) → AscendFrom k xs → ascends xs ≡ true
ascends-from k [] it = refl
ascends-from k (x ∷ []) it = refl
ascends-from k (x ∷ y ∷ ys) it = rw (lt-ltb x y (omega (arith, it.1.0))) (ascends-from (x + 1) (y ∷ ys) it.1)

-- the first free frames ascend
pub ascends-free : (n : ℕ) (owners : List (Option BoxId)) → ascends (take n (free_frames 0 owners)) ≡ true
ascends-free n owners = ascends-from 0 (take n (free_frames 0 owners)) (AscendFrom-take n 0 (free_frames 0 owners) (AscendFrom-free 0 owners))

among-from : (k : ℕ) (xs : List ℕ) (x : ℕ) → AscendFrom k xs → is_among x xs ≡ true → k ≤ x
among-from k [] x it on = absurd (false≢true on)
among-from k (y ∷ ys) x it on = elim (or_cases (nat_eq y x) (is_among x ys) on) [
  | inl here ↦ omega (arith, it.0, eqb-true y x here)
  | inr later ↦ omega (arith, it.0, among-from (y + 1) ys x it.1 later)
]

below-rest : (n k : ℕ) (xs : List ℕ) (x : ℕ) → AscendFrom k xs → is_among x xs ≡ true → is_among x (take n xs) ≡ false → AllByRecursion (λ (y : ℕ). y < x) (take n xs)
below-rest zero k xs x it on off = tt
below-rest (suc n) k [] x it on off = tt
below-rest (suc n) k (y ∷ ys) x it on off =
    let parts = or_parts (nat_eq y x) (is_among x (take n ys)) off in
    elim (or_cases (nat_eq y x) (is_among x ys) on) [
      | inl here ↦ absurd (false≢true (sym parts.0 ∙ here))
      | inr later ↦ (omega (arith, among-from (y + 1) ys x it.1 later), below-rest n (y + 1) ys x it.1 later parts.1)
    ]

-- a free frame that is not one of the first has a higher number than each of them
pub below-free : (n : ℕ) (owners : List (Option BoxId)) (frame : ℕ) → IsFree owners frame → is_among frame (take n (free_frames 0 owners)) ≡ false →
    AllByRecursion (λ (given : ℕ). given < frame) (take n (free_frames 0 owners))
below-free n owners frame free off =
    let place : 0 + frame ≡ frame = omega arith in
    below-rest n 0 (free_frames 0 owners) frame (AscendFrom-free 0 owners)
    (subst (λ x. is_among x (free_frames 0 owners) ≡ true) place (listed-free 0 frame owners free)) off

-- ---- frames that change hands

set-kept : {X : Type 0} (xs : List X) (f i : ℕ) (x : X) → slice_get xs i ≡ Some x → slice_get (slice_set xs f x) i ≡ Some x
set-kept [] f i x found = absurd (none-some x found)
set-kept (y ∷ ys) zero zero x found = refl
set-kept (y ∷ ys) zero (suc i) x found = found
set-kept (y ∷ ys) (suc f) zero x found = found
set-kept (y ∷ ys) (suc f) (suc i) x found = set-kept ys f i x found

-- another frame keeps its owner
pub with_owner-other : (owner : Option BoxId) (frames : List ℕ) (owners : List (Option BoxId)) (i : ℕ) → is_among i frames ≡ false →
    slice_get (with_owner owner frames owners) i ≡ slice_get owners i
with_owner-other owner [] owners i off = refl
with_owner-other owner (f ∷ frames) owners i off =
    let parts = or_parts (nat_eq f i) (is_among i frames) off in
    with_owner-other owner frames (slice_set owners f owner) i parts.1
    ∙ slice_get-set_other owners f i owner (λ same. eqb-false f i parts.0 (sym same))

with_owner-kept : (owner : Option BoxId) (frames : List ℕ) (owners : List (Option BoxId)) (i : ℕ) → slice_get owners i ≡ Some owner →
    slice_get (with_owner owner frames owners) i ≡ Some owner
with_owner-kept owner [] owners i found = found
with_owner-kept owner (f ∷ frames) owners i found = with_owner-kept owner frames (slice_set owners f owner) i (set-kept owners f i owner found)

with_owner-each : (owner : Option BoxId) (frames : List ℕ) (owners : List (Option BoxId)) → AllByRecursion (λ f. f < length owners) frames →
    AllByRecursion (λ f. slice_get (with_owner owner frames owners) f ≡ Some owner) frames
with_owner-each owner [] owners each = tt
with_owner-each owner (f ∷ frames) owners each = (
  with_owner-kept owner frames (slice_set owners f owner) f (slice_get-set_same owners f owner each.0),
  with_owner-each owner frames (slice_set owners f owner)
      (each_weaker (λ g. g < length owners) (λ g. g < length (slice_set owners f owner)) (λ g below. omega (arith, below, length-set owners f owner)) frames each.1),
)

-- each free frame that is given has the new owner
pub with_owner-given : (owner : Option BoxId) (frames : List ℕ) (owners : List (Option BoxId)) → AllByRecursion (IsFree owners) frames →
    AllByRecursion (λ f. slice_get (with_owner owner frames owners) f ≡ Some owner) frames
with_owner-given owner frames owners each = with_owner-each owner frames owners
    (each_weaker (IsFree owners) (λ f. f < length owners) (λ f free. slice_get_within owners f None free) frames each)
