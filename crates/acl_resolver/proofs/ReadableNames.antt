-- Boxes whose names are not refused have names, each one of its own.
use Rattle.std.proofs.Common.{◌≡◌, ℕ, ◌+◌, Bool, true, false, not, if◌then◌else◌, List, [], ◌∷◌, ◌++◌, map, Option, Some, None, option_map, Ok, refl, subst, append_assoc}
use Rattle.std.proofs.lemmas.Bool.{not-false, or_parts}
use Rattle.std.specs.List.{AllByRecursion, list_any}
use Rattle.std.specs.Str.{bytes_eq}
use Rattle.flat_model.specs.First.{first_after, first_index, number, unless_refused}
use Rattle.flat_model.specs.Names.{AreDistinctNames, is_name}
use Rattle.flat_model.specs.declared.refusals.Refused.{Refused}
use Rattle.flat_model.specs.declared.refusals.Refused.TheVariants as refused
use Rattle.flat_model.specs.declared.texts.BoxText.{BoxText}
use Rattle.box_config.specs.Names as names
use Rattle.acl_resolver.proofs.ReadablePlaces.{both_none}

no_index : (bad : Bool) (n : ℕ) (o : Option ℕ) → (if bad then Some n else o) ≡ None → (bad ≡ false) × (o ≡ None)
no_index true n o none = absurd (cc)
no_index false n o none = (refl, none)

not_mapped : {A B : Type 0} (f : A → B) (o : Option A) → option_map f o ≡ None → o ≡ None
not_mapped f None none = refl
not_mapped f (Some x) none = absurd (cc)

abbrev has_bad_name : BoxText → Bool
has_bad_name b = not (is_name b.name)

abbrev is_twice_named : List BoxText → BoxText → Bool
is_twice_named earlier b = names.is_named_among b.name earlier

all_named : (i : ℕ) (boxes : List BoxText) → first_index has_bad_name i boxes ≡ None → AllByRecursion (λ b. is_name b.name ≡ true) boxes
all_named i [] none = tt
all_named i (b ∷ boxes) none =
    let parts = no_index (has_bad_name b) (number i) (first_index has_bad_name (i + 1) boxes) none in
    (not-false _ parts.0, all_named (i + 1) boxes parts.1)

not_at : (name : List ℕ) (before : List BoxText) (b : BoxText) (behind : List BoxText) → names.is_named_among name (before ++ b ∷ behind) ≡ false → bytes_eq b.name name ≡ false
not_at name [] b behind none = (or_parts (bytes_eq b.name name) (names.is_named_among name behind) none).0
not_at name (x ∷ before) b behind none =
    not_at name before b behind (or_parts (bytes_eq x.name name) (names.is_named_among name (before ++ b ∷ behind)) none).1

not_later : (b : BoxText) (before behind : List BoxText) (i : ℕ) (boxes : List BoxText) → first_after is_twice_named i (before ++ b ∷ behind) boxes ≡ None
    → list_any (bytes_eq b.name) (map (λ x. x.name) boxes) ≡ false
not_later b before behind i [] none = refl
not_later b before behind i (x ∷ boxes) none =
    let parts = no_index (is_twice_named (before ++ b ∷ behind) x) (number i) (first_after is_twice_named (i + 1) ((before ++ b ∷ behind) ++ x ∷ []) boxes) none in
    let rest = subst (λ (earlier : List BoxText). first_after is_twice_named (i + 1) earlier boxes ≡ None) (append_assoc before (b ∷ behind) (x ∷ [])) parts.1 in
    rw (not_at x.name before b behind parts.0) (not_later b before (behind ++ x ∷ []) (i + 1) boxes rest)

each_once : (earlier : List BoxText) (i : ℕ) (boxes : List BoxText) → first_after is_twice_named i earlier boxes ≡ None → AreDistinctNames (map (λ b. b.name) boxes)
each_once earlier i [] none = tt
each_once earlier i (b ∷ boxes) none =
    let parts = no_index (is_twice_named earlier b) (number i) (first_after is_twice_named (i + 1) (earlier ++ b ∷ []) boxes) none in
    (not_later b earlier [] (i + 1) boxes parts.1, each_once (earlier ++ b ∷ []) (i + 1) boxes parts.1)

-- what is read without a refusal
pub read_well : {V : Type 0} (o : Option Refused) (v w : V) → unless_refused o v ≡ Ok w → (o ≡ None) × (v ≡ w)
read_well None v w read = (refl, cc)
read_well (Some r) v w read = absurd (cc)

-- boxes whose names are not refused have names, each one of its own
pub sound_names : (boxes : List BoxText) → names.name_refusal boxes ≡ None → AllByRecursion (λ b. is_name b.name ≡ true) boxes × AreDistinctNames (map (λ b. b.name) boxes)
unfolding names.name_refusal
sound_names boxes none =
    let parts = both_none (option_map refused.BadName (first_index has_bad_name 0 boxes)) (option_map refused.TwiceNamed (first_after is_twice_named 0 [] boxes)) none in (
      all_named 0 boxes (not_mapped refused.BadName (first_index has_bad_name 0 boxes) parts.0),
      each_once [] 0 boxes (not_mapped refused.TwiceNamed (first_after is_twice_named 0 [] boxes) parts.1),
    )
