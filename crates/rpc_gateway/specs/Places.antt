-- Inner: no public contract cites this. The places of the elements of a list that pass a test.
use Rattle.std.specs.Prelude.{ℕ, ◌+◌, Bool, true, false, min, Option, Some, None, List, [], ◌∷◌, slice_get}
use Rattle.std.specs.List.{position_from}
use Rattle.std.specs.Option.{option_map_or}

-- the list with this number in front, where the test holds
abbrev pub prepend_if : Bool → ℕ → List ℕ → List ℕ
prepend_if true n ns = n ∷ ns
prepend_if false n ns = ns

-- the places of the elements that pass, where the first element stands at this place
abbrev pub places_from : {X : Type 0} → (X → Bool) → ℕ → List X → List ℕ
places_from p n [] = []
places_from p n (x ∷ xs) = prepend_if (p x) n (places_from p (n + 1) xs)

-- the places of the elements that pass, ascending
abbrev pub places : {X : Type 0} → (X → Bool) → List X → List ℕ
places p xs = places_from p 0 xs

-- the first place whose element passes
abbrev pub first_place : {X : Type 0} → (X → Bool) → List X → Option ℕ
first_place p xs = position_from p 0 xs

-- whether an element stands at the place and passes
abbrev pub passes_at : {X : Type 0} → (X → Bool) → List X → ℕ → Bool
passes_at p xs place = option_map_or p (slice_get xs place) false

-- the lesser of two places, or the only one
abbrev pub lesser : Option ℕ → Option ℕ → Option ℕ
lesser None other = other
lesser (Some place) None = Some place
lesser (Some place) (Some other) = Some (min place other)
