-- Inner: no public contract cites this. Numbered lists of places, and numbered counts, of the elements of one list.
use Rattle.std.specs.Prelude.{◌≡◌, ℕ, ◌<◌, Bool, ◌&&◌, nat_eq, List, length, count_by, slice_index}
use Rattle.index_list.specs.Arena.{list_at}
use Rattle.rpc_gateway.specs.Places.{places}

-- whether a live element belongs to the list with this number
abbrev pub stands_in : {X : Type 0} → (X → Bool) → (X → ℕ) → ℕ → X → Bool
stands_in live key list x = live x && nat_eq (key x) list

-- each list has the places of the live elements that belong to it, ascending
pub record AreListed {X : Type 0} (live : X → Bool) (key : X → ℕ) (lists : List (List ℕ)) (xs : List X) : Type 0 where
  pub listed : (list : ℕ) → list < length lists → list_at lists list ≡ places (stands_in live key list) xs

-- each count is of the elements that pass the test of its number
pub record AreCounted {X : Type 0} (test : ℕ → X → Bool) (counts : List ℕ) (xs : List X) : Type 0 where
  pub counted : (n : ℕ) → n < length counts → slice_index counts n ≡ count_by (test n) xs
