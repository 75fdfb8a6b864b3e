-- What a contract sees of an arena: how many nodes it has, and its lists.
use Rattle.std.specs.Prelude.{◌≡◌, ℕ, ◌<◌, Bool, true, false, not, nat_eq, Option, List, [], ◌∷◌, ◌++◌, map, filter, drop, replicate, slice_set}
use Rattle.std.specs.List.{list_any, position_from, slice_index_or}

-- how many nodes an arena has, and which of them stand in each list, in order
pub record ArenaView : Type 0 where
  pub nodes : ℕ
  pub lists : List (List ℕ)

-- an arena at the start: all its lists are empty
abbrev pub opening_arena : ℕ → ℕ → ArenaView
opening_arena nodes lists = record { nodes = nodes; lists = replicate lists [] }

-- the list with this number, or an empty one where there is none
abbrev pub list_at : List (List ℕ) → ℕ → List ℕ
list_at lists list = slice_index_or lists list []

-- whether a node stands in a list
abbrev pub has_node : ℕ → List ℕ → Bool
has_node node nodes = list_any (nat_eq node) nodes

-- the number of the first list in which a node stands, if it stands in one
abbrev pub list_with : List (List ℕ) → ℕ → Option ℕ
list_with lists node = position_from (has_node node) 0 lists

-- a list without a node, its order kept
abbrev pub without : ℕ → List ℕ → List ℕ
without node nodes = filter (λ n. not (nat_eq node n)) nodes

-- an arena once a node stands last in a list
abbrev pub with_last : ArenaView → ℕ → ℕ → ArenaView
with_last arena list node =
    record arena { lists = slice_set arena.lists list (list_at arena.lists list ++ node ∷ []) }

-- an arena once the first node of a list stands in none
abbrev pub without_first : ArenaView → ℕ → ArenaView
without_first arena list =
    record arena { lists = slice_set arena.lists list (drop 1 (list_at arena.lists list)) }

-- an arena once a node stands in no list
abbrev pub without_node : ArenaView → ℕ → ArenaView
without_node arena node = record arena { lists = map (without node) arena.lists }

-- no node comes twice
abbrev pub AreOnce : List ℕ → Type 0
AreOnce [] = Unit {0}
AreOnce (node ∷ nodes) = (has_node node nodes ≡ false) × AreOnce nodes

-- each node of a list is one of the arena's, stands there once, and stands in no other list
pub record AreApart (arena : ArenaView) : Type 0 where
  pub within : (list node : ℕ) → has_node node (list_at arena.lists list) ≡ true → node < arena.nodes
  pub once : (list : ℕ) → AreOnce (list_at arena.lists list)
  pub one_list : (first second node : ℕ) → has_node node (list_at arena.lists first) ≡ true →
      has_node node (list_at arena.lists second) ≡ true → first ≡ second
