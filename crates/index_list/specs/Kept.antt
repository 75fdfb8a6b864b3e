-- Inner: no public contract cites this. How an arena keeps its lists: each is a ring of links through a seat.
use Rattle.std.specs.Prelude.{◌≡◌, ℕ, zero, suc, ◌+◌, ◌-◌, ◌^◌, ◌<◌, nat_eq, nat_lt, true, Option, Some, None, List, [], ◌∷◌, length, slice_index, if◌then◌else◌}
use Rattle.std.specs.List.{slice_index_or}
use Rattle.index_list.specs.Arena.{AreOnce, has_node, list_at}

-- the nodes from one on, up to a seat, and at most so many
abbrev pub walk : ℕ → List ℕ → ℕ → ℕ → List ℕ
walk zero next seat at = []
walk (suc most) next seat at = if nat_eq at seat then [] else at ∷ walk most next seat (slice_index next at)

-- the lists of so many seats, from one on
abbrev pub walks : ℕ → List ℕ → ℕ → ℕ → List (List ℕ)
walks most next seat zero = []
walks most next seat (suc seats) =
    walk most next seat (slice_index next seat) ∷ walks most next (seat + 1) seats

-- the lists of an arena: their seats come after its nodes
abbrev pub lists_of : ℕ → List ℕ → List (List ℕ)
lists_of nodes next = walks nodes next nodes (length next - nodes)

-- the node at a place of a ring, where its seat is none
abbrev pub node_of : ℕ → ℕ → Option ℕ
node_of nodes place = if nat_lt place nodes then Some place else None

-- from one place by these nodes to another: the links lead from each to the one after it, and back
abbrev pub AreLinked : List ℕ → List ℕ → ℕ → List ℕ → ℕ → Type 0
AreLinked next prev from [] to = (slice_index next from ≡ to) × (slice_index prev to ≡ from)
AreLinked next prev from (node ∷ nodes) to =
    (slice_index next from ≡ node) × (slice_index prev node ≡ from) × AreLinked next prev node nodes to

-- the links and owners are those of these lists
pub record IsKept (nodes : ℕ) (next prev : List ℕ) (owner : List (Option ℕ)) (lists : List (List ℕ)) : Type 0 where
  pub few_nodes : nodes < 2 ^ 32
  pub few_lists : length lists < 2 ^ 32
  pub nexts : length next ≡ nodes + length lists
  pub prevs : length prev ≡ nodes + length lists
  pub owners : length owner ≡ nodes + length lists
  -- each seat belongs to its list
  pub seats : (list : ℕ) → list < length lists → slice_index_or owner (nodes + list) None ≡ Some list
  -- each list is a ring through its seat
  pub rings : (list : ℕ) → list < length lists →
      AreLinked next prev (nodes + list) (list_at lists list) (nodes + list)
  pub once : (list : ℕ) → AreOnce (list_at lists list)
  -- a node has the list that it stands in as owner, and no other
  pub owned : (list node : ℕ) → has_node node (list_at lists list) ≡ true →
      (node < nodes) × (slice_index_or owner node None ≡ Some list)
  pub stands : (list node : ℕ) → node < nodes → slice_index_or owner node None ≡ Some list →
      has_node node (list_at lists list) ≡ true
