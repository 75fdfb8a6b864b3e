-- Inner: no public contract cites this. How the lists of a heap's frames go with their owners.
use Rattle.std.specs.Prelude.{◌≡◌, ℕ, ◌<◌, ◌≤◌, nat_lt, Option, List, [], ◌∷◌, length, slice_set, if◌then◌else◌}
use Rattle.addr_base.specs.declared.identity.BoxId.{BoxId}
use Rattle.flat_model.specs.declared.boards.HeapPart.{HeapPart}
use Rattle.flat_model.specs.Access.{owns}
use Rattle.flat_model.specs.Pages.{free_frames}
use Rattle.index_list.specs.Arena.{ArenaView, has_node, list_at}
use Rattle.page_heap.specs.Kept.{IsKept}

-- the frames of the box b stand in the list b, and the free ones, ascending, in the list 256
pub record IsListed (owners : List (Option BoxId)) (arena : ArenaView) : Type 0 where
  pub few : arena.nodes ≤ 256
  pub one_each : arena.nodes ≡ length owners
  pub lists : length arena.lists ≡ 257
  pub free : list_at arena.lists 256 ≡ free_frames 0 owners
  pub owned : (b frame : ℕ) → b < 256 → has_node frame (list_at arena.lists b) ≡ owns owners b frame

-- what a heap keeps of its frames: their owners, their lists, and how many are free
pub record AreListed (heap : Option HeapPart) (owners : List (Option BoxId)) (arena : ArenaView) (free : ℕ) : Type 0 where
  pub kept : IsKept heap owners
  pub listed : IsListed owners arena
  pub counted : free ≡ length (free_frames 0 owners)

-- ascending numbers with one more in its place
abbrev pub with_place : ℕ → List ℕ → List ℕ
with_place n [] = n ∷ []
with_place n (x ∷ xs) = if nat_lt n x then n ∷ x ∷ xs else x ∷ with_place n xs

-- an arena once a frame stands in its place among the free ones
abbrev pub with_free : ArenaView → ℕ → ArenaView
with_free arena frame =
    record arena { lists = slice_set arena.lists 256 (with_place frame (list_at arena.lists 256)) }
