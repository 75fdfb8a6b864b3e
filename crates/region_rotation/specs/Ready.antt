-- Inner: no public contract cites this.
use Rattle.std.specs.Prelude.{◌≡◌, ℕ, ◌+◌, ◌*◌, ◌^◌, ◌<◌, ◌≤◌, true, List, ◌++◌, length, Option, Some, IfSome, ◌⊎◌}
use Rattle.std.specs.List.{AllByRecursion, Contains, slice_get}
use Rattle.addr_base.specs.declared.identity.BoxId.{BoxId}
use Rattle.addr_base.specs.declared.pairs.Pair.{Pair}
use Rattle.flat_model.specs.declared.boards.HeapPart.{HeapPart}
use Rattle.flat_model.specs.Decision.{is_region}
use Rattle.flat_model.specs.Plan.{REGIONS, no_pair, page_pairs, slots_from}
use Rattle.flat_model.specs.Circle.{IsGrouped, IsTurnedBy, OnCircle}
use Rattle.region_rotation.specs.declared.home.HomePairs.{HomePairs}

-- a pair that a slot can be given
abbrev pub IsKnown : Pair → Type 0
IsKnown p = (p ≡ no_pair) ⊎ (is_region p ≡ true)

-- the regions of a box can be given to slots
pub record IsHome (home : HomePairs) : Type 0 where
  pub flash : IsKnown home.flash
  pub own : IsKnown home.own
  pub overlay : IsKnown home.overlay
  pub grants : AllByRecursion IsKnown home.grants

-- a heap of whole groups, below 2 ^ 32
pub record IsHeapBelow (heap : HeapPart) : Type 0 where
  pub grouped : IsGrouped heap
  pub few : heap.count ≤ 256
  pub ends : heap.base + heap.count * heap.page < 2 ^ 32

-- the plan of the box with this number, for these owners
abbrev pub plan_at : Option HeapPart → HomePairs → ℕ → List (Option BoxId) → List Pair
plan_at heap home b owners = home.grants ++ page_pairs heap owners b

-- the regions at a switch to a box
abbrev pub slots_at : HomePairs → List Pair
slots_at home = slots_from REGIONS home.flash home.own home.overlay

-- the pair is of the plan for some owners
abbrev pub IsOfPlan : Option HeapPart → HomePairs → ℕ → Pair → Type 0
IsOfPlan heap home b p = (owners : List (Option BoxId)) × Contains (plan_at heap home b owners) p

-- the unit has the regions of the box that it was last switched to, and of its plan
pub record IsReady (homes : List HomePairs) (heap : Option HeapPart) (last : Option BoxId) (pairs : List Pair) (circle : ℕ) : Type 0 where
  pub regions : length pairs ≡ 8
  pub on : OnCircle REGIONS circle
  pub homes_known : AllByRecursion IsHome homes
  pub heap_known : IfSome heap IsHeapBelow
  pub last_known : IfSome last (λ b. b.0 < length homes)
  pub turned : (b : BoxId) (home : HomePairs) → last ≡ Some b → slice_get homes b.0 ≡ Some home → IsTurnedBy (IsOfPlan heap home b.0) (slots_at home) pairs
