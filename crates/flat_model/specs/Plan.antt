-- Which regions a box has at a switch, and which may rotate in.
use Rattle.std.specs.Prelude.{ℕ, ◌+◌, ◌-◌, ◌*◌, ◌/◌, ◌^◌, Bool, ◌&&◌, List, [], ◌∷◌, ◌++◌, length, replicate, slice_set, Option, Some, None, if◌then◌else◌, nat_eq}
use Rattle.std.proofs.Common.{zero, suc}
use Rattle.std.specs.List.{flat_map, range_with_len}
use Rattle.std.specs.Option.{option_map_or}
use Rattle.addr_base.specs.declared.identity.BoxId.{BoxId}
use Rattle.addr_base.specs.declared.pairs.Pair.{Pair}
use Rattle.addr_base.specs.declared.rights.Kind.{Kind}
use Rattle.addr_base.specs.Rights.{read_execute, read_write}
use Rattle.flat_model.specs.declared.boards.Board.{Board}
use Rattle.flat_model.specs.declared.boards.HeapPart.{HeapPart}
use Rattle.flat_model.specs.declared.parts.BoxPart.{BoxPart}
use Rattle.flat_model.specs.declared.parts.Config.{Config}
use Rattle.flat_model.specs.declared.parts.Item.{Item}
use Rattle.flat_model.specs.Access.{owns}
use Rattle.flat_model.specs.Cover.{NO_ACCESS, attributes, cover_of, group_pair, pair_of}
use Rattle.flat_model.specs.Decision.{matches, pair_gives}

-- how many regions a unit has
abbrev pub REGIONS : ℕ
REGIONS = 8

-- how many regions the unit of a configuration has
abbrev pub regions : Config → ℕ
regions config = REGIONS

-- a disabled region
abbrev pub no_pair : Pair
no_pair = record { rbar = 0; rasr = 0 }

-- the regions of a unit of so many: the two lowest, the highest, and the others disabled
abbrev pub slots_from : ℕ → Pair → Pair → Pair → List Pair
slots_from regions flash own top = flash ∷ own ∷ (replicate (regions - 3) no_pair ++ top ∷ [])

-- all of flash, to be read and executed
abbrev pub flash_pair : Board → Pair
flash_pair board = pair_of board.flash (attributes read_execute)

-- the own memory of a box, to be read and written
abbrev pub own_pair : BoxPart → Pair
own_pair part = pair_of part.own (attributes read_write)

-- the region that hides the secret range, disabled where the box owns it or there is none
abbrev pub overlay_pair : Board → BoxPart → Pair
overlay_pair board part =
    if part.secret then no_pair else option_map_or (λ secret. pair_of secret NO_ACCESS) board.secret no_pair

-- the regions at a switch to a box
abbrev pub switch_slots : Config → BoxPart → List Pair
switch_slots config part =
    slots_from (regions config) (flash_pair config.board) (own_pair part) (overlay_pair config.board part)

-- the covers of a box's grants, in order
abbrev pub grant_pairs : List Item → List Pair
grant_pairs grants = flat_map (λ g. cover_of g.range g.rights) grants

-- the number whose bit i says whether frame first + i is the box's, for i below n
abbrev pub owned_mask : List (Option BoxId) → ℕ → ℕ → ℕ → ℕ
owned_mask owners b first zero = 0
owned_mask owners b first (suc n) =
    owned_mask owners b first n + (if owns owners b (first + n) then 2 ^ n else 0)

-- the region of page group g, or none where the box owns no frame of it
abbrev pub page_group : HeapPart → List (Option BoxId) → ℕ → ℕ → List Pair
page_group heap owners b g =
    let mask = owned_mask owners b (8 * g) 8 in
    if nat_eq mask 0 then [] else (group_pair (heap.base + 8 * g * heap.page) heap.page mask ∷ [])

-- the regions of the page groups in which the box owns a frame, ascending
abbrev pub page_pairs : Option HeapPart → List (Option BoxId) → ℕ → List Pair
page_pairs None owners b = []
page_pairs (Some heap) owners b = flat_map (page_group heap owners b) (range_with_len 0 (heap.count / 8))

-- the plan of a box: the covers of its grants, and then its page groups
abbrev pub plan_of : Config → List (Option BoxId) → ℕ → BoxPart → List Pair
plan_of config owners b part = grant_pairs part.grants ++ page_pairs config.board.heap owners b

-- whether the pair, taken alone, grants the access
abbrev pub serves : ℕ → Kind → Pair → Bool
serves a kind p = matches p a && pair_gives p kind

-- the first pair that, taken alone, grants the access
abbrev pub first_serving : ℕ → Kind → List Pair → Option Pair
first_serving a kind [] = None
first_serving a kind (p ∷ ps) = if serves a kind p then Some p else first_serving a kind ps

-- the slot that follows on the circle, which runs from slot 2 to the last but one
abbrev pub next_slot : ℕ → ℕ → ℕ
next_slot regions slot = if nat_eq (slot + 2) regions then 2 else slot + 1

-- the regions with the first n of the circle disabled
abbrev pub cleared : ℕ → List Pair → List Pair
cleared zero pairs = pairs
cleared (suc n) pairs = slice_set (cleared n pairs) (n + 2) no_pair

-- the regions with all of the circle disabled
abbrev pub flushed_pairs : List Pair → List Pair
flushed_pairs pairs = cleared (length pairs - 3) pairs
