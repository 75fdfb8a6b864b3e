-- The frames of the page heap, and the page tables that boxes ask for.
use Rattle.std.specs.Prelude.{◌≡◌, IfSome, ℕ, zero, suc, ◌+◌, ◌-◌, ◌*◌, ◌/◌, ◌%◌, Bool, true, ◌&&◌, ◌||◌, nat_eq, nat_le, nat_lt, Option, Some, None, List, [], ◌∷◌, ◌++◌, length, take, replicate, Result, Ok, Err, if◌then◌else◌, slice_set}
use Rattle.std.specs.List.{flat_map}
use Rattle.std.specs.Option.{option_map_or}
use Rattle.addr_base.specs.declared.identity.BoxId.{BoxId}
use Rattle.addr_base.specs.declared.rights.Kind.TheVariants.{Write}
use Rattle.flat_model.specs.declared.boards.HeapPart.{HeapPart}
use Rattle.flat_model.specs.declared.events.Frames.{Frames}
use Rattle.flat_model.specs.declared.parts.Item.{Item}
use Rattle.flat_model.specs.Access.{may_access, owns}
use Rattle.flat_model.specs.Cells.{Cell, cells_of, zero_cells}

-- where the heap begins, or 0 where there is none
abbrev pub heap_base : Option HeapPart → ℕ
heap_base heap = option_map_or (λ h. h.base) heap 0

-- how many bytes a page has, or 0 where there is no heap
abbrev pub page_size : Option HeapPart → ℕ
page_size heap = option_map_or (λ h. h.page) heap 0

-- where a frame's page begins
abbrev pub page_address : Option HeapPart → ℕ → ℕ
page_address heap frame = heap_base heap + frame * page_size heap

-- there is a place for the owner of each page
abbrev pub HasOwners : Option HeapPart → List (Option BoxId) → Type 0
HasOwners heap owners = IfSome heap (λ h. length owners ≡ h.count)

-- the frame whose page begins at an address of the heap, if one does
abbrev pub frame_in : HeapPart → ℕ → Option ℕ
frame_in heap a =
    if nat_le heap.base a && nat_eq ((a - heap.base) % heap.page) 0 && nat_lt ((a - heap.base) / heap.page) heap.count
    then Some ((a - heap.base) / heap.page)
    else None

-- the frame whose page begins at an address, if one does
abbrev pub frame_at : Option HeapPart → ℕ → Option ℕ
frame_at None a = None
frame_at (Some heap) a = frame_in heap a

-- the numbers of the frames without an owner, ascending; the first of the list has the number k
abbrev pub free_frames : ℕ → List (Option BoxId) → List ℕ
free_frames k [] = []
free_frames k (None ∷ owners) = k ∷ free_frames (k + 1) owners
free_frames k (Some owner ∷ owners) = free_frames (k + 1) owners

-- the n least frames without an owner, where there are so many
abbrev pub least_free : ℕ → List (Option BoxId) → Option (List ℕ)
least_free n owners =
    if nat_le n (length (free_frames 0 owners)) then Some (take n (free_frames 0 owners)) else None

-- the owners after these frames got another one
abbrev pub with_owner : Option BoxId → List ℕ → List (Option BoxId) → List (Option BoxId)
with_owner owner [] owners = owners
with_owner owner (frame ∷ frames) owners = with_owner owner frames (slice_set owners frame owner)

-- zero bytes for the pages of these frames
abbrev pub blank_cells : Option HeapPart → List ℕ → List Cell
blank_cells heap frames = flat_map (λ frame. zero_cells (page_address heap frame) (page_size heap)) frames

-- the addresses of the pages as words, from an address on
abbrev pub table_cells : Option HeapPart → ℕ → List ℕ → List Cell
table_cells heap a [] = []
table_cells heap a (frame ∷ frames) = cells_of a 4 (page_address heap frame) ++ table_cells heap (a + 4) frames

-- whether a box that has these items, and of these pages its own, may write each of the n words from a
abbrev pub may_write_words : {A : Type 0} → (A → Bool) → List Item → Option HeapPart → List A → ℕ → ℕ → Bool
may_write_words is_own items heap pages a zero = true
may_write_words is_own items heap pages a (suc n) =
    may_access is_own items heap pages a 4 Write && may_write_words is_own items heap pages (a + 4) n

-- whether no allocation has this count
abbrev pub is_bad_count : ℕ → Bool
is_bad_count n = nat_eq n 0 || nat_lt 16 n

-- these frames, or out of pages where there are not enough, or no heap at all
abbrev pub frames_or_none : Option HeapPart → Option (List ℕ) → Result (List ℕ) ℕ
frames_or_none None frames = Err 5
frames_or_none (Some heap) None = Err 5
frames_or_none (Some heap) (Some frames) = Ok frames

-- what an allocation of n pages with this table gives: bad count, bad table, out of pages, or the least free frames
abbrev pub allocation : Option HeapPart → Bool → ℕ → List (Option BoxId) → Result (List ℕ) ℕ
allocation heap may_write n owners =
    if is_bad_count n then Err 13
    else (if may_write then frames_or_none heap (least_free n owners) else Err 6)

-- the box's own frame: no page's address is status 7, a frame that is not its own is status 8
abbrev pub own_frame : List (Option BoxId) → ℕ → Option ℕ → Result ℕ ℕ
own_frame owners b None = Err 7
own_frame owners b (Some frame) = if owns owners b frame then Ok frame else Err 8

-- what a box finds at an address that it gives back: no page's address, a page that is not its own, or its own frame
abbrev pub freeing : Option HeapPart → List (Option BoxId) → ℕ → ℕ → Result ℕ ℕ
freeing heap owners b a = own_frame owners b (frame_at heap a)

-- the frames as an answer gives them
abbrev pub frames_of : List ℕ → Frames
frames_of frames = record { n = length frames; list = take 16 (frames ++ replicate 16 0) }
