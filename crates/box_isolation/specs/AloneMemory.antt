-- The lone machine's accesses, pages and registers.
-- Of the flat machine it takes the words of one thread, what an access needs (alignment, items and own pages), the bytes of
-- a word, and data types.
use Rattle.std.specs.Prelude.{ℕ, zero, suc, ◌+◌, ◌-◌, ◌*◌, ◌/◌, ◌%◌, Bool, true, false, ◌&&◌, ◌||◌, nat_eq, nat_le, nat_lt, Option, Some, None, List, [], ◌∷◌, ◌++◌, take, if◌then◌else◌, slice_set}
use Rattle.std.specs.List.{flat_map}
use Rattle.std.specs.Option.{option_map_or}
use Rattle.addr_base.specs.declared.rights.Kind.{Kind}
use Rattle.addr_base.specs.declared.rights.Kind.TheVariants.{Read, Write, Fetch}
use Rattle.flat_model.specs.declared.accesses.Access.{Access}
use Rattle.flat_model.specs.declared.boards.HeapPart.{HeapPart}
use Rattle.flat_model.specs.declared.events.Flaw.{Flaw}
use Rattle.flat_model.specs.declared.events.Flaw.TheVariants as flaw
use Rattle.flat_model.specs.declared.events.Frames.{Frames}
use Rattle.flat_model.specs.declared.events.Reply.TheVariants as reply
use Rattle.flat_model.specs.declared.states.ThreadState.{ThreadState}
use Rattle.flat_model.specs.Access.{may_access}
use Rattle.box_isolation.specs.AloneState.{Kept, Left, alone_done, alone_fault, alone_refused, alone_value, byte_in, flag_at, kept_noting}
use Rattle.box_isolation.specs.Arrivals.{Part, Supply, supplied_frames, supplied_word}
use Rattle.flat_model.specs.Cells.{Cell, cells_of, word_of, zero_cells}
use Rattle.flat_model.specs.Thread.{moved, register, with_register, with_status}

-- whether a page with this flag is the box's own
abbrev pub is_own_page : Bool → Bool
is_own_page own = own

-- whether an item or an own page holds the n bytes from a for this kind of access
abbrev pub alone_holds : Part → List Bool → ℕ → ℕ → Kind → Bool
alone_holds part pages a n kind = may_access is_own_page part.items part.heap pages a n kind

-- an access that is held
abbrev pub alone_performed : Kept → ThreadState → Access → Kind → Left
alone_performed k th access Read = record {
  kept = k;
  thread = moved (with_register th access.register (word_of (byte_in k.cells) access.at access.size));
  reply = reply.Value (word_of (byte_in k.cells) access.at access.size);
}
alone_performed k th access Write = record {
  kept = kept_noting (cells_of access.at access.size (register th access.register)) k;
  thread = moved th;
  reply = reply.Done;
}
alone_performed k th access Fetch = record { kept = k; thread = moved th; reply = reply.Done }

-- how a denial of this kind is called
abbrev pub alone_flaw : Kind → Flaw
alone_flaw Read = flaw.Daccviol
alone_flaw Write = flaw.Daccviol
alone_flaw Fetch = flaw.Iaccviol

-- an aligned access, held or not
abbrev pub alone_access : Kept → ThreadState → Access → Bool → Left
alone_access k th access true = alone_performed k th access access.kind
alone_access k th access false = alone_fault k th (alone_flaw access.kind) access.at

-- where the heap begins, or 0 where there is none
abbrev pub heap_start : Option HeapPart → ℕ
heap_start heap = option_map_or (λ h. h.base) heap 0

-- how many bytes a page has, or 0 where there is no heap
abbrev pub page_bytes : Option HeapPart → ℕ
page_bytes heap = option_map_or (λ h. h.page) heap 0

-- where the page with this number begins
abbrev pub page_start : Option HeapPart → ℕ → ℕ
page_start heap frame = heap_start heap + frame * page_bytes heap

-- the number of the page that begins at an address, if one does
abbrev pub page_at : Option HeapPart → ℕ → Option ℕ
page_at None a = None
page_at (Some heap) a =
    if nat_le heap.base a && nat_eq ((a - heap.base) % heap.page) 0 && nat_lt ((a - heap.base) / heap.page) heap.count
    then Some ((a - heap.base) / heap.page)
    else None

-- zero bytes for the pages with these numbers
abbrev pub blank_pages : Option HeapPart → List ℕ → List Cell
blank_pages heap frames = flat_map (λ frame. zero_cells (page_start heap frame) (page_bytes heap)) frames

-- the pages' addresses as words, from an address on
abbrev pub page_table : Option HeapPart → ℕ → List ℕ → List Cell
page_table heap a [] = []
page_table heap a (frame ∷ frames) = cells_of a 4 (page_start heap frame) ++ page_table heap (a + 4) frames

-- the flags with those at these numbers set
abbrev pub with_flags : List ℕ → List Bool → List Bool
with_flags [] flags = flags
with_flags (n ∷ numbers) flags = with_flags numbers (slice_set flags n true)

-- whether the box may write each of the n words from a
abbrev pub holds_words : Part → List Bool → ℕ → ℕ → Bool
holds_words part pages a zero = true
holds_words part pages a (suc n) = alone_holds part pages a 4 Write && holds_words part pages (a + 4) n

-- the pages are the box's own and zeroed, and then the table is written
abbrev pub with_pages : Part → ℕ → List ℕ → Kept → Kept
with_pages part table frames k =
    kept_noting (page_table part.heap table frames) (kept_noting (blank_pages part.heap frames)
    (record k { pages = with_flags frames k.pages }))

-- the pages that were supplied, or out of pages
abbrev pub alone_pages : Part → Kept → ThreadState → ℕ → Option Frames → Left
alone_pages part k th table None = alone_refused k th 5
alone_pages part k th table (Some frames) = record {
  kept = with_pages part table (take frames.n frames.list) k;
  thread = with_status th 0;
  reply = reply.Given frames;
}

-- `pages_alloc` of n pages with a table: bad count, bad table, or what was supplied
abbrev pub alone_alloc : Part → Kept → ThreadState → ℕ → ℕ → Supply → Left
alone_alloc part k th n table supply =
    if nat_eq n 0 || nat_lt 16 n then alone_refused k th 13
    else (if holds_words part k.pages table n then alone_pages part k th table (supplied_frames supply)
    else alone_refused k th 6)

-- `page_free` of the page with this number, or of no page
abbrev pub alone_free : Kept → ThreadState → Option ℕ → Left
alone_free k th None = alone_refused k th 7
alone_free k th (Some frame) =
    if flag_at k.pages frame then alone_done (record k { pages = slice_set k.pages frame false }) th
    else alone_refused k th 8

-- a word into a register, or not allowed; a gateway that reads always supplies a word, so none is never reached
abbrev pub alone_word : Kept → ThreadState → ℕ → Option ℕ → Left
alone_word k th r None = alone_refused k th 9
alone_word k th r (Some value) = alone_value k th r value

-- `gw_read` by a gateway that the box may read by, or not
abbrev pub alone_read : Kept → ThreadState → ℕ → Bool → Supply → Left
alone_read k th r true supply = alone_word k th r (supplied_word supply)
alone_read k th r false supply = alone_refused k th 9

-- `gw_write` by a gateway that the box may write by, or not: by itself it changes no byte
abbrev pub alone_write : Kept → ThreadState → Bool → Left
alone_write k th true = alone_done k th
alone_write k th false = alone_refused k th 9
