-- What a contract sees of a page heap: where it lies, and who owns each of its pages.
use Rattle.std.specs.Prelude.{◌≡◌, ℕ, ◌*◌, true, Option, Some, None, IfSome, List, replicate}
use Rattle.std.specs.Option.{option_map_or}
use Rattle.addr_base.specs.declared.identity.BoxId.{BoxId}
use Rattle.addr_base.specs.declared.ranges.Range.{Range}
use Rattle.flat_model.specs.declared.boards.Board.{Board}
use Rattle.flat_model.specs.declared.boards.HeapPart.{HeapPart}
use Rattle.flat_model.specs.declared.refusals.PageErr.{PageErr}
use Rattle.flat_model.specs.declared.refusals.PageErr.TheVariants.{OutOfPages, BadCount, BadOrigin, NotOwner}
use Rattle.flat_model.specs.Memory.{put_cells}
use Rattle.flat_model.specs.Pages.{blank_cells, with_owner}
use Rattle.phys_memory.specs.Banks.{BanksView, lies_in_one_bank}

-- the page heap of a board, if it has one, and the owner of each of its pages
pub record HeapView : Type 0 where
  pub heap : Option HeapPart
  pub owners : List (Option BoxId)

-- how many pages a heap has, or 0 where there is none
abbrev pub page_count : Option HeapPart → ℕ
page_count heap = option_map_or (λ h. h.count) heap 0

-- the heap of a board at the start: no page has an owner
abbrev pub opening_heap : Board → HeapView
opening_heap board = record { heap = board.heap; owners = replicate (page_count board.heap) None }

-- the addresses of a heap
abbrev pub heap_range : HeapPart → Range
heap_range heap = record { base = heap.base; len = heap.count * heap.page }

-- the heap, where there is one, lies in one of the board's banks
abbrev pub LiesInBank : Board → Option HeapPart → Type 0
LiesInBank board heap = IfSome heap (λ h. lies_in_one_bank board (heap_range h) ≡ true)

-- the heap once these frames belong to a box
abbrev pub with_given : HeapView → BoxId → List ℕ → HeapView
with_given heap b frames = record heap { owners = with_owner (Some b) frames heap.owners }

-- the banks once the pages of these frames are zero bytes
abbrev pub with_blank : BanksView → Option HeapPart → List ℕ → BanksView
with_blank banks heap frames =
    record banks { memory = put_cells banks.board banks.memory (blank_cells heap frames) }

-- the status word that a thread gets for a refusal
abbrev pub status_of : PageErr → ℕ
status_of OutOfPages = 5
status_of BadCount = 13
status_of BadOrigin = 7
status_of NotOwner = 8
