-- The kernel calls that give pages to a box and take them back.
use Rattle.std.specs.Prelude.{ℕ, Some, None, List, Result, Ok, Err, slice_set}
use Rattle.flat_model.specs.declared.boards.Board.{Board}
use Rattle.flat_model.specs.declared.events.Reply.TheVariants as reply
use Rattle.flat_model.specs.declared.states.Memory.{Memory}
use Rattle.flat_model.specs.declared.states.Shared.{Shared}
use Rattle.flat_model.specs.declared.states.ThreadState.{ThreadState}
use Rattle.flat_model.specs.Memory.{put_cells}
use Rattle.flat_model.specs.Outcome.{Outcome, done_row, refused_row}
use Rattle.flat_model.specs.Pages.{blank_cells, frames_of, table_cells, with_owner}
use Rattle.flat_model.specs.Thread.{with_status}

-- memory once the pages of the frames are zeroed
abbrev pub with_blank_pages : Board → List ℕ → Memory → Memory
with_blank_pages board frames memory = put_cells board memory (blank_cells board.heap frames)

-- memory once the table is written at an address
abbrev pub with_page_table : Board → ℕ → List ℕ → Memory → Memory
with_page_table board table frames memory = put_cells board memory (table_cells board.heap table frames)

-- the frames go to the box, their pages are zeroed, and then the table is written
abbrev pub with_frames : Board → ℕ → ℕ → List ℕ → Shared → Shared
with_frames board b table frames m = record m {
  memory = with_page_table board table frames (with_blank_pages board frames m.memory);
  owners = with_owner (Some (record { 0 = b })) frames m.owners;
}

-- `pages_alloc` that gives these frames, or a status
abbrev pub pages_alloc_row : Board → ℕ → Shared → ThreadState → ℕ → Result (List ℕ) ℕ → Outcome
pages_alloc_row board b m th table (Err status) = refused_row m th status
pages_alloc_row board b m th table (Ok frames) = record {
  shared = with_frames board b table frames m;
  thread = with_status th 0;
  reply = reply.Given (frames_of frames);
}

-- `page_free` of this own frame, or a status
abbrev pub page_free_row : Shared → ThreadState → Result ℕ ℕ → Outcome
page_free_row m th (Err status) = refused_row m th status
page_free_row m th (Ok frame) = done_row (record m { owners = slice_set m.owners frame None }) th
