use Rattle.std.proofs.Common.{◌-◌, ap, ◌∙◌, drop, get_or, length, take}
use Rattle.flat_model.specs.Cells.{zero_cells}
use Rattle.flat_model.specs.Memory.{put_cells}
use Rattle.flat_model.specs.Pages.{page_address}
use Rattle.flat_model.proofs.CellSteps.{blank_first, first_frame}
use Rattle.flat_model.proofs.pages.+blank_pages.Goals as goal

pub returns : goal.returns
returns t c =
    blank_first c.args.board.now c.args.memory.now c.zero_bytes.new.memory c.blank_pages.new.memory (get_or c.args.frames.now 0 0)
    (take (length c.args.frames.now - 1) (drop 1 c.args.frames.now)) c.args.frames.now (first_frame c.args.frames.now c.in-len1-up.len_at_least)
    (c.zero_bytes.ensures
    ∙ ap (λ at. put_cells c.args.board.now c.args.memory.now (zero_cells at c.page_size.result)) c.page_address-at.ensures.exact
    ∙ ap (λ n. put_cells c.args.board.now c.args.memory.now (zero_cells (page_address c.args.board.now.heap (get_or c.args.frames.now 0 0)) n)) c.page_size.ensures)
    c.blank_pages.ensures
