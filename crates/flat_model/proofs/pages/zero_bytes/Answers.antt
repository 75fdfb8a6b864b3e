use Rattle.std.proofs.Common.{◌+◌, ◌-◌, ap, sym, ◌∙◌, arith}
use Rattle.flat_model.specs.declared.states.Memory.{Memory}
use Rattle.flat_model.specs.Cells.{zero_cells}
use Rattle.flat_model.specs.Memory.{put_cells}
use Rattle.flat_model.proofs.CellSteps.{zero_first}
use Rattle.flat_model.proofs.pages.zero_bytes.Goals as goal

pub loop-index-preserved : goal.loop-index-preserved
loop-index-preserved c =
    let at = c.args.at + c.loop-index.index in
    let after = c.args.at + (c.loop-index.index + 1) in
    let left = c.args.n - (c.loop-index.index + 1) in
    c.loop-index.invariant
    ∙ ap (put_cells c.args.board.now c.loop-index.memory)
    (zero_first at after (c.args.n - c.loop-index.index) left (omega (arith, c.loop-index-test.true)) (omega arith))
    ∙ ap (λ (memory : Memory). put_cells c.args.board.now memory (zero_cells after left)) (sym c.put_byte.ensures)
