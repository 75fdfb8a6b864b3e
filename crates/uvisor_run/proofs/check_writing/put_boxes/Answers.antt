use Rattle.std.proofs.Common.{rules}
use Rattle.std.specs.List.{flat_map}
use Rattle.flat_model.specs.Placing.{common_range}
use Rattle.flat_model.specs.Sound.{IsBox}
use Rattle.run_log.proofs.Printing.{count_kept, count_rose, printed_failed}
use Rattle.uvisor_run.specs.CheckText.{box_text}
use Rattle.uvisor_run.proofs.Checking.{all_from_next, at_next, box_is_short, put_on, put_on_part}
use Rattle.uvisor_run.proofs.check_writing.put_boxes.Goals as goal

pub items-preserved : goal.items-preserved
items-preserved g c = record {
  so_far = put_on c.items.page c.put_box.new.page _ _ _
      (at_next (flat_map (box_text c.args.config.now)) c.as_slice-boxes.result.now c.items.part-index c.part-item.result c.items-test.true c.part-item.is)
      c.items.invariant.so_far c.in_ok-put_box.ensures.ok;
  each = all_from_next (IsBox c.args.config.now.board (common_range c.args.config.now.board c.args.config.now.boxes)) c.items.part-index c.as_slice-boxes.result.now c.items.invariant.each;
  counted = count_kept c.items.invariant.counted c.in_ok-put_box.ensures.faults;
}

pub returns-in_err-put_box : goal.returns-in_err-put_box
returns-in_err-put_box g c =
    printed_failed c.from_residual.result (search rules) (rw (← c.as_slice-boxes.ensures) (put_on_part c.items.page _ _ _
    (at_next (flat_map (box_text c.args.config.now)) c.as_slice-boxes.result.now c.items.part-index c.part-item.result c.items-test.true c.part-item.is)
    c.items.invariant.so_far c.in_err-put_box.ensures.err))
    (count_rose c.items.invariant.counted c.in_err-put_box.ensures.faults)

pub put_box-requires-clause-short : goal.put_box-requires-clause-short
put_box-requires-clause-short g c =
    box_is_short c.args.config.now.board (common_range c.args.config.now.board c.args.config.now.boxes) c.as_slice-boxes.result.now c.items.part-index c.part-item.result c.items.invariant.each c.items-test.true c.part-item.is
