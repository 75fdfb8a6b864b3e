use Rattle.workload.specs.MadeInput.{boxes_text}
use Rattle.workload.proofs.MadeTexts.{appended_on, box_state, boxes_text-more, boxes_text-none, nothing_yet, state_none}
use Rattle.workload.proofs.making.append_boxes.Goals as goal

pub boxes-init : goal.boxes-init
boxes-init c = record {
  state = state_none c.args.start;
  text = nothing_yet c.args.text.now.items (boxes_text c.args.start 0) (boxes_text-none c.args.start);
}

pub boxes-preserved : goal.boxes-preserved
boxes-preserved c = record {
  state = box_state c.args.start c.boxes.here c.boxes.x c.in_ok-x.x c.boxes.invariant.state c.in_ok-x.ensures.state;
  text = appended_on c.args.text.now.items c.boxes.text.items c.append_box.new.text.items (boxes_text c.args.start c.boxes.here) _ _
      c.boxes.invariant.text c.in_ok-x.ensures.text
      (boxes_text-more c.args.start c.boxes.here c.boxes.x c.boxes.invariant.state);
}
