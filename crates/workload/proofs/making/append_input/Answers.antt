use Rattle.std.proofs.lemmas.Result.{on_ok_weaker}
use Rattle.workload.proofs.MadeTexts.{input_appended}
use Rattle.workload.proofs.making.append_input.Goals as goal

pub returns : goal.returns
returns c =
    on_ok_weaker c.append_gateways.result
    (input_appended c.args.n c.in_ok-x.x c.args.text.now.items c.append_lines.new.text.items c.append_words.new.text.items c.append_lines-2.new.text.items c.append_boxes.new.text.items c.append_gateways.new.text.items
    (rw c.head_lines.ensures at c.in_ok-append_lines.ensures)
    c.in_ok-x.ensures.text c.in_ok-x.ensures.state
    (rw c.board_lines.ensures at c.in_ok-append_lines-2.ensures)
    c.in_ok-append_boxes.ensures)
    c.append_gateways.ensures
