use Rattle.std.proofs.Common.{◌≡◌, ◌*◌, ◌++◌}
use Rattle.workload.specs.Generator.{state_after}
use Rattle.workload.specs.MadeInput.{boxes_text}
use Rattle.workload.proofs.making.append_boxes.Given as goal

abbrev pub invariant-boxes : goal.invariant-boxes
invariant-boxes l = record {
  state : l.x ≡ state_after l.start (6 * l.here);
  text : l.text.items ≡ l.fn.text.items ++ boxes_text l.start l.here;
}
