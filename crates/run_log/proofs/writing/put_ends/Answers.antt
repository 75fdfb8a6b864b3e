use Rattle.std.proofs.Common.{rules}
use Rattle.std.proofs.lemmas.List.{at_drop_more}
use Rattle.flat_model.specs.Text.{end_lines}
use Rattle.io_edge.proofs.Written.{wrote-part}
use Rattle.run_log.specs.Typed.{IsTypedEnd}
use Rattle.run_log.proofs.Printing.{count_kept, count_rose, each_more, printed_failed, wrote-line}
use Rattle.run_log.proofs.writing.put_ends.Goals as goal

pub ends-preserved : goal.ends-preserved
ends-preserved g c = record {
  so_far = wrote-line c.ends.page c.make_room.new.self c.push_end.new.page _ _ _
      (at_drop_more (end_lines c.args.config.now c.ends.t) c.args.ends.now c.ends.t _ c.ends-test.true)
      c.ends.invariant.so_far c.in_ok-make_room.ensures.ok c.push_end.ensures.text;
  typed = each_more IsTypedEnd c.args.ends.now c.ends.t _ c.ends-test.true c.ends.invariant.typed c.push_end.ensures.typed;
  counted = count_kept c.ends.invariant.counted c.in_ok-make_room.ensures.faults;
}

pub returns-in_err-make_room-clause-printed : goal.returns-in_err-make_room-clause-printed
returns-in_err-make_room-clause-printed g c =
    printed_failed c.from_residual.result (search rules)
    (wrote-part c.ends.page _ c.ends.invariant.so_far c.in_err-make_room.ensures.err)
    (count_rose c.ends.invariant.counted c.in_err-make_room.ensures.faults)
