use Rattle.std.proofs.Common.{rules}
use Rattle.std.proofs.lemmas.List.{at_drop_more}
use Rattle.flat_model.specs.Operands.{IsValidInstr}
use Rattle.io_edge.proofs.Written.{wrote-part}
use Rattle.run_log.proofs.Printing.{count_kept, count_rose, printed_failed, wrote-line}
use Rattle.uvisor_run.specs.CheckText.{program_text}
use Rattle.uvisor_run.proofs.Checking.{all_from_next}
use Rattle.uvisor_run.proofs.check_writing.put_program.Goals as goal

pub items-preserved : goal.items-preserved
items-preserved g c = record {
  so_far = wrote-line c.items.page c.make_room.new.self c.push_instruction.new.page _ _ _
      (at_drop_more (program_text c.items.place) c.args.program.now c.items.place _ c.items-test.true)
      c.items.invariant.so_far c.in_ok-make_room.ensures.ok c.push_instruction.ensures;
  valid = all_from_next IsValidInstr c.items.place c.args.program.now c.items.invariant.valid;
  counted = count_kept c.items.invariant.counted c.in_ok-make_room.ensures.faults;
}

pub returns-in_err-make_room : goal.returns-in_err-make_room
returns-in_err-make_room g c =
    printed_failed c.from_residual.result (search rules)
    (wrote-part c.items.page _ c.items.invariant.so_far c.in_err-make_room.ensures.err)
    (count_rose c.items.invariant.counted c.in_err-make_room.ensures.faults)
