use Rattle.std.proofs.Common.{refl, rules}
use Rattle.io_edge.proofs.Written.{wrote_part-first}
use Rattle.run_log.proofs.Printing.{count_kept, count_rose, printed_failed}
use Rattle.uvisor_run.specs.CheckText.{program_text, thread_line, thread_text}
use Rattle.uvisor_run.proofs.Checking.{printed_then, put_line}
use Rattle.uvisor_run.proofs.check_writing.put_thread.Goals as goal

pub returns-in_err-make_room : goal.returns-in_err-make_room
returns-in_err-make_room g c =
    printed_failed c.from_residual.result (search rules)
    (wrote_part-first _ _ c.args.page.now (thread_text c.args.name.now c.args.k c.args.thread.now) c.in_err-make_room.ensures.err)
    (count_rose refl c.in_err-make_room.ensures.faults)

pub returns : goal.returns
returns g c =
    printed_then c.args.page.now (thread_line c.args.name.now c.args.k c.args.thread.now.steps) (program_text 0 c.args.thread.now.program) c.push_thread.new.page _ c.put_program.result
    (put_line c.args.page.now c.make_room.new.self _ c.push_thread.new.page c.in_ok-make_room.ensures.ok c.push_thread.ensures)
    (count_kept refl c.in_ok-make_room.ensures.faults)
    (rw c.as_slice.ensures at c.put_program.ensures)
