use Rattle.std.proofs.Common.{refl, rules}
use Rattle.io_edge.proofs.Written.{wrote_part-first}
use Rattle.run_log.proofs.Printing.{count_rose, printed_failed}
use Rattle.uvisor_run.specs.CheckText.{server_line}
use Rattle.uvisor_run.proofs.check_writing.put_server.Goals as goal

pub returns-in_err-make_room : goal.returns-in_err-make_room
returns-in_err-make_room g c =
    printed_failed c.from_residual.result (search rules)
    (wrote_part-first _ _ c.args.page.now (server_line c.args.k) c.in_err-make_room.ensures.err)
    (count_rose refl c.in_err-make_room.ensures.faults)
