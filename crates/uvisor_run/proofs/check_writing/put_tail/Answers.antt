use Rattle.std.proofs.Common.{◌-◌, refl, rules}
use Rattle.run_log.proofs.Printing.{count_kept}
use Rattle.uvisor_run.specs.CheckText.{server_line, threads_of_box, threads_text}
use Rattle.uvisor_run.proofs.Checking.{printed_first, printed_then}
use Rattle.uvisor_run.proofs.check_writing.put_tail.Goals as goal

pub returns-in_err-put_server : goal.returns-in_err-put_server
returns-in_err-put_server g c =
    printed_first c.args.page.now (server_line (c.args.part.now.server.0 - c.args.part.now.first)) (threads_text c.args.part.now.name 0 (threads_of_box c.args.config.now c.args.part.now)) c.put_server.new.page c.from_residual.result (search rules)
    (rw c.server_index.ensures at c.in_err-put_server.ensures)

pub returns : goal.returns
returns g c =
    printed_then c.args.page.now (server_line (c.args.part.now.server.0 - c.args.part.now.first)) (threads_text c.args.part.now.name 0 (threads_of_box c.args.config.now c.args.part.now)) c.put_server.new.page c.put_threads.new.page c.put_threads.result
    (rw c.server_index.ensures at c.in_ok-put_server.ensures.ok) (count_kept refl c.in_ok-put_server.ensures.faults)
    (rw (c.as_bytes.ensures.value, c.as_str.ensures, c.threads_of_box.ensures.threads) at c.put_threads.ensures)
