use Rattle.std.proofs.Common.{[]}
use Rattle.std.proofs.lemmas.List.{append-nil}
use Rattle.std.specs.List.{flat_map}
use Rattle.std.proofs.lemmas.Result.{on_err_weaker}
use Rattle.flat_model.specs.Text.{end_lines, item_line}
use Rattle.io_edge.proofs.Written.{wrote-part, wrote_part-first}
use Rattle.run_log.proofs.Printing.{on_err, wrote-second}
use Rattle.run_log.proofs.writing.write_log.Goals as goal

pub returns-in_err-put_items-clause-err : goal.returns-in_err-put_items-clause-err
returns-in_err-put_items-clause-err g c =
    on_err c.from_residual.result (wrote_part-first _ _ (flat_map (item_line c.args.config.now) c.args.log.now.items) (end_lines c.args.config.now 0 c.args.log.now.ends)
    (rw (c.new-page.ensures, c.as_slice.ensures) at c.in_err-put_items.ensures.printed.err))

pub returns-in_err-put_ends-clause-err : goal.returns-in_err-put_ends-clause-err
returns-in_err-put_ends-clause-err g c =
    on_err c.from_residual-in_err-put_ends.result (wrote-second (flat_map (item_line c.args.config.now) c.args.log.now.items) (end_lines c.args.config.now 0 c.args.log.now.ends) _
    (rw (c.new-page.ensures, c.as_slice.ensures) at c.in_ok-put_items.ensures.printed.ok) (rw c.as_slice-2.ensures at c.in_err-put_ends.ensures.printed.err))

pub returns-clause-err : goal.returns-clause-err
returns-clause-err g c =
    on_err_weaker c.flush.result (λ part.
    wrote-second (flat_map (item_line c.args.config.now) c.args.log.now.items) (end_lines c.args.config.now 0 c.args.log.now.ends) _
    (rw (c.new-page.ensures, c.as_slice.ensures) at c.in_ok-put_items.ensures.printed.ok)
    (wrote-part _ [] (rw append-nil (rw c.as_slice-2.ensures at c.in_ok-put_ends.ensures.printed.ok)) part)) c.flush.ensures.err
