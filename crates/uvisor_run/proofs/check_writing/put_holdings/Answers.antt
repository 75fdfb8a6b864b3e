use Rattle.std.proofs.Common.{refl, rules}
use Rattle.std.specs.List.{flat_map}
use Rattle.run_log.proofs.Printing.{count_kept}
use Rattle.uvisor_run.specs.CheckText.{box_line, item_text}
use Rattle.uvisor_run.proofs.Checking.{printed_first, printed_then}
use Rattle.uvisor_run.proofs.check_writing.put_holdings.Goals as goal

pub returns-in_err-put_name : goal.returns-in_err-put_name
returns-in_err-put_name g c =
    printed_first c.args.page.now (box_line c.args.part.now.name) (flat_map item_text c.args.part.now.items) c.put_name.new.page c.from_residual.result (search rules)
    (rw (c.as_bytes.ensures.value, c.as_str.ensures) at c.in_err-put_name.ensures)

pub returns : goal.returns
returns g c =
    printed_then c.args.page.now (box_line c.args.part.now.name) (flat_map item_text c.args.part.now.items) c.put_name.new.page c.put_items.new.page c.put_items.result
    (rw (c.as_bytes.ensures.value, c.as_str.ensures) at c.in_ok-put_name.ensures.ok) (count_kept refl c.in_ok-put_name.ensures.faults)
    (rw c.as_slice.ensures at c.put_items.ensures)
