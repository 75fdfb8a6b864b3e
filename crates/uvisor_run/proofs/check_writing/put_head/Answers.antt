use Rattle.std.proofs.Common.{refl, rules}
use Rattle.std.specs.List.{flat_map}
use Rattle.run_log.proofs.Printing.{count_kept}
use Rattle.uvisor_run.specs.CheckText.{holdings_text, irq_text}
use Rattle.uvisor_run.proofs.Checking.{printed_first, printed_then}
use Rattle.uvisor_run.proofs.check_writing.put_head.Goals as goal

pub returns-in_err-put_holdings : goal.returns-in_err-put_holdings
returns-in_err-put_holdings g c =
    printed_first c.args.page.now (holdings_text c.args.part.now) (flat_map irq_text c.args.part.now.irqs) c.put_holdings.new.page c.from_residual.result (search rules)
    c.in_err-put_holdings.ensures

pub returns : goal.returns
returns g c =
    printed_then c.args.page.now (holdings_text c.args.part.now) (flat_map irq_text c.args.part.now.irqs) c.put_holdings.new.page c.put_irqs.new.page c.put_irqs.result
    c.in_ok-put_holdings.ensures.ok (count_kept refl c.in_ok-put_holdings.ensures.faults)
    (rw c.as_slice.ensures at c.put_irqs.ensures)
