use Rattle.std.proofs.Common.{refl, rules}
use Rattle.run_log.proofs.Printing.{count_kept}
use Rattle.uvisor_run.specs.CheckText.{head_text, tail_text}
use Rattle.uvisor_run.proofs.Checking.{printed_first, printed_then}
use Rattle.uvisor_run.proofs.check_writing.put_box.Goals as goal

pub returns-in_err-put_head : goal.returns-in_err-put_head
returns-in_err-put_head g c =
    printed_first c.args.page.now (head_text c.args.part.now) (tail_text c.args.config.now c.args.part.now) c.put_head.new.page c.from_residual.result (search rules)
    c.in_err-put_head.ensures

pub returns : goal.returns
returns g c =
    printed_then c.args.page.now (head_text c.args.part.now) (tail_text c.args.config.now c.args.part.now) c.put_head.new.page c.put_tail.new.page c.put_tail.result
    c.in_ok-put_head.ensures.ok (count_kept refl c.in_ok-put_head.ensures.faults)
    c.put_tail.ensures
