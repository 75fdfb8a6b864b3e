use Rattle.std.specs.List.{flat_map}
use Rattle.std.proofs.lemmas.Result.{on_err_weaker}
use Rattle.uvisor_run.specs.CheckText.{box_text, check_text}
use Rattle.uvisor_run.proofs.Checking.{flushed_part}
use Rattle.uvisor_run.proofs.check_writing.write_check.Goals as goal

pub returns-clause-err : goal.returns-clause-err
unfolding check_text
returns-clause-err g c =
    on_err_weaker c.flush.result (λ part. flushed_part (flat_map (box_text c.args.config.now) c.args.config.now.boxes) c.put_boxes.new.page
    (rw c.new-page.ensures at c.in_ok-put_boxes.ensures.ok) part) c.flush.ensures.err
