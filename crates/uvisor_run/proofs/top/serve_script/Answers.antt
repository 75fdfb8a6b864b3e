use Rattle.std.proofs.Common.{arith}
use Rattle.flat_model.specs.OneLog.{script_log}
use Rattle.uvisor_run.specs.Output.{log_output}
use Rattle.uvisor_run.proofs.Runs.{run_named, run_told}
use Rattle.uvisor_run.proofs.Told.{told_in_memory}
use Rattle.uvisor_run.proofs.top.serve_script.Goals as goal

pub answer_log-requires-clause-sound : goal.answer_log-requires-clause-sound
answer_log-requires-clause-sound g c = rw c.in-Ok.ensures.config c.requires.sound

pub answer_log-requires-clause-named : goal.answer_log-requires-clause-named
answer_log-requires-clause-named g c = run_named c.args.config c.in-Ok.config c.in-Ok.log c.in-Ok.ensures.config c.requires.sound c.in-Ok.ensures.legal

pub returns : goal.returns
returns g c =
    told_in_memory (log_output c.args.config (script_log c.args.config)) _ _ _ _ _ (omega arith)
    (run_told c.args.config c.in-Ok.config c.in-Ok.log _ _ _ _ _ c.in-Ok.ensures.config c.in-Ok.ensures.legal c.in-Ok.ensures.choices c.answer_log.ensures)
