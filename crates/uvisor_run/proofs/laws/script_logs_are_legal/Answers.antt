use Rattle.uvisor_run.proofs.Runs.{script_chosen, script_legal}
use Rattle.uvisor_run.proofs.laws.script_logs_are_legal.Goals as goal

pub returns-clause-legal : goal.returns-clause-legal
returns-clause-legal c = script_legal

pub returns-clause-choices : goal.returns-clause-choices
returns-clause-choices c = script_chosen
