use Rattle.std.proofs.Common.{◌≡◌, ◌+◌, ◌≤◌}
use Rattle.flat_model.specs.declared.events.Drive.TheVariants.{Script}
use Rattle.uvisor_run.proofs.Scripts.{IsOnScript}
use Rattle.uvisor_run.proofs.scripting.run_words.Given as goal

abbrev pub invariant-loop-i : goal.invariant-loop-i
invariant-loop-i l = (l.machine.config ≡ l.fn.machine.config) × (l.machine.drive ≡ Script)
    × (l.words ≤ l.machine.extra + l.i) × IsOnScript l.machine l.i
