use Rattle.std.proofs.Common.{ap, sym, ◌∙◌}
use Rattle.machine_core.specs.View.{MachineView, with_event, world_of}
use Rattle.uvisor_run.proofs.Scripts.{ring_word, thread_word}
use Rattle.uvisor_run.proofs.scripting.run_word.Goals as goal

-- src/scripting.rt:16:1
pub returns-in-Thread-clause-items : goal.returns-in-Thread-clause-items
returns-in-Thread-clause-items c =
    ap (λ (v : MachineView). v.items) c.script_step.ensures
    ∙ ap (with_event c.args.machine.now) (sym (thread_word c.args.machine.now.config (world_of c.args.machine.now).flat c.args.word c.in-Thread.t c.in-Thread.is))

pub returns-in-Ring-clause-items : goal.returns-in-Ring-clause-items
returns-in-Ring-clause-items c =
    ap (λ (v : MachineView). v.items) c.ring_plain.ensures
    ∙ ap (with_event c.args.machine.now) (sym (ring_word c.args.machine.now.config (world_of c.args.machine.now).flat c.args.word c.in-Ring.line c.in-Ring.is))
