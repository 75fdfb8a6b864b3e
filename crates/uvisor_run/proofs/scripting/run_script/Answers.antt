use Rattle.std.proofs.Common.{ap, ◌∙◌, subst}
use Rattle.flat_model.specs.declared.parts.Config.{Config}
use Rattle.flat_model.specs.Legal.{IsLegal}
use Rattle.box_isolation.proofs.WholeIsolation.{isolated}
use Rattle.machine_core.specs.View.{MachineView}
use Rattle.uvisor_run.proofs.scripting.run_script.Goals as goal

pub returns-clause-isolated : goal.returns-clause-isolated
returns-clause-isolated c =
    let same = c.run_words.ensures.config ∙ ap (λ (v : MachineView). v.config) c.in_ok-machine.ensures in
    isolated c.args.config c.into_log.result.1 c.requires.sound
    (subst (λ (cfg : Config). IsLegal cfg c.into_log.result.1) same c.into_log.ensures.legal)
