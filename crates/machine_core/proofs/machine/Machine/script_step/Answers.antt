use Rattle.std.proofs.Common.{◌-◌, ◌∙◌, ap, cond}
use Rattle.machine_core.specs.State.{MachineState}
use Rattle.machine_core.proofs.MachineLemmas.{counts-script, step-is, step-kept, step-room}
use Rattle.machine_core.proofs.machine.Machine.script_step.Goals as goal

pub step-requires-clause-room : goal.step-requires-clause-room
step-requires-clause-room c =
    let m = c.self.inside in
    step-room c.args.self.now m.config m.drive m.extra m.rings m.journal m.state c.self.view_is c.requires.drive c.self.invariant.0 c.self.invariant.1
    c.args.t c.requires.thread c.requires.extra

pub invariant_of-self : goal.invariant_of-self
invariant_of-self c =
    let m = c.self.inside in
    let pay = c.extra_after-extra.ensures ∙ ap (λ b. cond b (m.extra - 1) m.extra) c.has_ended.ensures in (
      ap (λ (s : MachineState). s.config) c.step.ensures.state ∙ c.self.invariant.0,
      step-kept c.args.self.now m.config m.drive m.extra m.rings m.journal m.state c.self.view_is c.requires.drive c.self.invariant.0 c.self.invariant.1
          c.args.t c.requires.thread c.requires.extra c.extra_after-extra.result c.step.new.journal c.step.new.self pay c.step.ensures.journal c.step.ensures.state,
      c.self.invariant.2,
      counts-script c.args.self.now m.config m.drive m.extra m.rings m.journal m.state c.self.view_is c.requires.drive c.self.invariant.0 c.self.invariant.1
          c.step.new.journal.items c.self.invariant.3,
    )

pub returns : goal.returns
returns c =
    let m = c.self.inside in
    let pay = c.extra_after-extra.ensures ∙ ap (λ b. cond b (m.extra - 1) m.extra) c.has_ended.ensures in
    step-is c.args.self.now m.config m.drive m.extra m.rings m.journal m.state c.self.view_is c.requires.drive c.self.invariant.0 c.self.invariant.1
    c.args.t c.requires.thread c.requires.extra c.extra_after-extra.result c.step.new.journal c.step.new.self pay c.step.ensures.journal c.step.ensures.state
