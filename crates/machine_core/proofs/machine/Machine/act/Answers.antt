use Rattle.std.proofs.Common.{◌≡◌, ◌∙◌, ap, refl, subst, sym}
use Rattle.flat_model.specs.Legal.{IsLegal}
use Rattle.machine_core.specs.Deeds.{choice_by}
use Rattle.machine_core.specs.Entries.{HasGrown}
use Rattle.machine_core.specs.Kept.{events_left}
use Rattle.machine_core.specs.State.{MachineState}
use Rattle.machine_core.specs.View.{MachineView, after_event}
use Rattle.machine_core.proofs.ActLemmas.{act-counts, act-fit, act-is, act-kept, act-reply, act-room}
use Rattle.machine_core.proofs.EntryLemmas.{deed-grown}
use Rattle.machine_core.proofs.MachineLemmas.{legal-seen}
use Rattle.machine_core.proofs.machine.Machine.act.Goals as goal

pub step-requires-clause-fit : goal.step-requires-clause-fit
step-requires-clause-fit c =
    let m = c.self.inside in
    act-fit c.args.self.now m.config m.drive m.extra m.rings m.journal m.state c.self.view_is c.self.invariant.0 c.self.invariant.1 c.args.t c.args.deed c.requires

pub step-requires-clause-room : goal.step-requires-clause-room
step-requires-clause-room c =
    let m = c.self.inside in
    act-room c.args.self.now m.config m.drive m.extra m.rings m.journal m.state c.self.view_is c.self.invariant.0 c.self.invariant.1 c.args.t c.args.deed c.requires

pub invariant_of-self : goal.invariant_of-self
invariant_of-self c =
    let m = c.self.inside in (
      ap (λ (s : MachineState). s.config) c.step.ensures.state ∙ c.self.invariant.0,
      act-kept c.args.self.now m.config m.drive m.extra m.rings m.journal m.state c.self.view_is c.self.invariant.0 c.self.invariant.1
          c.args.t c.args.deed c.requires c.step.new.journal c.step.new.self c.step.ensures.journal c.step.ensures.state,
      c.self.invariant.2,
      act-counts c.args.self.now m.config m.drive m.extra m.rings m.journal m.state c.self.view_is c.self.invariant.0 c.self.invariant.1
          c.args.t c.args.deed c.requires c.step.new.journal c.step.new.self c.step.ensures.journal c.step.ensures.state c.self.invariant.3,
    )

pub returns-clause-event : goal.returns-clause-event
returns-clause-event c =
    let m = c.self.inside in
    act-is c.args.self.now m.config m.drive m.extra m.rings m.journal m.state c.self.view_is c.self.invariant.0 c.self.invariant.1
    c.args.t c.args.deed c.requires c.step.new.journal c.step.new.self c.step.ensures.journal c.step.ensures.state

pub returns-clause-reply : goal.returns-clause-reply
returns-clause-reply c =
    let m = c.self.inside in
    c.step.ensures.reply
    ∙ act-reply c.args.self.now m.config m.drive m.extra m.rings m.journal m.state c.self.view_is c.self.invariant.0 c.self.invariant.1 c.args.t c.args.deed c.requires

pub returns-clause-legal : goal.returns-clause-legal
returns-clause-legal c =
    let m = c.self.inside in
    legal-seen _ m.config m.drive m.extra (events_left m.drive m.extra m.rings) c.step.new.journal c.step.new.self refl
    (act-kept c.args.self.now m.config m.drive m.extra m.rings m.journal m.state c.self.view_is c.self.invariant.0 c.self.invariant.1
    c.args.t c.args.deed c.requires c.step.new.journal c.step.new.self c.step.ensures.journal c.step.ensures.state)

pub returns-clause-grown : goal.returns-clause-grown
returns-clause-grown c =
    let m = c.self.inside in
    subst (λ (x : MachineView). HasGrown c.args.self.now x c.args.t.0)
    (sym (act-is c.args.self.now m.config m.drive m.extra m.rings m.journal m.state c.self.view_is c.self.invariant.0 c.self.invariant.1
    c.args.t c.args.deed c.requires c.step.new.journal c.step.new.self c.step.ensures.journal c.step.ensures.state))
    (deed-grown c.args.self.now c.args.t c.args.deed)
