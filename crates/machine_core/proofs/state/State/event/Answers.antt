use Rattle.std.proofs.Common.{ap, subst, sym, ◌∙◌}
use Rattle.addr_base.specs.declared.identity.ThreadId.{ThreadId}
use Rattle.flat_model.specs.declared.actors.Who.{Who}
use Rattle.flat_model.specs.declared.events.Reply.{Reply}
use Rattle.flat_model.specs.declared.states.Flat.{Flat}
use Rattle.flat_model.specs.Step.{reply_to}
use Rattle.flat_model.specs.UnitRun.{unit_lines}
use Rattle.machine_core.specs.Deeds.{IsFitOrder, idle_choice}
use Rattle.machine_core.specs.State.{after_choice, state_of}
use Rattle.machine_core.proofs.EventLemmas.{nobody-in, world-is}
use Rattle.machine_core.proofs.KeptLemmas.{at-nobody, choice-nobody, step-nobody}
use Rattle.machine_core.proofs.TurnLemmas.{after-idle, lines-idle}
use Rattle.machine_core.proofs.UnitLemmas.{noted-none}
use Rattle.machine_core.proofs.state.State.event.Goals as goal

pub returns-in-None-clause-state : goal.returns-in-None-clause-state
returns-in-None-clause-state c =
    let s = c.args.self.now in
    let none = nobody-in c.args.self.now c.args.cfg.now _ c.args.t.0 c.requires.config c.self.view_is c.in-None.ensures.none in
    sym (ap (state_of s.config) (world-is s.config s.world (idle_choice c.args.t c.args.order) s.world.flat s.world.unit
    (ap (λ (p : Flat × Reply). p.0) (step-nobody s.config s.world.flat c.args.t c.args.order none)) (after-idle s.config s.world.flat s.world.unit (idle_choice c.args.t c.args.order) (at-nobody s.config s.world.flat c.args.t c.args.order none))))
    ∙ ap (after_choice s) (sym (choice-nobody s.config s.world.flat c.args.t c.args.order none))

pub returns-in-None-clause-choice : goal.returns-in-None-clause-choice
returns-in-None-clause-choice c =
    let s = c.args.self.now in
    let none = nobody-in c.args.self.now c.args.cfg.now _ c.args.t.0 c.requires.config c.self.view_is c.in-None.ensures.none in
    c.idle_choice.ensures ∙ sym (choice-nobody s.config s.world.flat c.args.t c.args.order none)

pub returns-in-None-clause-reply : goal.returns-in-None-clause-reply
returns-in-None-clause-reply c =
    let s = c.args.self.now in
    let none = nobody-in c.args.self.now c.args.cfg.now _ c.args.t.0 c.requires.config c.self.view_is c.in-None.ensures.none in
    sym (ap (reply_to s.config s.world.flat) c.idle_choice.ensures
    ∙ ap (λ (p : Flat × Reply). p.1) (step-nobody s.config s.world.flat c.args.t c.args.order none))

pub returns-in-None-clause-journal : goal.returns-in-None-clause-journal
returns-in-None-clause-journal c =
    let s = c.args.self.now in
    let none = nobody-in c.args.self.now c.args.cfg.now _ c.args.t.0 c.requires.config c.self.view_is c.in-None.ensures.none in
    noted-none c.args.journal.now _ (ap (unit_lines s.config s.world.flat s.world.unit) c.idle_choice.ensures
    ∙ lines-idle s.config s.world.flat s.world.unit (idle_choice c.args.t c.args.order) (at-nobody s.config s.world.flat c.args.t c.args.order none))

pub take-requires-clause-fit : goal.take-requires-clause-fit
take-requires-clause-fit c =
    let s = c.args.self.now in
    subst (λ (u : ThreadId). IsFitOrder s.config s.world.flat u c.args.order) (sym (ap (λ (w : Who). w.thread) c.in-Some.ensures.some.2)) c.requires.fit
