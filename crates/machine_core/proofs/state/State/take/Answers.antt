use Rattle.std.proofs.Common.{◌≡◌, true, List, map, refl, ap, sym, ◌∙◌, subst}
use Rattle.flat_model.specs.declared.events.Logged.TheVariants as item
use Rattle.flat_model.specs.declared.events.UnitLine.{UnitLine}
use Rattle.flat_model.specs.declared.parts.Config.{Config}
use Rattle.flat_model.specs.declared.states.ThreadState.{ThreadState}
use Rattle.flat_model.specs.Step.{reply_to}
use Rattle.flat_model.specs.Trace.{World, world_after}
use Rattle.flat_model.specs.UnitRun.{unit_lines}
use Rattle.flat_model.specs.Want.{fits}
use Rattle.machine_core.specs.Deeds.{IsFitOrder, choice_by, choice_by_order}
use Rattle.machine_core.specs.Journal.{noted}
use Rattle.machine_core.specs.Kept.{IsKeptState}
use Rattle.machine_core.specs.State.{IsActing, MachineState, after_choice, state_of, world_with}
use Rattle.machine_core.specs.Unit.{ProtectionState}
use Rattle.machine_core.proofs.EventLemmas.{acts-in, can-act, chosen, chosen-fits, event-lines, event-reply, event-world, may-order}
use Rattle.machine_core.proofs.KeptLemmas.{kept-after}
use Rattle.machine_core.proofs.state.State.take.Goals as goal
use Rattle.machine_core.proofs.state.State.take.Goals.{After-choice-choice}

pub act-reply-requires-clause-acts : goal.act-reply-requires-clause-acts
act-reply-requires-clause-acts c =
    let m = c.self.inside in
    can-act m.kernel.config m.kernel m.threads m.unit.unit c.args.actor.who c.args.actor.part.now c.args.actor.program.now c.at-thread.result
    c.self.invariant.1 (acts-in c.args.self.now m.kernel.config (world_with m.kernel m.threads m.unit.unit) c.args.actor.who c.args.actor.part.now c.args.actor.program.now c.self.view_is c.requires.acts) c.at-thread.ensures refl

pub act-reply-requires-clause-may : goal.act-reply-requires-clause-may
act-reply-requires-clause-may c =
    let m = c.self.inside in
    may-order m.kernel.config m.kernel m.threads m.unit.unit c.args.actor.who c.args.actor.part.now c.args.actor.program.now c.at-thread.result
    c.self.invariant.1 (acts-in c.args.self.now m.kernel.config (world_with m.kernel m.threads m.unit.unit) c.args.actor.who c.args.actor.part.now c.args.actor.program.now c.self.view_is c.requires.acts) c.at-thread.ensures c.next-next.result c.next-next.ensures.exact c.args.order c.deed-deed.result c.deed-deed.ensures
    (subst (λ (v : MachineState). IsFitOrder v.config v.world.flat c.args.actor.who.thread c.args.order) (sym c.self.view_is) c.requires.fit)

here : (c : After-choice-choice) → IsActing (state_of c.self.inside.kernel.config (world_with c.self.inside.kernel c.self.inside.threads c.self.inside.unit.unit)) c.args.actor.who c.args.actor.part.now c.args.actor.program.now
here c =
    let m = c.self.inside in
    acts-in c.args.self.now m.kernel.config (world_with m.kernel m.threads m.unit.unit) c.args.actor.who c.args.actor.part.now c.args.actor.program.now c.self.view_is c.requires.acts

-- the order fits what the fields make
ordered : (c : After-choice-choice) → IsFitOrder c.self.inside.kernel.config (world_with c.self.inside.kernel c.self.inside.threads c.self.inside.unit.unit).flat c.args.actor.who.thread c.args.order
ordered c = subst (λ (v : MachineState). IsFitOrder v.config v.world.flat c.args.actor.who.thread c.args.order) (sym c.self.view_is) c.requires.fit

-- what it does fits
fit : (c : After-choice-choice) →
    fits c.self.inside.kernel.config (world_with c.self.inside.kernel c.self.inside.threads c.self.inside.unit.unit).flat (choice_by c.args.actor.who.thread c.deed-deed.result) ≡ true
fit c =
    let m = c.self.inside in
    chosen-fits m.kernel.config m.kernel m.threads m.unit.unit c.args.actor.who c.args.actor.part.now c.args.actor.program.now c.at-thread.result
    c.self.invariant.1 (here c) c.at-thread.ensures c.next-next.result c.next-next.ensures.exact c.args.order c.deed-deed.result c.deed-deed.ensures (ordered c)

-- the world after it
world-is : (c : After-choice-choice) →
    world_with c.act-reply.new.kernel c.put.new.self c.act-reply.new.unit.unit
    ≡ world_after c.self.inside.kernel.config (world_with c.self.inside.kernel c.self.inside.threads c.self.inside.unit.unit)
    (choice_by c.args.actor.who.thread c.deed-deed.result)
world-is c =
    let m = c.self.inside in
    ap (λ (threads : List ThreadState). world_with c.act-reply.new.kernel threads c.act-reply.new.unit.unit) c.put.ensures
    ∙ event-world m.kernel.config m.kernel m.threads m.unit.unit c.args.actor.who c.args.actor.part.now c.args.actor.program.now c.at-thread.result
    c.self.invariant.1 (acts-in c.args.self.now m.kernel.config (world_with m.kernel m.threads m.unit.unit) c.args.actor.who c.args.actor.part.now c.args.actor.program.now c.self.view_is c.requires.acts) c.at-thread.ensures c.next-next.result c.next-next.ensures.exact c.deed-deed.result (fit c)
    c.act-reply.new.kernel c.act-reply.new.thread c.act-reply.result c.act-reply.ensures.exact c.act-reply.new.unit.unit
    (ap (λ (v : ProtectionState). v.unit) c.act-reply.ensures.unit)

pub invariant_of-self : goal.invariant_of-self
invariant_of-self c =
    let m = c.self.inside in
    let w : World = world_with m.kernel m.threads m.unit.unit in (
      ap (λ (v : ProtectionState). v.config) c.act-reply.ensures.unit ∙ c.self.invariant.0 ∙ sym c.act-reply.ensures.config,
      subst (λ (cfg : Config). IsKeptState cfg (world_with c.act-reply.new.kernel c.put.new.self c.act-reply.new.unit.unit)) (sym c.act-reply.ensures.config)
          (subst (IsKeptState m.kernel.config) (sym (world-is c)) (kept-after m.kernel.config w (choice_by c.args.actor.who.thread c.deed-deed.result) c.self.invariant.1)),
    )

-- what it does is the order's choice
chosen-here : (c : After-choice-choice) →
    choice_by c.args.actor.who.thread c.deed-deed.result
    ≡ choice_by_order c.self.inside.kernel.config (world_with c.self.inside.kernel c.self.inside.threads c.self.inside.unit.unit).flat c.args.actor.who.thread c.args.order
chosen-here c =
    let m = c.self.inside in
    chosen m.kernel.config m.kernel m.threads m.unit.unit c.args.actor.who c.args.actor.part.now c.args.actor.program.now c.at-thread.result
    c.self.invariant.1 (here c) c.at-thread.ensures c.next-next.result c.next-next.ensures.exact c.args.order c.deed-deed.result c.deed-deed.ensures

pub returns-clause-state : goal.returns-clause-state
returns-clause-state c =
    let m = c.self.inside in
    let w : World = world_with m.kernel m.threads m.unit.unit in
    ap (λ (cfg : Config). state_of cfg (world_with c.act-reply.new.kernel c.put.new.self c.act-reply.new.unit.unit)) c.act-reply.ensures.config
    ∙ ap (state_of m.kernel.config) (world-is c)
    ∙ ap (λ choice. state_of m.kernel.config (world_after m.kernel.config w choice)) (chosen-here c)
    ∙ ap (λ (v : MachineState). after_choice v (choice_by_order v.config v.world.flat c.args.actor.who.thread c.args.order)) c.self.view_is

pub returns-clause-choice : goal.returns-clause-choice
returns-clause-choice c =
    c.choice-choice.ensures ∙ chosen-here c
    ∙ ap (λ (v : MachineState). choice_by_order v.config v.world.flat c.args.actor.who.thread c.args.order) c.self.view_is

pub returns-clause-reply : goal.returns-clause-reply
returns-clause-reply c =
    let m = c.self.inside in
    event-reply m.kernel.config m.kernel m.threads m.unit.unit c.args.actor.who c.args.actor.part.now c.args.actor.program.now c.at-thread.result
    c.self.invariant.1 (acts-in c.args.self.now m.kernel.config (world_with m.kernel m.threads m.unit.unit) c.args.actor.who c.args.actor.part.now c.args.actor.program.now c.self.view_is c.requires.acts) c.at-thread.ensures c.next-next.result c.next-next.ensures.exact c.deed-deed.result (fit c)
    c.act-reply.new.kernel c.act-reply.new.thread c.act-reply.result c.act-reply.ensures.exact
    ∙ ap (reply_to m.kernel.config (world_with m.kernel m.threads m.unit.unit).flat) (sym c.choice-choice.ensures)
    ∙ ap (λ (v : MachineState). reply_to v.config v.world.flat c.choice-choice.result) c.self.view_is

pub returns-clause-journal : goal.returns-clause-journal
returns-clause-journal c =
    let m = c.self.inside in
    let j = c.args.journal.now in
    c.act-reply.ensures.journal
    ∙ ap (λ (ls : List UnitLine). noted j (map item.Unit ls)) (
    event-lines m.kernel.config m.kernel m.threads m.unit.unit c.args.actor.who c.args.actor.part.now c.args.actor.program.now c.at-thread.result
    c.self.invariant.1 (acts-in c.args.self.now m.kernel.config (world_with m.kernel m.threads m.unit.unit) c.args.actor.who c.args.actor.part.now c.args.actor.program.now c.self.view_is c.requires.acts) c.at-thread.ensures c.next-next.result c.next-next.ensures.exact c.deed-deed.result (fit c)
    c.act-reply.new.kernel c.act-reply.new.thread c.act-reply.result c.act-reply.ensures.exact
    ∙ ap (unit_lines m.kernel.config (world_with m.kernel m.threads m.unit.unit).flat m.unit.unit) (sym c.choice-choice.ensures)
    )
    ∙ ap (λ (v : MachineState). noted j (map item.Unit (unit_lines v.config v.world.flat v.world.unit c.choice-choice.result))) c.self.view_is
