use Rattle.std.proofs.Common.{◌≡◌, ◌<◌, ◌≤◌, ◌∙◌, ◌+◌, ap, arith, length, refl, subst, sym}
use Rattle.flat_model.specs.declared.events.Choice.TheVariants as choice
use Rattle.machine_core.specs.Entries.{HasGrown}
use Rattle.machine_core.specs.Kept.{CountsRings, IsKept, events_left}
use Rattle.machine_core.specs.State.{MachineState}
use Rattle.machine_core.specs.View.{MachineView}
use Rattle.machine_core.proofs.ActLemmas.{fewer, owned-here, ring-room-here, rung-counts, rung-is, rung-kept}
use Rattle.machine_core.proofs.EntryLemmas.{event-grown}
use Rattle.machine_core.proofs.MachineLemmas.{legal-seen}
use Rattle.machine_core.proofs.machine.Machine.record_ring.Goals as goal

pub at-made-requires : goal.at-made-requires
at-made-requires c =
    subst (λ n. c.args.device < n) (sym c.self.invariant.3.devices)
    (subst (λ (v : MachineView). c.args.device < length v.config.devices) (sym c.self.view_is) c.requires.device)

pub ring-requires-clause-owned : goal.ring-requires-clause-owned
ring-requires-clause-owned c =
    let m = c.self.inside in
    owned-here c.args.self.now m.config m.drive m.extra m.rings m.journal m.state c.self.view_is c.self.invariant.0 c.self.invariant.1
    c.requires.drive c.args.line c.args.device c.at-made.result c.self.invariant.3 c.at-made.ensures c.requires.may

pub ring-requires-clause-room : goal.ring-requires-clause-room
ring-requires-clause-room c =
    let m = c.self.inside in
    ring-room-here c.args.self.now m.config m.drive m.extra m.rings m.journal m.state c.self.view_is c.self.invariant.0 c.self.invariant.1
    c.requires.drive c.args.line c.args.device c.at-made.result c.self.invariant.3 c.at-made.ensures c.requires.may

pub overflow_cast-by : goal.overflow_cast-by
overflow_cast-by c =
    let below = subst (λ (v : MachineView). c.args.device < length v.config.devices) (sym c.self.view_is) c.requires.device in
    omega (arith, below, c.self.invariant.1.state.sound.limits.devices)

pub overflow_add-more : goal.overflow_add-more
overflow_add-more c =
    let m = c.self.inside in
    let less = fewer c.args.self.now m.config m.drive m.extra m.rings m.journal m.state c.self.view_is c.self.invariant.0 c.self.invariant.1
    c.requires.drive c.args.line c.args.device c.at-made.result c.self.invariant.3 c.at-made.ensures c.requires.may in
    omega (arith, less)

pub invariant_of-self : goal.invariant_of-self
invariant_of-self c =
    let m = c.self.inside in (
      ap (λ (s : MachineState). s.config) c.ring.ensures.state ∙ c.self.invariant.0,
      subst (λ xs. IsKept m.config (events_left m.drive m.extra xs) c.ring.new.journal c.ring.new.self.world) (sym c.put.ensures)
          (rung-kept c.args.self.now m.config m.drive m.extra m.rings m.journal m.state c.self.view_is c.self.invariant.0 c.self.invariant.1
          c.requires.drive c.args.line c.args.device c.at-made.result c.self.invariant.3 c.at-made.ensures c.requires.may
          c.ring.new.journal c.ring.new.self c.ring.ensures.journal c.ring.ensures.state),
      c.self.invariant.2,
      subst (CountsRings m.config m.drive c.ring.new.journal.items) (sym c.put.ensures)
          (rung-counts c.args.self.now m.config m.drive m.extra m.rings m.journal m.state c.self.view_is c.self.invariant.0 c.self.invariant.1
          c.requires.drive c.args.line c.args.device c.at-made.result c.self.invariant.3 c.at-made.ensures c.requires.may
          c.ring.new.journal c.ring.new.self c.ring.ensures.journal c.ring.ensures.state),
    )

pub returns-clause-event : goal.returns-clause-event
returns-clause-event c =
    let m = c.self.inside in
    rung-is c.args.self.now m.config m.drive m.extra m.rings m.journal m.state c.self.view_is c.self.invariant.0 c.self.invariant.1
    c.requires.drive c.args.line c.args.device c.at-made.result c.self.invariant.3 c.at-made.ensures c.requires.may
    c.ring.new.journal c.ring.new.self c.ring.ensures.journal c.ring.ensures.state

pub returns-clause-legal : goal.returns-clause-legal
returns-clause-legal c =
    let m = c.self.inside in
    legal-seen _ m.config m.drive m.extra _ c.ring.new.journal c.ring.new.self refl
    (rung-kept c.args.self.now m.config m.drive m.extra m.rings m.journal m.state c.self.view_is c.self.invariant.0 c.self.invariant.1
    c.requires.drive c.args.line c.args.device c.at-made.result c.self.invariant.3 c.at-made.ensures c.requires.may
    c.ring.new.journal c.ring.new.self c.ring.ensures.journal c.ring.ensures.state)

pub returns-clause-grown : goal.returns-clause-grown
returns-clause-grown c =
    let m = c.self.inside in
    subst (λ (x : MachineView). HasGrown c.args.self.now x (length c.args.self.now.config.threads + c.args.device))
    (sym (rung-is c.args.self.now m.config m.drive m.extra m.rings m.journal m.state c.self.view_is c.self.invariant.0 c.self.invariant.1
    c.requires.drive c.args.line c.args.device c.at-made.result c.self.invariant.3 c.at-made.ensures c.requires.may
    c.ring.new.journal c.ring.new.self c.ring.ensures.journal c.ring.ensures.state))
    (event-grown c.args.self.now (choice.Ring c.args.line c.args.device))
