use Rattle.std.proofs.Common.{◌≡◌, ◌∙◌, true, ap, refl, subst, sym}
use Rattle.flat_model.specs.declared.parts.Config.{Config}
use Rattle.flat_model.specs.Want.{is_owned_line}
use Rattle.machine_core.specs.State.{MachineState}
use Rattle.machine_core.specs.View.{MachineView}
use Rattle.machine_core.proofs.MachineLemmas.{counts-script, ring-is, ring-kept, ring-room}
use Rattle.machine_core.proofs.machine.Machine.ring_plain.Goals as goal

pub ring-requires-clause-owned : goal.ring-requires-clause-owned
ring-requires-clause-owned c =
    subst (λ (x : Config). is_owned_line x c.args.line.0 ≡ true) (sym c.self.invariant.0)
    (subst (λ (x : MachineView). is_owned_line x.config c.args.line.0 ≡ true) (sym c.self.view_is) c.requires.owned)

pub ring-requires-clause-room : goal.ring-requires-clause-room
ring-requires-clause-room c =
    let m = c.self.inside in
    ring-room c.args.self.now m.config m.drive m.extra m.rings m.journal m.state c.self.view_is c.requires.drive c.self.invariant.0 c.self.invariant.1
    c.args.line c.requires.owned c.requires.extra

pub invariant_of-self : goal.invariant_of-self
invariant_of-self c =
    let m = c.self.inside in (
      ap (λ (s : MachineState). s.config) c.ring.ensures.state ∙ c.self.invariant.0,
      ring-kept c.args.self.now m.config m.drive m.extra m.rings m.journal m.state c.self.view_is c.requires.drive c.self.invariant.0 c.self.invariant.1
          c.args.line c.requires.owned c.requires.extra _ c.ring.new.journal c.ring.new.self refl c.ring.ensures.journal c.ring.ensures.state,
      c.self.invariant.2,
      counts-script c.args.self.now m.config m.drive m.extra m.rings m.journal m.state c.self.view_is c.requires.drive c.self.invariant.0 c.self.invariant.1
          c.ring.new.journal.items c.self.invariant.3,
    )

pub returns : goal.returns
returns c =
    let m = c.self.inside in
    ring-is c.args.self.now m.config m.drive m.extra m.rings m.journal m.state c.self.view_is c.requires.drive c.self.invariant.0 c.self.invariant.1
    c.args.line c.requires.owned c.requires.extra _ c.ring.new.journal c.ring.new.self refl c.ring.ensures.journal c.ring.ensures.state
