use Rattle.std.proofs.Common.{◌≡◌, ◌<◌, true, ap, length, subst, sym, ◌∙◌}
use Rattle.flat_model.specs.declared.parts.Config.{Config}
use Rattle.flat_model.specs.Want.{want_of}
use Rattle.machine_core.specs.Kept.{events_left}
use Rattle.machine_core.specs.Turns.{serves_box}
use Rattle.machine_core.specs.View.{MachineView}
use Rattle.machine_core.proofs.MachineLemmas.{wants-is}
use Rattle.machine_core.proofs.WantedLemmas.{room-there, server-there}
use Rattle.machine_core.proofs.machine.Machine.wants.Goals as goal

pub returns-clause-exact : goal.returns-clause-exact
returns-clause-exact c =
    let m = c.self.inside in
    c.wants.ensures ∙ wants-is c.args.self.now m.config m.drive m.extra (events_left m.drive m.extra m.rings) m.journal m.state c.self.view_is c.self.invariant.0 c.self.invariant.1 c.args.t

pub returns-clause-room : goal.returns-clause-room
returns-clause-room c = λ b is.
    let m = c.self.inside in
    subst (λ (v : MachineView). b.0 < length v.config.boxes) c.self.view_is
    (room-there m.config c.self.invariant.1.state.sound b m.state.world.flat c.args.t.0
    (ap (λ (x : Config). want_of x m.state.world.flat c.args.t.0) (sym c.self.invariant.0) ∙ sym c.wants.ensures ∙ is))

pub returns-clause-server : goal.returns-clause-server
returns-clause-server c = λ is.
    let m = c.self.inside in
    subst (λ (v : MachineView). serves_box v.config c.args.t.0 ≡ true) c.self.view_is
    (server-there m.config m.state.world.flat c.args.t.0
    (ap (λ (x : Config). want_of x m.state.world.flat c.args.t.0) (sym c.self.invariant.0) ∙ sym c.wants.ensures ∙ is))
