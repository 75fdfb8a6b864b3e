use Rattle.std.proofs.Common.{◌≡◌, true, ◌&&◌, ap, sym, ◌∙◌}
use Rattle.std.specs.Prelude.{nat_eq}
use Rattle.addr_base.specs.declared.identity.BoxId.{BoxId}
use Rattle.flat_model.specs.CallRows.{home_of}
use Rattle.flat_model.specs.Want.{wants_next}
use Rattle.machine_core.specs.Turns.{want_in}
use Rattle.machine_core.specs.View.{MachineView}
use Rattle.machine_core.proofs.ReadyLemmas.{next-ready}
use Rattle.machine_core.proofs.machine.Machine.wants_next.Goals as goal

pub returns-clause-exact : goal.returns-clause-exact
returns-clause-exact c =
    c.is_next_of.ensures
    ∙ ap (λ w. wants_next w && nat_eq c.home_of-home.result.0 c.args.b.0) c.want-want.ensures.exact
    ∙ ap (λ (h : BoxId). wants_next (want_in c.args.self.now c.args.t) && nat_eq h.0 c.args.b.0)
    (c.home_of-home.ensures ∙ ap (λ (v : MachineView). home_of v.config c.args.t.0) c.self.view_is)

pub returns-clause-ready : goal.returns-clause-ready
returns-clause-ready c = λ yes.
    next-ready c.args.self.now c.args.t c.requires c.args.b (
    sym (c.is_next_of.ensures
    ∙ ap (λ w. wants_next w && nat_eq c.home_of-home.result.0 c.args.b.0) c.want-want.ensures.exact
    ∙ ap (λ (h : BoxId). wants_next (want_in c.args.self.now c.args.t) && nat_eq h.0 c.args.b.0)
    (c.home_of-home.ensures ∙ ap (λ (v : MachineView). home_of v.config c.args.t.0) c.self.view_is))
    ∙ yes
    )
