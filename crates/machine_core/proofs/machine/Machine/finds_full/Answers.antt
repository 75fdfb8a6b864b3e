use Rattle.std.proofs.Common.{◌≡◌, true, ◌&&◌, ap, sym, ◌∙◌}
use Rattle.machine_core.specs.Kept.{events_left}
use Rattle.machine_core.specs.Turns.{takes_claim}
use Rattle.machine_core.proofs.MachineLemmas.{full-seen}
use Rattle.machine_core.proofs.ReadyLemmas.{full-ready}
use Rattle.machine_core.proofs.machine.Machine.finds_full.Goals as goal

pub returns-clause-exact : goal.returns-clause-exact
returns-clause-exact c =
    let m = c.self.inside in
    c.both.ensures
    ∙ ap (λ w. w && c.may_be_full-full.result) c.wants_room-wants.ensures.exact
    ∙ ap (λ f. takes_claim c.args.self.now c.args.t c.args.b && f) (c.may_be_full-full.ensures
    ∙ full-seen c.args.self.now m.config m.drive m.extra (events_left m.drive m.extra m.rings) m.journal m.state c.self.view_is c.self.invariant.0 c.self.invariant.1 c.args.t c.args.b)

pub returns-clause-ready : goal.returns-clause-ready
returns-clause-ready c = λ yes.
    let m = c.self.inside in
    full-ready c.args.self.now c.args.t c.requires c.args.b (
    sym (c.both.ensures
    ∙ ap (λ w. w && c.may_be_full-full.result) c.wants_room-wants.ensures.exact
    ∙ ap (λ f. takes_claim c.args.self.now c.args.t c.args.b && f) (c.may_be_full-full.ensures
    ∙ full-seen c.args.self.now m.config m.drive m.extra (events_left m.drive m.extra m.rings) m.journal m.state c.self.view_is c.self.invariant.0 c.self.invariant.1 c.args.t c.args.b))
    ∙ yes
    )
