use Rattle.std.proofs.Common.{◌∙◌}
use Rattle.machine_core.specs.Kept.{events_left}
use Rattle.machine_core.proofs.EntryLemmas.{same-grown}
use Rattle.machine_core.proofs.MachineLemmas.{legal-seen, wants-is}
use Rattle.machine_core.proofs.machine.Machine.want.Goals as goal

pub returns-clause-exact : goal.returns-clause-exact
returns-clause-exact c =
    let m = c.self.inside in
    c.wants.ensures
    ∙ wants-is c.args.self.now m.config m.drive m.extra (events_left m.drive m.extra m.rings) m.journal m.state c.self.view_is c.self.invariant.0 c.self.invariant.1 c.args.t

pub returns-clause-legal : goal.returns-clause-legal
returns-clause-legal c =
    let m = c.self.inside in
    legal-seen c.args.self.now m.config m.drive m.extra (events_left m.drive m.extra m.rings) m.journal m.state c.self.view_is c.self.invariant.1

pub returns-clause-same : goal.returns-clause-same
returns-clause-same c = same-grown c.args.self.now c.args.t.0
