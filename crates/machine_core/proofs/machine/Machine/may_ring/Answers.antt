use Rattle.std.proofs.Common.{◌≡◌, ◌<◌, ◌+◌, true, ◌&&◌, ap, arith, length, nat_lt, subst, sym, ◌∙◌}
use Rattle.flat_model.specs.declared.parts.Config.{Config}
use Rattle.flat_model.specs.Want.{is_owned_line}
use Rattle.machine_core.specs.Kept.{events_left}
use Rattle.machine_core.specs.View.{MachineView}
use Rattle.machine_core.proofs.ActLemmas.{ring-taken}
use Rattle.machine_core.proofs.EntryLemmas.{same-grown}
use Rattle.machine_core.proofs.MachineLemmas.{legal-seen}
use Rattle.machine_core.proofs.machine.Machine.may_ring.Goals as goal

pub at-made-requires : goal.at-made-requires
at-made-requires c =
    subst (λ n. c.args.device < n) (sym c.self.invariant.3.devices)
    (subst (λ (v : MachineView). c.args.device < length v.config.devices) (sym c.self.view_is) c.requires.device)

pub returns-clause-exact : goal.returns-clause-exact
returns-clause-exact c =
    let m = c.self.inside in
    c.both.ensures
    ∙ ap (λ b. b && nat_lt c.at-made.result m.extra) (c.owns_line-owned.ensures ∙ ap (λ (x : Config). is_owned_line x c.args.line.0) c.self.invariant.0)
    ∙ ring-taken c.args.self.now m.config m.drive m.extra m.rings m.journal m.state c.self.view_is c.self.invariant.0 c.self.invariant.1
    c.requires.drive c.args.line c.args.device c.at-made.result c.self.invariant.3 c.at-made.ensures

pub returns-clause-legal : goal.returns-clause-legal
returns-clause-legal c =
    let m = c.self.inside in
    legal-seen c.args.self.now m.config m.drive m.extra (events_left m.drive m.extra m.rings) m.journal m.state c.self.view_is c.self.invariant.1

pub returns-clause-same : goal.returns-clause-same
returns-clause-same c = same-grown c.args.self.now (length c.args.self.now.config.threads + c.args.device)
