use Rattle.std.proofs.Common.{◌≡◌, ◌∙◌, ap, map, subst, sym}
use Rattle.flat_model.specs.declared.logs.Log.{Log}
use Rattle.flat_model.specs.Legal.{IsLegal}
use Rattle.flat_model.specs.Log.{choices_of}
use Rattle.flat_model.specs.OneLog.{log_of_choices}
use Rattle.flat_model.specs.Run.{end_of_thread, ends_of}
use Rattle.machine_core.specs.Kept.{events_left}
use Rattle.machine_core.specs.View.{MachineView}
use Rattle.machine_core.proofs.MachineLemmas.{legal-kept, one-kept}
use Rattle.machine_core.proofs.machine.Machine.into_log.Goals as goal
use Rattle.machine_core.proofs.machine.Machine.into_log.Goals.{After-from_vec}

log_is : (c : After-from_vec) →
    ◌≡◌ {A = Log} (record { items = c.into_items.result; ends = c.from_vec.result })
    (record { items = c.self.inside.journal.items; ends = ends_of c.self.inside.state.world.flat })
log_is c =
    ap (λ xs. record { items = xs; ends = c.from_vec.result }) c.into_items.ensures
    ∙ ap (λ es. record { items = c.self.inside.journal.items; ends = es })
    (c.from_vec.ensures ∙ c.write_ends.ensures ∙ ap (map end_of_thread) c.threads.ensures)

pub returns-clause-exact : goal.returns-clause-exact
returns-clause-exact c =
    let m = c.self.inside in
    log_is (goal.at.returns-clause-exact c).After-from_vec
    ∙ one-kept m.config (events_left m.drive m.extra m.rings) m.journal m.state.world c.self.invariant.1
    ∙ ap (λ (v : MachineView). log_of_choices v.config (choices_of v.items)) c.self.view_is

pub returns-clause-legal : goal.returns-clause-legal
returns-clause-legal c =
    let m = c.self.inside in
    subst (IsLegal c.args.self.config) (sym (log_is (goal.at.returns-clause-legal c).After-from_vec))
    (subst (λ (v : MachineView). IsLegal v.config (record { items = m.journal.items; ends = ends_of m.state.world.flat })) c.self.view_is
    (legal-kept m.config (events_left m.drive m.extra m.rings) m.journal m.state.world c.self.invariant.1))
