use Rattle.std.proofs.Common.{◌≡◌, true, ap, sym, ◌∙◌, subst}
use Rattle.flat_model.specs.declared.events.Choice.TheVariants as choice
use Rattle.flat_model.specs.Kernel.{KernelState}
use Rattle.flat_model.specs.Trace.{World}
use Rattle.flat_model.specs.Want.{is_owned_line}
use Rattle.machine_core.specs.Kept.{IsKeptState}
use Rattle.machine_core.specs.State.{MachineState, after_choice, state_of, world_with}
use Rattle.machine_core.proofs.EventLemmas.{ring-noted, ring-world}
use Rattle.machine_core.proofs.KeptLemmas.{kept-after}
use Rattle.machine_core.proofs.state.State.ring.Goals as goal

pub invariant_of-self : goal.invariant_of-self
invariant_of-self c =
    let m = c.self.inside in
    let w : World = world_with m.kernel m.threads m.unit.unit in
    let owned = subst (λ (v : MachineState). is_owned_line v.config c.args.line.0 ≡ true) (sym c.self.view_is) c.requires.owned in (
      c.self.invariant.0 ∙ sym (ap (λ (k : KernelState). k.config) c.ring.ensures),
      subst (λ (k : KernelState). IsKeptState k.config (world_with k m.threads m.unit.unit)) (sym c.ring.ensures)
          (subst (IsKeptState m.kernel.config) (sym (ring-world m.kernel.config m.kernel m.threads m.unit.unit c.args.line c.args.by owned))
          (kept-after m.kernel.config w (choice.Ring c.args.line c.args.by) c.self.invariant.1)),
    )

pub returns-clause-state : goal.returns-clause-state
returns-clause-state c =
    let m = c.self.inside in
    let owned = subst (λ (v : MachineState). is_owned_line v.config c.args.line.0 ≡ true) (sym c.self.view_is) c.requires.owned in
    ap (λ (k : KernelState). state_of k.config (world_with k m.threads m.unit.unit)) c.ring.ensures
    ∙ ap (state_of m.kernel.config) (ring-world m.kernel.config m.kernel m.threads m.unit.unit c.args.line c.args.by owned)
    ∙ ap (λ (v : MachineState). after_choice v (choice.Ring c.args.line c.args.by)) c.self.view_is

pub returns-clause-journal : goal.returns-clause-journal
returns-clause-journal c =
    let s = c.args.self.now in
    c.note.ensures ∙ ring-noted s.config s.world c.args.line c.args.by c.args.journal.now c.requires.owned
