use Rattle.std.proofs.Common.{◌≡◌, Some, false, ap, sym, ◌∙◌, length, map, List, Option, true}
use Rattle.std.specs.List.{slice_get, slice_set}
use Rattle.std.specs.Prelude.{is_some}
use Rattle.std.proofs.lemmas.List.{length-set}
use Rattle.addr_base.specs.declared.identity.Line.{Line}
use Rattle.flat_model.specs.declared.parts.Config.{Config}
use Rattle.flat_model.specs.declared.states.Context.{Context}
use Rattle.flat_model.specs.Interrupts.{deliverable_to}
use Rattle.flat_model.specs.Kernel.{KernelState, after_delivery}
use Rattle.irq_owner.specs.Irqs.{IrqsView}
use Rattle.machine_core.proofs.PartLemmas.{kernel_with, line-is, map-set}
use Rattle.machine_core.proofs.kernel.MachineKernelKernel.deliver.Goals as goal

pub invariant_of-self : goal.invariant_of-self
invariant_of-self c =
    let parts = c.self.invariant in
    let saved = c.put.ensures in
    record {
      sound = parts.sound;
      pages = parts.pages;
      board = parts.board;
      heap_of = parts.heap_of;
      irqs_of = ap (λ (i : IrqsView). i.config) c.deliver.ensures.exact ∙ parts.irqs_of;
      boxes = ap (λ (xs : List (Option Context)). length xs) saved ∙ length-set c.self.inside.saved c.args.b.0 (Some c.args.context) ∙ parts.boxes;
      handling = ap (map is_some) saved
          ∙ map-set c.self.inside.saved c.args.b.0 (Some c.args.context)
          ∙ ap (λ hs. slice_set hs c.args.b.0 true) parts.handling
          ∙ sym (ap (λ (i : IrqsView). i.handling) c.deliver.ensures.exact);
      registers_of = parts.registers_of;
      calls_of = parts.calls_of;
      room = parts.room;
    }

pub returns : goal.returns
returns c =
    let m = c.self.inside in
    let b = c.args.b.0 in
    let found : slice_get m.irqs.config.boxes b ≡ Some c.args._part.now =
    ap (λ (cfg : Config). slice_get cfg.boxes b) c.self.invariant.irqs_of ∙ ap (λ (k : KernelState). slice_get k.config.boxes b) c.self.view_is ∙ c.requires.part in
    let due = ap (λ (k : KernelState). deliverable_to k.shared.lines c.args._part.now.irqs b) c.self.view_is ∙ c.requires.due in
    let line = line-is m.irqs m.saved b c.args._part.now c.args._irq c.deliver.result c.self.invariant.handling found due c.deliver.ensures.line in
    ap (λ (i : IrqsView). kernel_with m.config.value m.banks.memory m.heap.owners (record { latched = i.latched; enabled = i.enabled; saved = c.put.new.self }) m.calls) c.deliver.ensures.exact
    ∙ ap (λ saved. kernel_with m.config.value m.banks.memory m.heap.owners
    (record { latched = slice_set m.irqs.latched c.deliver.result.0 false; enabled = m.irqs.enabled; saved = saved }) m.calls) c.put.ensures
    ∙ ap (λ (l : Line). kernel_with m.config.value m.banks.memory m.heap.owners
    (record { latched = slice_set m.irqs.latched l.0 false; enabled = m.irqs.enabled; saved = slice_set m.saved b (Some c.args.context) }) m.calls) line
    ∙ ap (λ (k : KernelState). after_delivery k b c.args._irq.line.0 c.args.context) c.self.view_is
