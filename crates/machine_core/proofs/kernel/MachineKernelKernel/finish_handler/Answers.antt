use Rattle.std.proofs.Common.{◌≡◌, None, false, true, length, ap, sym, ◌∙◌, map, List, Option}
use Rattle.std.specs.List.{slice_get, slice_set}
use Rattle.std.specs.Prelude.{is_some, unwrap_or}
use Rattle.std.proofs.lemmas.List.{length-set}
use Rattle.flat_model.specs.declared.states.Context.{Context}
use Rattle.flat_model.specs.Interrupts.{is_set}
use Rattle.irq_owner.specs.Irqs.{IrqsView}
use Rattle.machine_core.proofs.PartLemmas.{handling-is, map-set, when-ok}
use Rattle.machine_core.proofs.kernel.MachineKernelKernel.finish_handler.Goals as goal

pub invariant_of-self : goal.invariant_of-self
invariant_of-self c =
    let parts = c.self.invariant in
    let saved = c.put.ensures in
    let in_handler : is_set c.self.inside.irqs.handling c.args.b.0 ≡ true =
    sym (ap (λ hs. is_set hs c.args.b.0) parts.handling) ∙ handling-is c.self.inside.saved c.args.b.0
    ∙ sym (ap is_some (c.saved_at-context.ensures ∙ ap (λ (xs : List (Option Context)). unwrap_or (slice_get xs c.args.b.0) None) c.as_slice.ensures))
    ∙ sym c.is_some.ensures ∙ c.if-is_some.true in
    let exact = when-ok c.finish.result (c.finish.ensures.cause ∙ in_handler) c.finish.ensures.ok in
    record {
      sound = parts.sound;
      pages = parts.pages;
      board = parts.board;
      heap_of = parts.heap_of;
      irqs_of = ap (λ (i : IrqsView). i.config) exact ∙ parts.irqs_of;
      boxes = ap (λ (xs : List (Option Context)). length xs) saved ∙ length-set c.self.inside.saved c.args.b.0 None ∙ parts.boxes;
      handling = ap (map is_some) saved
          ∙ map-set c.self.inside.saved c.args.b.0 None
          ∙ ap (λ hs. slice_set hs c.args.b.0 false) parts.handling
          ∙ sym (ap (λ (i : IrqsView). i.handling) exact);
      registers_of = parts.registers_of;
      calls_of = parts.calls_of;
      room = parts.room;
    }
