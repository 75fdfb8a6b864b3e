use Rattle.std.proofs.Common.{None, replicate, ap, sym, ◌∙◌, subst}
use Rattle.flat_model.specs.declared.parts.Config.{Config}
use Rattle.machine_core.specs.Parts.{AreParts}
use Rattle.machine_core.proofs.PartLemmas.{opening-parts}
use Rattle.machine_core.proofs.kernel.MachineKernel.opening.Goals as goal

pub invariant_of-result : goal.invariant_of-result
invariant_of-result c =
    let cfg = c.args.cfg.now in
    subst (λ (of : Config). AreParts of cfg.board.heap c.in_ok-banks.banks c.in_ok-heap.heap c.new-irqs.result c.in_ok-saved.saved c.in_ok-registers.registers c.in_ok-calls.calls)
    (sym c.of.ensures)
    (opening-parts cfg c.in_ok-banks.banks c.in_ok-heap.heap c.new-irqs.result c.in_ok-saved.saved c.in_ok-registers.registers c.in_ok-calls.calls c.requires
    c.in_ok-banks.ensures c.in_ok-heap.ensures.opening c.new-irqs.ensures (c.in_ok-saved.ensures ∙ ap (λ n. replicate n None) c.len.ensures)
    c.in_ok-registers.ensures c.in_ok-calls.ensures)
