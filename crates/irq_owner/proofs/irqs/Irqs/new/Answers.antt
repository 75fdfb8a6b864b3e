use Rattle.std.proofs.Common.{◌≤◌, false, length, replicate, take, subst, sym, ap, ◌∙◌}
use Rattle.irq_owner.specs.Irqs.{opening_irqs}
use Rattle.irq_owner.proofs.BitLemmas.{flags-zero}
use Rattle.irq_owner.proofs.HandlingLemmas.{take-replicate}
use Rattle.irq_owner.proofs.irqs.Irqs.new.Goals as goal

pub returns : goal.returns
returns c =
    let cfg = c.of.result.value in
    let few : length cfg.boxes ≤ 8 = subst (λ other. length other.boxes ≤ 8) (sym c.of.ensures) c.requires.limits.boxes in
    ap (λ bits. record { config = cfg; latched = bits; enabled = bits; handling = take (length cfg.boxes) (replicate 8 false) }) flags-zero
    ∙ ap (λ flags. record { config = cfg; latched = replicate 64 false; enabled = replicate 64 false; handling = flags })
    (take-replicate (length cfg.boxes) 8 false few)
    ∙ ap opening_irqs c.of.ensures
