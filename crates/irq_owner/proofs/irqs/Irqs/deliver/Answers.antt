use Rattle.std.proofs.Common.{true, false, length, take, ap, ◌∙◌}
use Rattle.std.specs.List.{slice_set}
use Rattle.irq_owner.specs.Bits.{flags}
use Rattle.irq_owner.specs.Irqs.{after_delivery}
use Rattle.irq_owner.proofs.HandlingLemmas.{take-changed}
use Rattle.irq_owner.proofs.irqs.Irqs.deliver.Goals as goal

pub returns-clause-exact : goal.returns-clause-exact
returns-clause-exact c =
    let inside = c.self.inside in
    let cfg = inside.config.value in
    let line = c.unwrap-line.result.0 in
    ap (λ bits. record { config = cfg; latched = bits; enabled = flags inside.enabled; handling = take (length cfg.boxes) (slice_set inside.handling c.args.b.0 true) })
    c.without_bit-self-inside.ensures
    ∙ ap (λ handling. record { config = cfg; latched = slice_set (flags inside.latched) line false; enabled = flags inside.enabled; handling = handling })
    (take-changed (length cfg.boxes) inside.handling c.args.b.0 true)
    ∙ ap (λ view. after_delivery view line c.args.b.0) c.self.view_is
