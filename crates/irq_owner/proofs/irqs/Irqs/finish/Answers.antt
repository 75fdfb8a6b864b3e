use Rattle.std.proofs.Common.{length, ap, ◌∙◌}
use Rattle.irq_owner.specs.Bits.{flags}
use Rattle.irq_owner.specs.Irqs.{after_return}
use Rattle.irq_owner.proofs.HandlingLemmas.{take-changed}
use Rattle.irq_owner.proofs.irqs.Irqs.finish.Goals as goal

pub returns-clause-ok : goal.returns-clause-ok
returns-clause-ok c =
    let inside = c.self.inside in
    ap (λ handling. record { config = inside.config.value; latched = flags inside.latched; enabled = flags inside.enabled; handling = handling })
    (take-changed (length inside.config.value.boxes) inside.handling c.args.b.0 _)
    ∙ ap (λ view. after_return view c.args.b.0) c.self.view_is
