use Rattle.std.proofs.Common.{◌≡◌, true, subst, sym, ap}
use Rattle.flat_model.specs.Want.{is_owned_line}
use Rattle.irq_owner.proofs.OwnedLemmas.{owned_small}
use Rattle.irq_owner.proofs.irqs.Irqs.ring.Goals as goal

pub with_bit-self-inside-requires : goal.with_bit-self-inside-requires
with_bit-self-inside-requires c =
    owned_small c.self.inside.config.value c.self.invariant.sound c.args.line.0
    (subst (λ cfg. is_owned_line cfg c.args.line.0 ≡ true) (ap (λ view. view.config) (sym c.self.view_is)) c.requires)
