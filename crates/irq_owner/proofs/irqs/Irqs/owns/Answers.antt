use Rattle.std.proofs.Common.{◌∙◌, ap, sym}
use Rattle.std.proofs.lemmas.Bool.{le-ltb}
use Rattle.flat_model.specs.Interrupts.{has_line}
use Rattle.irq_owner.specs.Irqs.{irqs_of}
use Rattle.irq_owner.proofs.OwnedLemmas.{has_line-past}
use Rattle.irq_owner.proofs.irqs.Irqs.owns.Goals as goal

pub returns-else-line-lt64-clause-exact : goal.returns-else-line-lt64-clause-exact
returns-else-line-lt64-clause-exact c =
    le-ltb c.args.line 64 c.if-line-lt64.false
    ∙ sym (ap (λ view. has_line c.args.line (irqs_of view.config c.args.b.0)) (sym c.self.view_is)
    ∙ has_line-past c.self.inside.config.value c.self.invariant.sound c.args.b.0 c.args.line c.if-line-lt64.false)
