use Rattle.std.proofs.Common.{◌<◌, length, sym, ap, subst, ◌∙◌}
use Rattle.flat_model.specs.Interrupts.{has_line, is_set}
use Rattle.irq_owner.specs.Irqs.{irqs_of}
use Rattle.irq_owner.proofs.HandlingLemmas.{is_set-take}
use Rattle.irq_owner.proofs.LineLemmas.{next_irq-flat}
use Rattle.irq_owner.proofs.NextLemmas.{NextIs, mapped, next_is}
use Rattle.irq_owner.proofs.irqs.Irqs.next_for.Goals as goal

next : (c : goal.After-map) → NextIs c.args.self.now c.args.b.0 c.map.result
next c =
    let inside = c.self.inside in
    let b = c.args.b.0 in
    let view_is = sym c.self.view_is in
    let below : b < length inside.config.value.boxes = subst (λ view. b < length view.config.boxes) view_is c.requires in
    next_is c.args.self.now b _ inside.latched inside.enabled
    (ap (λ view. view.latched) view_is) (ap (λ view. view.enabled) view_is)
    (ap (λ view. is_set view.handling b) view_is ∙ is_set-take (length inside.config.value.boxes) inside.handling b below ∙ c.if-self-b.false)
    (λ k. c.self.invariant.lines b k below ∙ ap (λ view. has_line k (irqs_of view.config b)) c.self.view_is)
    c.lowest.result c.lowest.ensures c.map.result (mapped c.lowest.result c.map.result c.map.ensures.cases)

pub returns-clause-exact : goal.returns-clause-exact
returns-clause-exact c = (next c).exact

pub returns-clause-part : goal.returns-clause-part
returns-clause-part c = (next c).part

pub returns-clause-flat : goal.returns-clause-flat
returns-clause-flat c lines are = next_irq-flat c.args.self.now lines c.args.b.0 are
