use Rattle.std.proofs.Common.{◌≡◌, ap, sym, ◌∙◌, subst}
use Rattle.flat_model.specs.declared.events.Reply.{Reply}
use Rattle.flat_model.specs.declared.parts.Config.{Config}
use Rattle.flat_model.specs.declared.states.Flat.{Flat}
use Rattle.flat_model.specs.Evaluator.{EvaluatorState, flat_of}
use Rattle.flat_model.specs.Stepping.{CanGoOn}
use Rattle.flat_model.proofs.GoingOn.{goes-step}
use Rattle.flat_model.proofs.flat_state.flat_step.Goals as goal

pub invariant_of-state : goal.invariant_of-state
invariant_of-state c =
    let before = flat_of c.state.inside.kernel c.state.inside.threads in
    let after = flat_of c.flat_event.new.kernel c.flat_event.new.threads in
    let same : c.state.inside.kernel.config ≡ c.args.cfg.now =
    ap (λ (s : EvaluatorState). s.config) c.state.view_is ∙ c.requires.of in
    let goes = goes-step c.args.cfg.now before c.args.choice.now (subst (λ (cfg : Config). CanGoOn cfg before) same c.state.invariant) in
    subst (λ (cfg : Config). CanGoOn cfg after) (sym (c.flat_event.ensures.config ∙ same))
    (subst (λ (p : Flat × Reply). CanGoOn c.args.cfg.now p.0) c.flat_event.ensures.exact goes)
