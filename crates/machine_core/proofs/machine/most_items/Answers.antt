use Rattle.std.proofs.Common.{◌≡◌, ℕ, ◌+◌, ◌*◌, ◌≤◌, ap, ◌∙◌, subst, sum_by, sym}
use Rattle.flat_model.specs.declared.parts.ThreadPart.{ThreadPart}
use Rattle.machine_core.proofs.machine.most_items.Goals as goal

pub total_steps-steps-requires : goal.total_steps-steps-requires
total_steps-steps-requires c =
    subst (λ threads. sum_by (λ (thread : ThreadPart). thread.steps) threads ≤ 250000) (sym c.as_slice.ensures) c.requires.steps

pub items_for-requires : goal.items_for-requires
items_for-requires c = record {
  steps = subst (λ n. n ≤ 250000) (sym (c.total_steps-steps.ensures ∙ ap (sum_by (λ (thread : ThreadPart). thread.steps)) c.as_slice.ensures)) c.requires.steps;
  others = c.beside-others.ensures.few;
}

pub returns : goal.returns
returns c =
    c.items_for.ensures
    ∙ ap (λ (n : ℕ). 4 * n + c.beside-others.result) (c.total_steps-steps.ensures ∙ ap (sum_by (λ (thread : ThreadPart). thread.steps)) c.as_slice.ensures)
    ∙ ap (λ (n : ℕ). 4 * sum_by (λ (thread : ThreadPart). thread.steps) c.args.cfg.now.threads + n) c.beside-others.ensures.exact
