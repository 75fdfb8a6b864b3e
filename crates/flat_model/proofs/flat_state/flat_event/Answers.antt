use Rattle.std.proofs.Common.{ap, sym, ◌∙◌}
use Rattle.flat_model.specs.declared.events.Reply.TheVariants as reply
use Rattle.flat_model.specs.Evaluator.{flat_of}
use Rattle.flat_model.specs.Kernel.{KernelState}
use Rattle.flat_model.specs.Step.{fitting_step}
use Rattle.flat_model.proofs.StepCases.{step-fits, step-unfit}
use Rattle.flat_model.proofs.flat_state.flat_event.Goals as goal

pub returns-then-not-fits-clause-exact : goal.returns-then-not-fits-clause-exact
returns-then-not-fits-clause-exact c =
    step-unfit c.args.cfg.now (flat_of c.args.kernel.now c.args.threads.now) c.args.choice (sym c.fits.ensures ∙ c.if-not-fits.true)

pub returns-in-Turn-clause-exact : goal.returns-in-Turn-clause-exact
returns-in-Turn-clause-exact c =
    step-fits c.args.cfg.now (flat_of c.args.kernel.now c.args.threads.now) c.args.choice (sym c.fits.ensures ∙ c.if-not-fits.false)
    ∙ ap (fitting_step c.args.cfg.now (flat_of c.args.kernel.now c.args.threads.now)) c.in-Turn.is
    ∙ c.turn_at.ensures.exact

pub returns-in-Start-clause-exact : goal.returns-in-Start-clause-exact
returns-in-Start-clause-exact c =
    step-fits c.args.cfg.now (flat_of c.args.kernel.now c.args.threads.now) c.args.choice (sym c.fits.ensures ∙ c.if-not-fits.false)
    ∙ ap (fitting_step c.args.cfg.now (flat_of c.args.kernel.now c.args.threads.now)) c.in-Start.is
    ∙ c.serve_at.ensures.exact

pub returns-in-Idle-clause-exact : goal.returns-in-Idle-clause-exact
returns-in-Idle-clause-exact c =
    step-fits c.args.cfg.now (flat_of c.args.kernel.now c.args.threads.now) c.args.choice (sym c.fits.ensures ∙ c.if-not-fits.false)
    ∙ ap (fitting_step c.args.cfg.now (flat_of c.args.kernel.now c.args.threads.now)) c.in-Idle.is
    ∙ c.serve_at-in-Idle.ensures.exact

pub returns-in-Ring-clause-exact : goal.returns-in-Ring-clause-exact
returns-in-Ring-clause-exact c =
    step-fits c.args.cfg.now (flat_of c.args.kernel.now c.args.threads.now) c.args.choice (sym c.fits.ensures ∙ c.if-not-fits.false)
    ∙ ap (fitting_step c.args.cfg.now (flat_of c.args.kernel.now c.args.threads.now)) c.in-Ring.is
    ∙ ap (λ (k : KernelState). (flat_of k c.args.threads.now, reply.Done)) (sym c.latch.ensures)
