use Rattle.std.proofs.Common.{sym, subst, List}
use Rattle.flat_model.specs.declared.states.ThreadState.{ThreadState}
use Rattle.flat_model.specs.Evaluator.{flat_of}
use Rattle.flat_model.specs.Kernel.{KernelState}
use Rattle.flat_model.specs.Run.{opening_state}
use Rattle.flat_model.specs.Stepping.{CanGoOn}
use Rattle.flat_model.proofs.GoingOn.{goes-opening}
use Rattle.flat_model.proofs.flat_state.FlatState.opening.Goals as goal

pub invariant_of-result : goal.invariant_of-result
invariant_of-result c =
    subst (λ (k : KernelState). CanGoOn k.config (flat_of k c.in_ok-threads.threads)) (sym c.in_ok-kernel.ensures)
    (subst (λ (threads : List ThreadState). CanGoOn c.args.cfg.now
    (flat_of (record { config = c.args.cfg.now; shared = (opening_state c.args.cfg.now).shared }) threads)) (sym c.in_ok-threads.ensures)
    (goes-opening c.args.cfg.now c.requires))
