-- What a contract sees of the plain evaluator's state: the configuration that it is of, and the flat machine.
use Rattle.std.specs.Prelude.{List}
use Rattle.flat_model.specs.declared.parts.Config.{Config}
use Rattle.flat_model.specs.declared.states.Flat.{Flat}
use Rattle.flat_model.specs.declared.states.ThreadState.{ThreadState}
use Rattle.flat_model.specs.Kernel.{KernelState}

-- a configuration, and a state of its flat machine
pub record EvaluatorState : Type 0 where
  pub config : Config
  pub flat : Flat

-- the flat machine of a kernel and threads
abbrev pub flat_of : KernelState → List ThreadState → Flat
flat_of k threads = record { shared = k.shared; threads = threads }
