-- What the state of a machine is at the start, told of its parts by plain names: what a check compares then stays short.
use Rattle.std.proofs.Common.{◌≡◌, List, sym, ap, ◌∙◌, subst}
use Rattle.flat_model.specs.declared.parts.Config.{Config}
use Rattle.flat_model.specs.declared.states.ThreadState.{ThreadState}
use Rattle.flat_model.specs.Kernel.{KernelState}
use Rattle.flat_model.specs.Run.{opening_state}
use Rattle.flat_model.specs.Sound.{IsSound}
use Rattle.flat_model.specs.Trace.{World, opening_world}
use Rattle.flat_model.specs.UnitRun.{opening_unit}
use Rattle.machine_core.specs.Kept.{IsKeptState}
use Rattle.machine_core.specs.State.{MachineState, state_of, world_with}
use Rattle.machine_core.specs.Unit.{ProtectionState}
use Rattle.machine_core.proofs.MachineLemmas.{kept-opening, opening-is}

module _ (cfg : Config) (k : KernelState) (threads : List ThreadState) (unit : ProtectionState)
    (kernel : k ≡ record { config = cfg; shared = (opening_state cfg).shared }) (all : threads ≡ (opening_state cfg).threads)
    (one : unit ≡ record { config = cfg; unit = opening_unit cfg }) where
  config-is : k.config ≡ cfg
  config-is = ap (λ (x : KernelState). x.config) kernel

  world-is : world_with k threads unit.unit ≡ opening_world cfg
  world-is = opening-is cfg k threads unit.unit kernel all (ap (λ (u : ProtectionState). u.unit) one)

  -- the kernel and the unit are of one configuration
  pub opened-same : unit.config ≡ k.config
  opened-same = ap (λ (u : ProtectionState). u.config) one ∙ sym config-is

  kept-here : IsSound cfg → IsKeptState cfg (world_with k threads unit.unit)
  kept-here sound = subst (λ (w : World). IsKeptState cfg w) (sym world-is) (kept-opening cfg sound)

  -- the state is kept
  pub opened-kept : IsSound cfg → IsKeptState k.config (world_with k threads unit.unit)
  opened-kept sound = subst (λ (x : Config). IsKeptState x (world_with k threads unit.unit)) (sym config-is) (kept-here sound)

  config-same : state_of k.config (world_with k threads unit.unit) ≡ state_of cfg (world_with k threads unit.unit)
  config-same = ap (λ (x : Config). state_of x (world_with k threads unit.unit)) config-is

  -- and is the first one
  pub opened-is : state_of k.config (world_with k threads unit.unit) ≡ state_of cfg (opening_world cfg)
  opened-is = config-same ∙ ap (λ (w : World). state_of cfg w) world-is
