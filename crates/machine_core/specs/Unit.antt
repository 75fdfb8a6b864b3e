-- What a contract sees of a protection unit: the configuration that it is of, and its state in the unit's run.
use Rattle.flat_model.specs.declared.parts.Config.{Config}
use Rattle.flat_model.specs.UnitRun.{UnitState}

-- a configuration, and the state of its unit
pub record ProtectionState : Type 0 where
  pub config : Config
  pub unit : UnitState
