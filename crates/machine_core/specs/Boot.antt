-- Inner: no public contract cites this. What a machine at its start has.
use Rattle.std.specs.Prelude.{◌≡◌, ℕ, List, [], length, replicate}
use Rattle.flat_model.specs.declared.events.Drive.{Drive}
use Rattle.flat_model.specs.declared.logs.End.{End}
use Rattle.flat_model.specs.declared.parts.Config.{Config}
use Rattle.flat_model.specs.Trace.{opening_world}
use Rattle.machine_core.specs.Journal.{JournalState}
use Rattle.machine_core.specs.Kept.{HasEnds}
use Rattle.machine_core.specs.State.{MachineState, state_of}
use Rattle.machine_core.specs.View.{boot_room}

-- besides its configuration: the first state, an empty journal with room for all that may come, no rings, and room for the ends
pub record IsOpening (cfg : Config) (drive : Drive) (extra : ℕ) (state : MachineState) (journal : JournalState) (rings : List ℕ)
    (ends : List End) (capacity : ℕ) : Type 0 where
  pub state_is : state ≡ state_of cfg (opening_world cfg)
  pub journal_is : journal ≡ record { items = []; room = boot_room cfg drive extra }
  pub rings_are : rings ≡ replicate (length cfg.devices) 0
  pub has_ends : HasEnds cfg ends capacity
