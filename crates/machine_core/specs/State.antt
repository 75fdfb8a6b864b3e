-- What a contract sees of a machine's state: the configuration that it is of, the flat machine, and the unit.
use Rattle.std.specs.Prelude.{◌≡◌, ℕ, ◌<◌, Bool, true, false, Some, List, length, if◌then◌else◌, slice_get}
use Rattle.std.specs.Option.{ForSome, option_map_or}
use Rattle.flat_model.specs.declared.actors.Who.{Who}
use Rattle.flat_model.specs.declared.events.Choice.{Choice}
use Rattle.flat_model.specs.declared.parts.BoxPart.{BoxPart}
use Rattle.flat_model.specs.declared.parts.Config.{Config}
use Rattle.flat_model.specs.declared.parts.ThreadPart.{ThreadPart}
use Rattle.flat_model.specs.declared.states.ThreadState.{ThreadState}
use Rattle.flat_model.specs.Kernel.{KernelState}
use Rattle.flat_model.specs.Thread.{has_ended}
use Rattle.flat_model.specs.Trace.{World, world_after}
use Rattle.flat_model.specs.UnitRun.{UnitState}

-- a configuration, and its flat machine and unit
pub record MachineState : Type 0 where
  pub config : Config
  pub world : World

-- the flat machine and the unit of a kernel, threads and a unit
abbrev pub world_with : KernelState → List ThreadState → UnitState → World
world_with k threads unit = record { flat = record { shared = k.shared; threads = threads }; unit = unit }

-- the state of a configuration with this world
abbrev pub state_of : Config → World → MachineState
state_of cfg w = record { config = cfg; world = w }

-- the state after a choice
abbrev pub after_choice : MachineState → Choice → MachineState
after_choice s c = record s { world = world_after s.config s.world c }

-- whether the thread with this number can run no more
abbrev pub ended_in : World → ℕ → Bool
ended_in w t = option_map_or has_ended (slice_get w.flat.threads t) true

-- how many items an event of the thread with this number has at most
abbrev pub event_room : World → ℕ → ℕ
event_room w t = if ended_in w t then 1 else 4

-- this thread acts, with room for a call: it is there, in this box and with this program, and has not ended
pub record IsActing (s : MachineState) (who : Who) (part : BoxPart) (program : ThreadPart) : Type 0 where
  pub program_is : slice_get s.config.threads who.thread.0 ≡ Some program
  pub part_is : slice_get s.config.boxes program.home.0 ≡ Some part
  pub who_is : who ≡ record { home = program.home; thread = who.thread; room = true }
  pub thread_is : who.thread.0 < length s.world.flat.threads
  pub live : ForSome (slice_get s.world.flat.threads who.thread.0) (λ thread. has_ended thread ≡ false)
