-- What a contract sees of a machine: its configuration, its drive, how many extra events may come, its log, and for how
-- many more items there is room.
use Rattle.std.specs.Prelude.{ℕ, ◌+◌, ◌-◌, ◌*◌, List, [], ◌++◌, length, sum_by, if◌then◌else◌}
use Rattle.addr_base.specs.declared.identity.Line.{Line}
use Rattle.addr_base.specs.declared.identity.ThreadId.{ThreadId}
use Rattle.flat_model.specs.declared.events.Choice.{Choice}
use Rattle.flat_model.specs.declared.events.Choice.TheVariants as choice
use Rattle.flat_model.specs.declared.events.Drive.{Drive}
use Rattle.flat_model.specs.declared.events.Drive.TheVariants.{Script, Threads}
use Rattle.flat_model.specs.declared.events.Logged.{Logged}
use Rattle.flat_model.specs.declared.parts.Config.{Config}
use Rattle.flat_model.specs.Script.{choice_of_thread}
use Rattle.flat_model.specs.Trace.{World, event_items, world_reached}
use Rattle.machine_core.specs.State.{ended_in}

-- a machine: with the script's drive `extra` counts the rings and turns of ended threads that may still come
pub record MachineView : Type 0 where
  pub config : Config
  pub drive : Drive
  pub extra : ℕ
  pub items : List Logged
  pub room : ℕ

-- how many events may come that are not steps of threads
abbrev pub events_beside : Config → Drive → ℕ → ℕ
events_beside cfg Script extra = extra
events_beside cfg Threads extra = extra * length cfg.devices

-- the room of a machine at its start: four items a step, and one for each other event
abbrev pub boot_room : Config → Drive → ℕ → ℕ
boot_room cfg drive extra = 4 * sum_by (λ thread. thread.steps) cfg.threads + events_beside cfg drive extra

-- a machine that has done nothing yet
abbrev pub booted : Config → Drive → ℕ → MachineView
booted config drive extra =
    record { config = config; drive = drive; extra = extra; items = []; room = boot_room config drive extra }

-- what the machine's log has reached
abbrev pub world_of : MachineView → World
world_of v = world_reached v.config v.items

-- the items of the event of a choice
abbrev pub items_of : MachineView → Choice → List Logged
items_of v c = event_items v.config (world_of v) c

-- the machine's log with the event of a choice
abbrev pub with_event : MachineView → Choice → List Logged
with_event v c = v.items ++ items_of v c

-- the machine after the event of a choice, for which there was room
abbrev pub after_event : MachineView → Choice → MachineView
after_event v c = record v { items = with_event v c; room = v.room - length (items_of v c) }

-- the machine after the event that a thread's word of the script stands for
abbrev pub stepped : MachineView → ThreadId → MachineView
stepped v t =
    record (after_event v (choice_of_thread v.config (world_of v).flat t)) {
      extra = if ended_in (world_of v) t.0 then v.extra - 1 else v.extra;
    }

-- the machine after a ring of a line
abbrev pub rung : MachineView → Line → MachineView
rung v line = record (after_event v (choice.Ring line 0)) { extra = v.extra - 1 }
