-- What a machine is that has done nothing yet.
use Rattle.std.proofs.Common.{◌≡◌, ℕ, ◌+◌, ◌*◌, ◌≤◌, List, [], ◌∙◌, ap, arith, length, refl, replicate, sum_by}
use Rattle.flat_model.specs.declared.events.Drive.{Drive}
use Rattle.flat_model.specs.declared.parts.Config.{Config}
use Rattle.flat_model.specs.declared.parts.ThreadPart.{ThreadPart}
use Rattle.flat_model.specs.Sound.{IsSound}
use Rattle.flat_model.specs.Trace.{opening_world}
use Rattle.machine_core.specs.Journal.{JournalState}
use Rattle.machine_core.specs.Kept.{CountsRings, IsKept, events_left}
use Rattle.machine_core.specs.State.{MachineState, state_of}
use Rattle.machine_core.specs.View.{MachineView, boot_room, booted, events_beside}
use Rattle.machine_core.proofs.MachineLemmas.{counts-opening, kept-boot, left-opening}

-- the room is enough
enough : (sum told left room : ℕ) → room ≡ 4 * sum + told → left ≡ told → 4 * sum + left ≤ room
enough sum told left room most same = omega arith

-- what a contract sees of a machine with this journal
abbrev seen : Config → Drive → ℕ → JournalState → MachineView
seen cfg drive extra j = record { config = cfg; drive = drive; extra = extra; items = j.items; room = j.room }

abbrev empty : ℕ → JournalState
empty n = record { items = []; room = n }

-- an empty journal with so much room
pub journal-opened : (cfg : Config) (drive : Drive) (extra room : ℕ) (j : JournalState) → room ≡ boot_room cfg drive extra →
    j ≡ record { items = []; room = room } → j ≡ record { items = []; room = boot_room cfg drive extra }
journal-opened cfg drive extra room j most journal = journal ∙ ap empty most

pub same-booted : (cfg : Config) (s : MachineState) → s ≡ state_of cfg (opening_world cfg) → s.config ≡ cfg
same-booted cfg s state = ap (λ (x : MachineState). x.config) state

module _ (cfg : Config) (drive : Drive) (extra : ℕ) (j : JournalState) (journal : j ≡ record { items = []; room = boot_room cfg drive extra }) where
  pub seen-booted : record { config = cfg; drive = drive; extra = extra; items = j.items; room = j.room } ≡ booted cfg drive extra
  seen-booted = ap (seen cfg drive extra) journal

  module _ (rings : List ℕ) (none : rings ≡ replicate (length cfg.devices) 0) where
    pub counts-booted : CountsRings cfg drive j.items rings
    counts-booted = counts-opening cfg drive j.items rings (ap (λ (x : JournalState). x.items) journal) none

    pub kept-booted : (s : MachineState) → IsSound cfg → s ≡ state_of cfg (opening_world cfg) → IsKept cfg (events_left drive extra rings) j s.world
    kept-booted s sound state =
        kept-boot cfg (events_left drive extra rings) j s (boot_room cfg drive extra) sound state journal
        (enough (sum_by (λ (thread : ThreadPart). thread.steps) cfg.threads) (events_beside cfg drive extra) (events_left drive extra rings)
        (boot_room cfg drive extra) refl (left-opening cfg drive extra rings none))
