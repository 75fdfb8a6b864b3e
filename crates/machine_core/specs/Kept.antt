-- Inner: no public contract cites this. What a machine keeps of its state and of its journal.
use Rattle.std.specs.Prelude.{◌≡◌, ℕ, ◌+◌, ◌-◌, ◌*◌, ◌<◌, ◌≤◌, true, Some, List, [], length, sum_by, slice_get}
use Rattle.std.specs.List.{AllByRecursion}
use Rattle.flat_model.specs.declared.events.Choice.{Choice}
use Rattle.flat_model.specs.declared.events.Drive.{Drive}
use Rattle.flat_model.specs.declared.events.Drive.TheVariants.{Script, Threads}
use Rattle.flat_model.specs.declared.events.Logged.{Logged}
use Rattle.flat_model.specs.declared.logs.End.{End}
use Rattle.flat_model.specs.declared.parts.Config.{Config}
use Rattle.flat_model.specs.declared.states.Call.{Call}
use Rattle.flat_model.specs.Legal.{all_fit}
use Rattle.flat_model.specs.Log.{choices_of}
use Rattle.flat_model.specs.Run.{opening_state}
use Rattle.flat_model.specs.Sound.{IsSound}
use Rattle.flat_model.specs.Stepping.{CanGoOn}
use Rattle.flat_model.specs.StepsLeft.{steps_left}
use Rattle.flat_model.specs.Trace.{World, opening_world, trace_of, world_after_all, world_reached}
use Rattle.machine_core.specs.Journal.{JournalState}
use Rattle.machine_core.specs.Rings.{rings_by}

-- the world is one that these choices reach
pub record IsReached (cfg : Config) (w : World) : Type 0 where
  pub choices : List Choice
  pub reached : w ≡ world_after_all cfg (opening_world cfg) choices

-- each call is of a thread of the configuration
abbrev pub HasCallers : Config → List Call → Type 0
HasCallers cfg calls = AllByRecursion (λ call. call.ticket.thread.0 < length cfg.threads) calls

-- the state is one that choices reach; each thread that may still run has steps left, its calls are counted, and there
-- is room for those that may come
pub record IsKeptState (cfg : Config) (w : World) : Type 0 where
  pub sound : IsSound cfg
  pub reached : IsReached cfg w
  pub going : CanGoOn cfg w.flat
  pub callers : HasCallers cfg w.flat.shared.calls
  pub numbered : length w.flat.threads ≡ length cfg.threads

-- how many rings may still come of devices that made so many each
abbrev pub rings_left : ℕ → List ℕ → ℕ
rings_left extra rings = sum_by (λ made. extra - made) rings

-- how many events may still come that are not steps of threads
abbrev pub events_left : Drive → ℕ → List ℕ → ℕ
events_left Script extra rings = extra
events_left Threads extra rings = rings_left extra rings

-- with running threads the rings of each device are counted
pub record CountsRings (cfg : Config) (drive : Drive) (items : List Logged) (rings : List ℕ) : Type 0 where
  pub devices : length rings ≡ length cfg.devices
  pub counted : drive ≡ Threads → (k made : ℕ) → slice_get rings k ≡ Some made → made ≡ rings_by k items

-- the items are those of the world that they reached, and there is room for all that may come
pub record IsKept (cfg : Config) (beside : ℕ) (journal : JournalState) (w : World) : Type 0 where
  pub state : IsKeptState cfg w
  pub traced : journal.items ≡ trace_of cfg (opening_world cfg) (choices_of journal.items)
  pub world : w ≡ world_reached cfg journal.items
  pub fitting : all_fit cfg (opening_state cfg) (choices_of journal.items) ≡ true
  pub room : 4 * steps_left cfg.threads w.flat.threads + beside ≤ journal.room

-- there is room for the end of each thread, and none is written yet
pub record HasEnds (cfg : Config) (ends : List End) (capacity : ℕ) : Type 0 where
  pub none : ends ≡ []
  pub room : length cfg.threads ≤ capacity
