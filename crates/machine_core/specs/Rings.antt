-- How many rings of a log each device made.
use Rattle.std.specs.Prelude.{ℕ, nat_eq, List, sum_by, if◌then◌else◌}
use Rattle.flat_model.specs.declared.events.Choice.{Choice}
use Rattle.flat_model.specs.declared.events.Choice.TheVariants as choice
use Rattle.flat_model.specs.declared.events.Logged.{Logged}
use Rattle.flat_model.specs.Log.{choices_of}

-- 1 where the choice is a ring by this number, else 0
abbrev pub ring_by : ℕ → Choice → ℕ
ring_by k (choice.Turn t room) = 0
ring_by k (choice.Start t ticket) = 0
ring_by k (choice.Idle t) = 0
ring_by k (choice.Ring line by) = if nat_eq by k then 1 else 0

-- how many rings by this number there are
abbrev pub rings_by : ℕ → List Logged → ℕ
rings_by k items = sum_by (ring_by k) (choices_of items)
