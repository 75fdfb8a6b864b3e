-- What a contract sees of a journal: its items, and for how many more there is room.
use Rattle.std.specs.Prelude.{ℕ, ◌-◌, List, ◌++◌, length}
use Rattle.flat_model.specs.declared.events.Logged.{Logged}

-- the items, and the room for more
pub record JournalState : Type 0 where
  pub items : List Logged
  pub room : ℕ

-- the journal after more items
abbrev pub noted : JournalState → List Logged → JournalState
noted j more = record { items = j.items ++ more; room = j.room - length more }
