-- What a contract sees of a list of calls with room.
use Rattle.std.specs.Prelude.{ℕ, List}
use Rattle.flat_model.specs.declared.states.Call.{Call}

-- the calls in order, and for how many more there is room
pub record CallTable : Type 0 where
  pub calls : List Call
  pub room : ℕ
