-- Inner: no public contract cites this. The flat machine and the unit side by side, in one equation.
use Rattle.std.specs.Prelude.{List, [], ◌∷◌, ◌++◌, map}
use Rattle.flat_model.specs.declared.events.Choice.{Choice}
use Rattle.flat_model.specs.declared.events.Logged.{Logged}
use Rattle.flat_model.specs.declared.events.Logged.TheVariants as item
use Rattle.flat_model.specs.declared.logs.Log.{Log}
use Rattle.flat_model.specs.declared.parts.Config.{Config}
use Rattle.flat_model.specs.declared.states.Flat.{Flat}
use Rattle.flat_model.specs.Log.{choices_of}
use Rattle.flat_model.specs.Run.{ends_of, opening_state}
use Rattle.flat_model.specs.Step.{reply_to, state_after}
use Rattle.flat_model.specs.UnitRun.{UnitState, opening_unit, unit_after, unit_lines}

-- the flat machine and the unit
pub record World : Type 0 where
  pub flat : Flat
  pub unit : UnitState

-- both at the start
abbrev pub opening_world : Config → World
opening_world cfg = record { flat = opening_state cfg; unit = opening_unit cfg }

-- the items of a choice: the unit's lines, and then the entry
unfoldable pub event_items : Config → World → Choice → List Logged
event_items cfg w c =
    map item.Unit (unit_lines cfg w.flat w.unit c) ++ item.Core (record { choice = c; reply = reply_to cfg w.flat c }) ∷ []

-- both after a choice
unfoldable pub world_after : Config → World → Choice → World
world_after cfg w c = record { flat = state_after cfg w.flat c; unit = unit_after cfg w.flat w.unit c }

-- both after choices
abbrev pub world_after_all : Config → World → List Choice → World
world_after_all cfg w [] = w
world_after_all cfg w (c ∷ cs) = world_after_all cfg (world_after cfg w c) cs

-- the items of choices made one after another
abbrev pub trace_of : Config → World → List Choice → List Logged
trace_of cfg w [] = []
trace_of cfg w (c ∷ cs) = event_items cfg w c ++ trace_of cfg (world_after cfg w c) cs

-- what the log of these items has reached
abbrev pub world_reached : Config → List Logged → World
world_reached cfg items = world_after_all cfg (opening_world cfg) (choices_of items)

-- the log of these choices
abbrev pub log_of : Config → List Choice → Log
log_of cfg cs = record {
  items = trace_of cfg (opening_world cfg) cs;
  ends = ends_of (world_after_all cfg (opening_world cfg) cs).flat;
}
