-- The one log of a list of choices: what a run of the flat machine and of the unit write.
use Rattle.std.specs.Prelude.{List, [], ◌∷◌, ◌++◌, map}
use Rattle.flat_model.specs.declared.events.Choice.{Choice}
use Rattle.flat_model.specs.declared.events.Entry.{Entry}
use Rattle.flat_model.specs.declared.events.Logged.{Logged}
use Rattle.flat_model.specs.declared.events.Logged.TheVariants as item
use Rattle.flat_model.specs.declared.events.UnitLine.{UnitLine}
use Rattle.flat_model.specs.declared.logs.Log.{Log}
use Rattle.flat_model.specs.declared.parts.Config.{Config}
use Rattle.flat_model.specs.declared.states.Flat.{Flat}
use Rattle.flat_model.specs.Run.{ends_of, opening_state, state_after_all}
use Rattle.flat_model.specs.Script.{script_choices}
use Rattle.flat_model.specs.Step.{reply_to, state_after}
use Rattle.flat_model.specs.UnitRun.{lines_of_run, opening_unit}

-- the entries of choices, from a state on
abbrev pub entries_of_run : Config → Flat → List Choice → List Entry
entries_of_run cfg f [] = []
entries_of_run cfg f (c ∷ cs) =
    record { choice = c; reply = reply_to cfg f c } ∷ entries_of_run cfg (state_after cfg f c) cs

-- each entry behind its unit's lines
abbrev pub woven_items : List (List UnitLine) → List Entry → List Logged
woven_items [] entries = []
woven_items (lines ∷ more) [] = []
woven_items (lines ∷ more) (entry ∷ entries) = map item.Unit lines ++ item.Core entry ∷ woven_items more entries

-- the log of these choices
unfoldable pub log_of_choices : Config → List Choice → Log
log_of_choices cfg cs = record {
  items = woven_items (lines_of_run cfg (opening_state cfg) (opening_unit cfg) cs) (entries_of_run cfg (opening_state cfg) cs);
  ends = ends_of (state_after_all cfg (opening_state cfg) cs);
}

-- the log of a configuration's script
abbrev pub script_log : Config → Log
script_log cfg = log_of_choices cfg (script_choices cfg)
