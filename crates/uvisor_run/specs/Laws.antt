-- What the laws say of logs.
use Rattle.std.specs.Prelude.{Bool, true, false, ◌&&◌, not, Option, Some, None, List, [], ◌∷◌, if◌then◌else◌}
use Rattle.std.specs.List.{list_all}
use Rattle.flat_model.specs.declared.events.UnitLine.{UnitLine}
use Rattle.flat_model.specs.declared.events.UnitLine.TheVariants as line
use Rattle.flat_model.specs.declared.parts.Config.{Config}
use Rattle.flat_model.specs.declared.states.Flat.{Flat}
use Rattle.flat_model.specs.Access.{holds}
use Rattle.flat_model.specs.Actors.{Actor}
use Rattle.flat_model.specs.Decision.{is_granted}
use Rattle.flat_model.specs.Log.{Event}
use Rattle.flat_model.specs.Step.{state_after}
use Rattle.flat_model.specs.UnitRun.{actor_at}

-- whether a line that is an access of this actor is granted exactly where its box holds the bytes in this state
abbrev pub is_granted_as_held : Config → Flat → Option Actor → UnitLine → Bool
is_granted_as_held cfg f (Some a) (line.Access kind size at verdict) =
    if holds cfg f.shared.owners a.program.home.0 at size kind then is_granted verdict else not (is_granted verdict)
is_granted_as_held cfg f None (line.Access kind size at verdict) = false
is_granted_as_held cfg f a _ = true

-- whether the accesses of events are granted exactly where the acting box holds them, from a state on
abbrev pub are_granted_as_held : Config → Flat → List Event → Bool
are_granted_as_held cfg f [] = true
are_granted_as_held cfg f (event ∷ events) =
    list_all (is_granted_as_held cfg f (actor_at cfg f event.entry.choice)) event.lines
    && are_granted_as_held cfg (state_after cfg f event.entry.choice) events
