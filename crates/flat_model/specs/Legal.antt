-- The legal log: a run of the flat machine, a run of the protection unit, and both say the same.
use Rattle.std.specs.Prelude.{◌≡◌, Bool, true, false, ◌&&◌, not, List, [], ◌∷◌, map, if◌then◌else◌}
use Rattle.std.specs.List.{list_all}
use Rattle.flat_model.specs.declared.events.Choice.{Choice}
use Rattle.flat_model.specs.declared.events.Reply.{Reply}
use Rattle.flat_model.specs.declared.events.Reply.TheVariants as reply
use Rattle.flat_model.specs.declared.events.UnitLine.{UnitLine}
use Rattle.flat_model.specs.declared.events.UnitLine.TheVariants as line
use Rattle.flat_model.specs.declared.logs.Log.{Log}
use Rattle.flat_model.specs.declared.parts.Config.{Config}
use Rattle.flat_model.specs.declared.states.Flat.{Flat}
use Rattle.flat_model.specs.Decision.{is_granted}
use Rattle.flat_model.specs.Log.{Event, choices_of, ends_with_entry, events_of, replies_of}
use Rattle.flat_model.specs.Run.{ends_of, opening_state, replies_to_all, state_after_all}
use Rattle.flat_model.specs.Step.{state_after}
use Rattle.flat_model.specs.UnitRun.{lines_of_run, opening_unit}
use Rattle.flat_model.specs.Want.{fits}

-- whether each choice fits the state reached, from a state on
abbrev pub all_fit : Config → Flat → List Choice → Bool
all_fit cfg f [] = true
all_fit cfg f (c ∷ cs) = fits cfg f c && all_fit cfg (state_after cfg f c) cs

-- whether the reply is a fault
abbrev pub is_fault : Reply → Bool
is_fault (reply.Fault why at) = true
is_fault _ = false

-- whether a line that is an access is granted exactly where the reply is no fault
abbrev pub agrees_with : Reply → UnitLine → Bool
agrees_with r (line.Access kind size at verdict) =
    if is_fault r then not (is_granted verdict) else is_granted verdict
agrees_with r _ = true

-- whether the accesses of an event are granted exactly where its reply is no fault
abbrev pub is_agreed : Event → Bool
is_agreed event = list_all (agrees_with event.entry.reply) event.lines

-- without the unit's lines the log is a run of the flat machine
pub record IsFlatRun (cfg : Config) (log : Log) : Type 0 where
  pub fitting : all_fit cfg (opening_state cfg) (choices_of log.items) ≡ true
  pub replies : replies_of log.items ≡ replies_to_all cfg (opening_state cfg) (choices_of log.items)
  pub ends : log.ends ≡ ends_of (state_after_all cfg (opening_state cfg) (choices_of log.items))

-- with the unit's lines the log is a run of the protection unit
pub record IsUnitRun (cfg : Config) (log : Log) : Type 0 where
  pub lines : map (λ event. event.lines) (events_of log.items)
      ≡ lines_of_run cfg (opening_state cfg) (opening_unit cfg) (choices_of log.items)
  pub closed : ends_with_entry log.items ≡ true

-- the unit grants an access exactly where the flat machine does not answer a fault
abbrev pub IsAgreed : Log → Type 0
IsAgreed log = list_all is_agreed (events_of log.items) ≡ true

-- the legal log
pub record IsLegal (cfg : Config) (log : Log) : Type 0 where
  pub flat : IsFlatRun cfg log
  pub unit : IsUnitRun cfg log
  pub agree : IsAgreed log
