-- What the words of a script stand for, in the state reached.
use Rattle.std.specs.Prelude.{true, nat_lt, Option, Some, None, List, [], ◌∷◌}
use Rattle.addr_base.specs.declared.identity.ThreadId.{ThreadId}
use Rattle.flat_model.specs.declared.events.Choice.{Choice}
use Rattle.flat_model.specs.declared.events.Choice.TheVariants as choice
use Rattle.flat_model.specs.declared.events.Want.{Want}
use Rattle.flat_model.specs.declared.events.Want.TheVariants as want
use Rattle.flat_model.specs.declared.parts.Config.{Config}
use Rattle.flat_model.specs.declared.parts.ScriptWord.{ScriptWord}
use Rattle.flat_model.specs.declared.parts.ScriptWord.TheVariants as word
use Rattle.flat_model.specs.declared.states.Call.{Call}
use Rattle.flat_model.specs.declared.states.Flat.{Flat}
use Rattle.flat_model.specs.CallRows.{home_of}
use Rattle.flat_model.specs.Calls.{oldest_posted, posted_count}
use Rattle.flat_model.specs.Run.{opening_state}
use Rattle.flat_model.specs.Step.{state_after}
use Rattle.flat_model.specs.Want.{inbox_slots, want_of}

-- the start of this call by a server, or an idle look where there is none
abbrev pub start_or_idle : ThreadId → Option Call → Choice
start_or_idle t None = choice.Idle t
start_or_idle t (Some call) = choice.Start t call.ticket

-- the event of a thread that wants this
abbrev pub choice_by_want : Config → Flat → ThreadId → Want → Choice
choice_by_want cfg f t want.Plain = choice.Turn t true
choice_by_want cfg f t (want.Room b) = choice.Turn t (nat_lt (posted_count b.0 f.shared.calls) (inbox_slots cfg))
choice_by_want cfg f t want.Next = start_or_idle t (oldest_posted (home_of cfg t.0).0 f.shared.calls)

-- the event that a thread's word stands for
abbrev pub choice_of_thread : Config → Flat → ThreadId → Choice
choice_of_thread cfg f t = choice_by_want cfg f t (want_of cfg f t.0)

-- the event that a word stands for
unfoldable pub choice_of_word : Config → Flat → ScriptWord → Choice
choice_of_word cfg f (word.Thread t) = choice_of_thread cfg f t
choice_of_word cfg f (word.Ring line) = choice.Ring line 0

-- the events of words, from a state on
abbrev pub choices_from : Config → Flat → List ScriptWord → List Choice
choices_from cfg f [] = []
choices_from cfg f (w ∷ ws) =
    choice_of_word cfg f w ∷ choices_from cfg (state_after cfg f (choice_of_word cfg f w)) ws

-- the choices of a configuration's script
abbrev pub script_choices : Config → List Choice
script_choices cfg = choices_from cfg (opening_state cfg) cfg.script
