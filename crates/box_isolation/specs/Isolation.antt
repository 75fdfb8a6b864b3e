-- Isolation: every answer that a box gets is a function of its own part and of what reached it.
use Rattle.std.specs.Prelude.{◌≡◌, ℕ, Bool, false, Option, Some, None, List, if◌then◌else◌, slice_get, filter_map}
use Rattle.flat_model.specs.declared.events.Choice.{Choice}
use Rattle.flat_model.specs.declared.events.Choice.TheVariants as choice
use Rattle.flat_model.specs.declared.events.Entry.{Entry}
use Rattle.flat_model.specs.declared.events.Reply.{Reply}
use Rattle.flat_model.specs.declared.logs.Log.{Log}
use Rattle.flat_model.specs.declared.parts.BoxPart.{BoxPart}
use Rattle.flat_model.specs.declared.parts.Config.{Config}
use Rattle.box_isolation.specs.Alone.{lone_replies}
use Rattle.flat_model.specs.Log.{entries_of}
use Rattle.box_isolation.specs.Part.{part_of}
use Rattle.box_isolation.specs.Reach.{is_thread_of, reach_of}

-- whether the choice is an event of a thread of the box
abbrev pub is_event_of : BoxPart → Choice → Bool
is_event_of box (choice.Turn t room) = is_thread_of box t.0
is_event_of box (choice.Start t ticket) = is_thread_of box t.0
is_event_of box (choice.Idle t) = is_thread_of box t.0
is_event_of box (choice.Ring line by) = false

-- the reply of an event of the box
abbrev pub reply_for : BoxPart → Entry → Option Reply
reply_for box entry = if is_event_of box entry.choice then Some entry.reply else None

-- the replies of a log to the threads of the box, in order
abbrev pub replies_to_box : BoxPart → Log → List Reply
replies_to_box box log = filter_map (reply_for box) (entries_of log.items)

-- every answer that a box gets in the log is one that the box by itself gives to what reached it
abbrev pub Isolated : Config → Log → Type 0
Isolated cfg log =
    (b : ℕ) (box : BoxPart) → slice_get cfg.boxes b ≡ Some box →
    replies_to_box box log ≡ lone_replies (part_of cfg b box) (reach_of cfg box log)

-- In both configurations the box with this number has the same part, and the same reached it in both logs.
pub record AreAlike (first : Config) (first_log : Log) (second : Config) (second_log : Log) (b : ℕ) (box : BoxPart) (twin : BoxPart) : Type 0 where
  pub here : slice_get first.boxes b ≡ Some box
  pub there : slice_get second.boxes b ≡ Some twin
  pub part : part_of first b box ≡ part_of second b twin
  pub reach : reach_of first box first_log ≡ reach_of second twin second_log
