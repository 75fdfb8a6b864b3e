-- What the types of a log's values say of the numbers that its text shows.
use Rattle.std.specs.Prelude.{◌≡◌, ℕ, ◌^◌, ◌<◌, List, length}
use Rattle.std.specs.List.{AllByRecursion}
use Rattle.flat_model.specs.declared.events.Choice.{Choice}
use Rattle.flat_model.specs.declared.events.Choice.TheVariants as choice
use Rattle.flat_model.specs.declared.events.Frames.{Frames}
use Rattle.flat_model.specs.declared.events.Logged.{Logged}
use Rattle.flat_model.specs.declared.events.Logged.TheVariants as item
use Rattle.flat_model.specs.declared.events.Reply.{Reply}
use Rattle.flat_model.specs.declared.events.Reply.TheVariants as reply
use Rattle.flat_model.specs.declared.events.Started.{Started}
use Rattle.flat_model.specs.declared.events.UnitLine.{UnitLine}
use Rattle.flat_model.specs.declared.events.UnitLine.TheVariants as line
use Rattle.flat_model.specs.declared.logs.End.{End}
use Rattle.flat_model.specs.declared.logs.Log.{Log}

-- a number of 8 bits
abbrev pub Fits8 : ℕ → Type 0
Fits8 n = n < 256

-- a number of 32 bits
abbrev pub Fits32 : ℕ → Type 0
Fits32 n = n < 2 ^ 32

-- so many numbers of 32 bits
pub record AreWords (many : ℕ) (numbers : List ℕ) : Type 0 where
  pub count : length numbers ≡ many
  pub each : AllByRecursion Fits32 numbers

-- frames with a list of 16 numbers of 8 bits
pub record IsTypedFrames (frames : Frames) : Type 0 where
  pub count : length frames.list ≡ 16
  pub each : AllByRecursion Fits8 frames.list

-- a started call with numbers of 32 bits
pub record IsTypedStarted (started : Started) : Type 0 where
  pub function : Fits32 started.function
  pub args : AreWords 4 started.args

-- a reply whose numbers are those of its type
abbrev pub IsTypedReply : Reply → Type 0
IsTypedReply (reply.Value value) = Fits32 value
IsTypedReply (reply.Status status) = Fits8 status
IsTypedReply (reply.Posted seq) = Fits32 seq
IsTypedReply (reply.Given frames) = IsTypedFrames frames
IsTypedReply (reply.Fault why at) = Fits32 at
IsTypedReply (reply.Begun started) = IsTypedStarted started
IsTypedReply _ = Unit {0}

-- a choice whose numbers are those of its type
abbrev pub IsTypedChoice : Choice → Type 0
IsTypedChoice (choice.Start t ticket) = Fits32 ticket.seq
IsTypedChoice (choice.Ring l by) = Fits8 by
IsTypedChoice _ = Unit {0}

-- a unit's line whose numbers are those of its type
abbrev pub IsTypedLine : UnitLine → Type 0
IsTypedLine (line.Rotate slot pair) = Fits32 pair.rbar × Fits32 pair.rasr
IsTypedLine (line.Access kind size at verdict) = Fits32 at
IsTypedLine _ = Unit {0}

-- an item whose numbers are those of its type
abbrev pub IsTypedItem : Logged → Type 0
IsTypedItem (item.Unit l) = IsTypedLine l
IsTypedItem (item.Core e) = IsTypedChoice e.choice × IsTypedReply e.reply

-- an end whose numbers are those of its type
pub record IsTypedEnd (end : End) : Type 0 where
  pub steps : Fits32 end.steps
  pub regs : AreWords 8 end.regs

-- a log whose numbers are those of its type, as those of every log that a program holds are
pub record IsTyped (log : Log) : Type 0 where
  pub items : AllByRecursion IsTypedItem log.items
  pub ends : AllByRecursion IsTypedEnd log.ends
