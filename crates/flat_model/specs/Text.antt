-- The text of a log (docs/LOG.md).
use Rattle.std.specs.Prelude.{ℕ, zero, suc, ◌+◌, ◌-◌, ◌/◌, ◌%◌, List, [], ◌∷◌, ◌++◌, map, take, codes, nat_lt, if◌then◌else◌, slice_get}
use Rattle.std.specs.Fmt.{decimal}
use Rattle.std.specs.List.{flat_map, join_with_byte}
use Rattle.std.specs.Option.{option_map_or}
use Rattle.addr_base.specs.declared.identity.ThreadId.{ThreadId}
use Rattle.addr_base.specs.declared.identity.Ticket.{Ticket}
use Rattle.addr_base.specs.declared.pairs.Verdict.{Verdict}
use Rattle.addr_base.specs.declared.pairs.Verdict.TheVariants.{Granted, Denied}
use Rattle.addr_base.specs.declared.rights.Kind.{Kind}
use Rattle.addr_base.specs.declared.rights.Kind.TheVariants.{Read, Write, Fetch}
use Rattle.flat_model.specs.declared.events.Choice.{Choice}
use Rattle.flat_model.specs.declared.events.Choice.TheVariants as choice
use Rattle.flat_model.specs.declared.events.Flaw.{Flaw}
use Rattle.flat_model.specs.declared.events.Flaw.TheVariants as flaw
use Rattle.flat_model.specs.declared.events.Logged.{Logged}
use Rattle.flat_model.specs.declared.events.Logged.TheVariants as item
use Rattle.flat_model.specs.declared.events.Mode.{Mode}
use Rattle.flat_model.specs.declared.events.Mode.TheVariants as mode
use Rattle.flat_model.specs.declared.events.Reply.{Reply}
use Rattle.flat_model.specs.declared.events.Reply.TheVariants as reply
use Rattle.flat_model.specs.declared.events.Started.{Started}
use Rattle.flat_model.specs.declared.events.UnitLine.{UnitLine}
use Rattle.flat_model.specs.declared.events.UnitLine.TheVariants as line
use Rattle.flat_model.specs.declared.logs.End.{End}
use Rattle.flat_model.specs.declared.logs.Log.{Log}
use Rattle.flat_model.specs.declared.parts.Config.{Config}
use Rattle.flat_model.specs.CallRows.{home_of}

-- a hexadecimal digit, in upper case
abbrev pub hex_digit : ℕ → ℕ
hex_digit n = if nat_lt n 10 then 48 + n else 55 + n

-- the k low hexadecimal digits of a number
abbrev pub hex_digits : ℕ → ℕ → List ℕ
hex_digits zero n = []
hex_digits (suc k) n = hex_digits k (n / 16) ++ hex_digit (n % 16) ∷ []

-- a number of 32 bits: `0x` and eight hexadecimal digits
unfoldable pub hex_word : ℕ → List ℕ
hex_word n = codes "0x" ++ hex_digits 8 n

-- words with one space between them, and a line feed
abbrev pub line_of : List (List ℕ) → List ℕ
line_of words = join_with_byte 32 words ++ 10 ∷ []

-- the name of the box with this number
abbrev pub box_name : Config → ℕ → List ℕ
box_name cfg b = option_map_or (λ part. part.name) (slice_get cfg.boxes b) []

-- the number of the first thread of the box with this number
abbrev pub first_thread : Config → ℕ → ℕ
first_thread cfg b = option_map_or (λ part. part.first) (slice_get cfg.boxes b) 0

-- a thread: the name of its box, a dot, and its index in the box
unfoldable pub thread_text : Config → ThreadId → List ℕ
thread_text cfg t =
    let home = (home_of cfg t.0).0 in box_name cfg home ++ codes "." ++ decimal (t.0 - first_thread cfg home)

-- a ticket: the thread, `#`, and the number of its call
abbrev pub ticket_text : Config → Ticket → List ℕ
ticket_text cfg ticket = thread_text cfg ticket.thread ++ codes "#" ++ decimal ticket.seq

-- the name of a kind of access
abbrev pub kind_text : Kind → List ℕ
kind_text Read = codes "read"
kind_text Write = codes "write"
kind_text Fetch = codes "fetch"

-- the words of a verdict
abbrev pub verdict_words : Verdict → List (List ℕ)
verdict_words (Granted slot) = codes "slot" ∷ decimal slot ∷ []
verdict_words Denied = codes "denied" ∷ []

-- the words of a unit's line
abbrev pub unit_words : Config → UnitLine → List (List ℕ)
unit_words cfg (line.Switch b) = codes "unit" ∷ codes "switch" ∷ box_name cfg b.0 ∷ []
unit_words cfg (line.Rotate slot pair) =
    codes "unit" ∷ codes "rotate" ∷ decimal slot ∷ hex_word pair.rbar ∷ hex_word pair.rasr ∷ []
unit_words cfg line.Flush = codes "unit" ∷ codes "flush" ∷ []
unit_words cfg (line.Access kind size at verdict) =
    codes "unit" ∷ codes "access" ∷ kind_text kind ∷ decimal size ∷ hex_word at ∷ verdict_words verdict

-- the name of a flaw
abbrev pub flaw_text : Flaw → List ℕ
flaw_text flaw.Daccviol = codes "daccviol"
flaw_text flaw.Iaccviol = codes "iaccviol"
flaw_text flaw.Unaligned = codes "unaligned"
flaw_text flaw.Place = codes "place"

-- the words of a started call: its function and its four arguments
abbrev pub started_words : Started → List (List ℕ)
started_words started = hex_word started.function ∷ map hex_word started.args

-- the words of a reply
abbrev pub reply_words : Reply → List (List ℕ)
reply_words reply.Ended = codes "ended" ∷ []
reply_words reply.Done = codes "ok" ∷ []
reply_words (reply.Value value) = codes "ok" ∷ hex_word value ∷ []
reply_words (reply.Status status) = codes "status" ∷ decimal status ∷ []
reply_words (reply.Posted seq) = codes "posted" ∷ decimal seq ∷ []
reply_words reply.Waiting = codes "waiting" ∷ []
reply_words (reply.Irq l) = codes "irq" ∷ decimal l.0 ∷ []
reply_words (reply.Given frames) = codes "frames" ∷ map decimal (take frames.n frames.list)
reply_words (reply.Fault why at) = codes "fault" ∷ flaw_text why ∷ hex_word at ∷ []
reply_words reply.Halted = codes "halted" ∷ []
reply_words (reply.Begun started) = codes "ok" ∷ started_words started

-- the words of an entry
abbrev pub entry_words : Config → Choice → Reply → List (List ℕ)
entry_words cfg (choice.Turn t room) r = codes "turn" ∷ thread_text cfg t ∷ reply_words r
entry_words cfg (choice.Start t ticket) r =
    codes "start" ∷ thread_text cfg t ∷ ticket_text cfg ticket ∷ reply_words r
entry_words cfg (choice.Idle t) r = codes "idle" ∷ thread_text cfg t ∷ reply_words r
entry_words cfg (choice.Ring l by) r = codes "ring" ∷ decimal l.0 ∷ codes "by" ∷ decimal by ∷ []

-- the words of an item
abbrev pub item_words : Config → Logged → List (List ℕ)
item_words cfg (item.Unit l) = unit_words cfg l
item_words cfg (item.Core e) = entry_words cfg e.choice e.reply

-- the line of an item
unfoldable pub item_line : Config → Logged → List ℕ
item_line cfg i = line_of (item_words cfg i)

-- the name of a mode
abbrev pub mode_text : Mode → List ℕ
mode_text mode.Ready = codes "ready"
mode_text mode.Waiting = codes "waiting"
mode_text mode.Halted = codes "halted"
mode_text mode.Faulted = codes "faulted"
mode_text mode.Spent = codes "spent"

-- the line of what a thread is at the end
unfoldable pub end_line : Config → ℕ → End → List ℕ
end_line cfg t end =
    line_of (codes "thread" ∷ thread_text cfg (record { 0 = t }) ∷ mode_text end.mode ∷ decimal end.steps
    ∷ map hex_word end.regs)

-- the lines of the threads from the number t on
abbrev pub end_lines : Config → ℕ → List End → List ℕ
end_lines cfg t [] = []
end_lines cfg t (end ∷ ends) = end_line cfg t end ++ end_lines cfg (t + 1) ends

-- the text of a log: a line an item in order, and then a line a thread
abbrev pub text_of : Config → Log → List ℕ
text_of cfg log = flat_map (item_line cfg) log.items ++ end_lines cfg 0 log.ends
