-- A log: its entries, its events with the unit's lines before them, and what it names.
use Rattle.std.specs.Prelude.{◌≡◌, ℕ, Bool, true, false, ◌&&◌, ◌||◌, not, nat_eq, nat_le, nat_lt, Option, Some, None, List, [], ◌∷◌, ◌++◌, map, length, take, drop, if◌then◌else◌}
use Rattle.std.specs.List.{list_all, filter_map}
use Rattle.addr_base.specs.declared.identity.BoxId.{BoxId}
use Rattle.addr_base.specs.declared.pairs.Verdict.{Verdict}
use Rattle.addr_base.specs.declared.pairs.Verdict.TheVariants.{Granted, Denied}
use Rattle.flat_model.specs.declared.events.Choice.{Choice}
use Rattle.flat_model.specs.declared.events.Choice.TheVariants as choice
use Rattle.flat_model.specs.declared.events.Entry.{Entry}
use Rattle.flat_model.specs.declared.events.Frames.{Frames}
use Rattle.flat_model.specs.declared.events.Logged.{Logged}
use Rattle.flat_model.specs.declared.events.Logged.TheVariants as item
use Rattle.flat_model.specs.declared.events.Reply.{Reply}
use Rattle.flat_model.specs.declared.events.Reply.TheVariants as reply
use Rattle.flat_model.specs.declared.events.UnitLine.{UnitLine}
use Rattle.flat_model.specs.declared.events.UnitLine.TheVariants as line
use Rattle.flat_model.specs.declared.logs.Log.{Log}
use Rattle.flat_model.specs.declared.parts.Config.{Config}
use Rattle.flat_model.specs.Plan.{REGIONS}
use Rattle.flat_model.specs.Run.{LINES}
use Rattle.flat_model.specs.CallRows.{home_of}
use Rattle.flat_model.specs.Want.{is_thread}

-- the entry of an item that is no unit's line
abbrev pub entry_of : Logged → Option Entry
entry_of (item.Unit l) = None
entry_of (item.Core e) = Some e

-- the log without the unit's lines
abbrev pub entries_of : List Logged → List Entry
entries_of items = filter_map entry_of items

-- the choices of a log, in order
abbrev pub choices_of : List Logged → List Choice
choices_of items = map (λ e. e.choice) (entries_of items)

-- the replies of a log, in order
abbrev pub replies_of : List Logged → List Reply
replies_of items = map (λ e. e.reply) (entries_of items)

-- an entry with the unit's lines that stand right before it
pub record Event : Type 0 where
  pub lines : List UnitLine
  pub entry : Entry

-- the events of items that follow these unit's lines
abbrev pub events_after : List UnitLine → List Logged → List Event
events_after lines [] = []
events_after lines (item.Unit l ∷ items) = events_after (lines ++ l ∷ []) items
events_after lines (item.Core e ∷ items) = record { lines = lines; entry = e } ∷ events_after [] items

-- the events of a log, in order
abbrev pub events_of : List Logged → List Event
events_of items = events_after [] items

-- whether the last item, where there is one, is no unit's line
abbrev pub ends_with_entry : List Logged → Bool
ends_with_entry [] = true
ends_with_entry (item.Unit l ∷ []) = false
ends_with_entry (item.Core e ∷ []) = true
ends_with_entry (x ∷ y ∷ items) = ends_with_entry (y ∷ items)

-- whether the box is one of the configuration
abbrev pub is_box : Config → BoxId → Bool
is_box cfg b = nat_lt b.0 (length cfg.boxes)

-- whether the size is that of an access
abbrev pub is_size : ℕ → Bool
is_size n = nat_eq n 1 || nat_eq n 2 || nat_eq n 4

-- whether the verdict names a slot of the unit, if it names one
abbrev pub is_named_verdict : Verdict → Bool
is_named_verdict (Granted slot) = nat_lt slot REGIONS
is_named_verdict Denied = true

-- whether the unit's line names what is there
abbrev pub is_named_line : Config → UnitLine → Bool
is_named_line cfg (line.Switch b) = is_box cfg b
is_named_line cfg (line.Rotate slot pair) = nat_lt slot REGIONS
is_named_line cfg line.Flush = true
is_named_line cfg (line.Access kind size at verdict) = is_size size && is_named_verdict verdict

-- whether the numbers ascend
abbrev pub ascends : List ℕ → Bool
ascends [] = true
ascends (x ∷ []) = true
ascends (x ∷ y ∷ ys) = nat_lt x y && ascends (y ∷ ys)

-- whether the frames ascend, are 1 to 16, and the unused places of their list are 0
abbrev pub is_named_frames : Frames → Bool
is_named_frames frames =
    nat_le 1 frames.n && nat_le frames.n 16 && ascends (take frames.n frames.list)
    && list_all (λ frame. nat_eq frame 0) (drop frames.n frames.list)

-- whether the reply is that of a turn with room
abbrev pub is_turn_reply : Reply → Bool
is_turn_reply (reply.Begun started) = false
is_turn_reply (reply.Status status) = not (nat_eq status 3)
is_turn_reply (reply.Irq l) = nat_lt l.0 LINES
is_turn_reply (reply.Given frames) = is_named_frames frames
is_turn_reply _ = true

-- whether the reply is that of a turn without room
abbrev pub is_full_reply : Reply → Bool
is_full_reply (reply.Status status) = nat_eq status 3
is_full_reply _ = false

-- whether the reply is that of the start of a call of a thread of this box
abbrev pub is_start_reply : BoxId → Reply → Bool
is_start_reply caller (reply.Status status) = nat_eq status 12
is_start_reply caller (reply.Begun started) = nat_eq started.caller.0 caller.0
is_start_reply caller _ = false

-- whether the reply is that of an idle look
abbrev pub is_idle_reply : Reply → Bool
is_idle_reply (reply.Status status) = nat_eq status 2
is_idle_reply _ = false

-- whether the reply is that of a ring
abbrev pub is_ring_reply : Reply → Bool
is_ring_reply reply.Done = true
is_ring_reply _ = false

-- whether the entry of this choice names what is there, with a reply that such a choice has
abbrev pub is_named_choice : Config → Choice → Reply → Bool
is_named_choice cfg (choice.Turn t room) r = is_thread cfg t && (if room then is_turn_reply r else is_full_reply r)
is_named_choice cfg (choice.Start t ticket) r =
    is_thread cfg t && is_thread cfg ticket.thread && is_start_reply (home_of cfg ticket.thread.0) r
is_named_choice cfg (choice.Idle t) r = is_thread cfg t && is_idle_reply r
is_named_choice cfg (choice.Ring l by) r = nat_lt l.0 LINES && is_ring_reply r

-- whether the item names what is there
abbrev pub is_named_item : Config → Logged → Bool
is_named_item cfg (item.Unit l) = is_named_line cfg l
is_named_item cfg (item.Core e) = is_named_choice cfg e.choice e.reply

-- the log names what is there, and has one end a thread
pub record IsNamed (cfg : Config) (log : Log) : Type 0 where
  pub items : list_all (is_named_item cfg) log.items ≡ true
  pub ends : length log.ends ≡ length cfg.threads
