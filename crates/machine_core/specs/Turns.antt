-- When each call that a worker or a device makes is taken. Every other such call is refused, and changes nothing.
use Rattle.std.specs.Prelude.{◌≡◌, ℕ, ◌+◌, Bool, true, false, ◌&&◌, nat_eq, nat_le, nat_lt, Option, Some, None, slice_get}
use Rattle.std.specs.Option.{option_map_or}
use Rattle.addr_base.specs.declared.identity.BoxId.{BoxId}
use Rattle.addr_base.specs.declared.identity.Line.{Line}
use Rattle.addr_base.specs.declared.identity.ThreadId.{ThreadId}
use Rattle.addr_base.specs.declared.identity.Ticket.{Ticket}
use Rattle.flat_model.specs.declared.events.Reply.{Reply}
use Rattle.flat_model.specs.declared.events.Reply.TheVariants as reply
use Rattle.flat_model.specs.declared.events.Want.{Want}
use Rattle.flat_model.specs.declared.events.Want.TheVariants as want
use Rattle.flat_model.specs.declared.logs.Log.{Log}
use Rattle.flat_model.specs.declared.parts.Config.{Config}
use Rattle.flat_model.specs.CallRows.{home_of}
use Rattle.flat_model.specs.Calls.{posted_count}
use Rattle.flat_model.specs.Run.{ends_of}
use Rattle.flat_model.specs.Want.{inbox_slots, is_owned_line, other_callers, want_of, wants_next}
use Rattle.machine_core.specs.Rings.{rings_by}
use Rattle.machine_core.specs.View.{MachineView, world_of}

-- what the thread wants in the state that the log has reached
abbrev pub want_in : MachineView → ThreadId → Want
want_in v t = want_of v.config (world_of v).flat t.0

-- whether the thread with this number is the server of its box
abbrev pub serves_box : Config → ℕ → Bool
serves_box cfg t =
    option_map_or (λ part. nat_eq t part.server.0) (slice_get cfg.boxes (home_of cfg t).0) false

-- whether it is neither room nor the next call
abbrev pub is_plain : Want → Bool
is_plain want.Plain = true
is_plain (want.Room b) = false
is_plain want.Next = false

-- whether it is room in the inbox of the box with this number
abbrev pub is_room_in : ℕ → Want → Bool
is_room_in b want.Plain = false
is_room_in b (want.Room target) = nat_eq target.0 b
is_room_in b want.Next = false

-- a turn is taken of a thread that wants neither room nor the next call
abbrev pub takes_turn : MachineView → ThreadId → Bool
takes_turn v t = is_plain (want_in v t)

-- a turn with a claim in this box's inbox is taken of a thread that wants room there
abbrev pub takes_claim : MachineView → ThreadId → BoxId → Bool
takes_claim v t b = is_room_in b.0 (want_in v t)

-- the calls that are posted to the box and the other threads that may call it are enough to fill its inbox
abbrev pub may_be_full : MachineView → ThreadId → BoxId → Bool
may_be_full v t b =
    nat_le (inbox_slots v.config) (posted_count b.0 (world_of v).flat.shared.calls + other_callers v.config t.0 b.0)

-- a turn without room in this box's inbox is taken of a thread that wants room there, where it may be full
abbrev pub takes_full : MachineView → ThreadId → BoxId → Bool
takes_full v t b = takes_claim v t b && may_be_full v t b

-- a start and an idle look by this box's inbox are taken of a thread of the box that wants the next call
abbrev pub takes_next : MachineView → ThreadId → BoxId → Bool
takes_next v t b = wants_next (want_in v t) && nat_eq (home_of v.config t.0).0 b.0

-- a ring is taken of a line that a box owns, where the number has made fewer rings than each device may make
abbrev pub takes_ring : MachineView → Line → ℕ → Bool
takes_ring v line number = is_owned_line v.config line.0 && nat_lt (rings_by number v.items) v.extra

-- the log as it is, with the end that each thread has now
abbrev pub log_now : MachineView → Log
log_now v = record { items = v.items; ends = ends_of (world_of v).flat }

-- the ticket of the call that a turn of the thread with this reply posted
abbrev pub ticket_of : ThreadId → Reply → Option Ticket
ticket_of t (reply.Posted seq) = Some (record { thread = t; seq = seq })
ticket_of t _ = None
