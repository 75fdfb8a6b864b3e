-- Inner: no public contract cites this. The one item or end that the words of a line can be the text of.
use Rattle.std.specs.Prelude.{ℕ, zero, suc, Bool, true, not, nat_eq, min, List, [], ◌∷◌, length, codes, if◌then◌else◌}
use Rattle.std.specs.Str.{bytes_eq}
use Rattle.addr_base.specs.declared.identity.Ticket.{Ticket}
use Rattle.addr_base.specs.declared.pairs.Verdict.{Verdict}
use Rattle.addr_base.specs.declared.pairs.Verdict.TheVariants.{Granted, Denied}
use Rattle.flat_model.specs.declared.events.Choice.TheVariants as choice
use Rattle.flat_model.specs.declared.events.Frames.{Frames}
use Rattle.flat_model.specs.declared.events.Logged.{Logged}
use Rattle.flat_model.specs.declared.events.Logged.TheVariants as item
use Rattle.flat_model.specs.declared.events.Reply.{Reply}
use Rattle.flat_model.specs.declared.events.Reply.TheVariants as reply
use Rattle.flat_model.specs.declared.events.Started.{Started}
use Rattle.flat_model.specs.declared.events.UnitLine.{UnitLine}
use Rattle.flat_model.specs.declared.events.UnitLine.TheVariants as line
use Rattle.flat_model.specs.declared.logs.End.{End}
use Rattle.flat_model.specs.declared.parts.Config.{Config}
use Rattle.flat_model.specs.CallRows.{home_of}
use Rattle.run_log.specs.LineWords.{first_of, number_of, rest_of, small_of}
use Rattle.run_log.specs.Meanings.{box_of, flaw_of, kind_of, mode_of, thread_of, ticket_of}

-- so many numbers of 8 bits
abbrev pub smalls_of : ℕ → List (List ℕ) → List ℕ
smalls_of zero words = []
smalls_of (suc count) words = small_of (first_of words) ∷ smalls_of count (rest_of words)

-- so many numbers in hexadecimal
abbrev pub hexes_of : ℕ → List (List ℕ) → List ℕ
hexes_of zero words = []
hexes_of (suc count) words = number_of 16 (first_of words) ∷ hexes_of count (rest_of words)

-- a verdict
unfoldable pub verdict_of : List (List ℕ) → Verdict
verdict_of words =
    if bytes_eq (first_of words) (codes "slot") then Granted (small_of (first_of (rest_of words))) else Denied

-- a slot and the pair that was written to it
unfoldable pub rotate_of : List (List ℕ) → UnitLine
rotate_of words = line.Rotate (small_of (first_of words)) (record {
  rbar = number_of 16 (first_of (rest_of words));
  rasr = number_of 16 (first_of (rest_of (rest_of words)));
})

-- an access and its verdict
unfoldable pub access_of : List (List ℕ) → UnitLine
access_of words = line.Access
    (kind_of (first_of words))
    (small_of (first_of (rest_of words)))
    (number_of 16 (first_of (rest_of (rest_of words))))
    (verdict_of (rest_of (rest_of (rest_of words))))

-- the unit's line behind `unit`
unfoldable pub unit_of : Config → List (List ℕ) → UnitLine
unit_of cfg words =
    if bytes_eq (first_of words) (codes "switch") then line.Switch (box_of cfg (first_of (rest_of words)))
    else (if bytes_eq (first_of words) (codes "rotate") then rotate_of (rest_of words)
    else (if bytes_eq (first_of words) (codes "access") then access_of (rest_of words) else line.Flush))

-- frames
unfoldable pub frames_of : List (List ℕ) → Frames
frames_of words = record { n = min (length words) 16; list = smalls_of 16 words }

-- a started call with this ticket
unfoldable pub started_of : Config → Ticket → List (List ℕ) → Started
started_of cfg ticket words = record {
  function = number_of 16 (first_of words);
  args = hexes_of 4 (rest_of words);
  caller = home_of cfg ticket.thread.0;
}

-- the reply behind `ok`, with a value or without
unfoldable pub done_of : List (List ℕ) → Reply
done_of words = if nat_eq (length words) 0 then reply.Done else reply.Value (number_of 16 (first_of words))

-- the reply behind `fault`
unfoldable pub fault_of : List (List ℕ) → Reply
fault_of words = reply.Fault (flaw_of (first_of words)) (number_of 16 (first_of (rest_of words)))

-- the reply of a turn
unfoldable pub reply_of : List (List ℕ) → Reply
reply_of words =
    if bytes_eq (first_of words) (codes "ok") then done_of (rest_of words)
    else (if bytes_eq (first_of words) (codes "status") then reply.Status (small_of (first_of (rest_of words)))
    else (if bytes_eq (first_of words) (codes "posted") then reply.Posted (number_of 10 (first_of (rest_of words)))
    else (if bytes_eq (first_of words) (codes "waiting") then reply.Waiting
    else (if bytes_eq (first_of words) (codes "irq") then reply.Irq (record { 0 = small_of (first_of (rest_of words)) })
    else (if bytes_eq (first_of words) (codes "frames") then reply.Given (frames_of (rest_of words))
    else (if bytes_eq (first_of words) (codes "fault") then fault_of (rest_of words)
    else (if bytes_eq (first_of words) (codes "halted") then reply.Halted else reply.Ended)))))))

-- whether a turn with this reply had room
unfoldable pub had_room : Reply → Bool
had_room (reply.Status status) = not (nat_eq status 3)
had_room _ = true

-- the turn behind `turn`
unfoldable pub turn_of : Config → List (List ℕ) → Logged
turn_of cfg words = item.Core (record {
  choice = choice.Turn (thread_of cfg (first_of words)) (had_room (reply_of (rest_of words)));
  reply = reply_of (rest_of words);
})

-- the reply of a start with this ticket
unfoldable pub start_reply_of : Config → Ticket → List (List ℕ) → Reply
start_reply_of cfg ticket words =
    if bytes_eq (first_of words) (codes "ok") then reply.Begun (started_of cfg ticket (rest_of words))
    else reply.Status 12

-- the start behind `start`
unfoldable pub start_of : Config → List (List ℕ) → Logged
start_of cfg words = item.Core (record {
  choice = choice.Start (thread_of cfg (first_of words)) (ticket_of cfg (first_of (rest_of words)));
  reply = start_reply_of cfg (ticket_of cfg (first_of (rest_of words))) (rest_of (rest_of words));
})

-- the idle look behind `idle`
unfoldable pub idle_of : Config → List (List ℕ) → Logged
idle_of cfg words = item.Core (record { choice = choice.Idle (thread_of cfg (first_of words)); reply = reply.Status 2 })

-- the ring behind `ring`: a line, `by` and a device
unfoldable pub ring_of : List (List ℕ) → Logged
ring_of words = item.Core (record {
  choice = choice.Ring (record { 0 = small_of (first_of words) }) (small_of (first_of (rest_of (rest_of words))));
  reply = reply.Done;
})

-- the item that a line's words give
unfoldable pub item_of : Config → List (List ℕ) → Logged
item_of cfg words =
    if bytes_eq (first_of words) (codes "unit") then item.Unit (unit_of cfg (rest_of words))
    else (if bytes_eq (first_of words) (codes "turn") then turn_of cfg (rest_of words)
    else (if bytes_eq (first_of words) (codes "start") then start_of cfg (rest_of words)
    else (if bytes_eq (first_of words) (codes "idle") then idle_of cfg (rest_of words) else ring_of (rest_of words))))

-- the end behind a thread's name: its mode, its steps and its registers
unfoldable pub state_of : List (List ℕ) → End
state_of words = record {
  mode = mode_of (first_of words);
  steps = number_of 10 (first_of (rest_of words));
  regs = hexes_of 8 (rest_of (rest_of words));
}

-- the end that a line's words give, behind `thread` and the thread's name
unfoldable pub end_of : List (List ℕ) → End
end_of words = state_of (rest_of (rest_of words))
