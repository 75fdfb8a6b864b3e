-- What an item of a log is counted as.
use Rattle.std.specs.Prelude.{Bool, true, false, ◌&&◌}
use Rattle.addr_base.specs.declared.pairs.Verdict.TheVariants.{Granted, Denied}
use Rattle.flat_model.specs.declared.events.Choice.{Choice}
use Rattle.flat_model.specs.declared.events.Choice.TheVariants as choice
use Rattle.flat_model.specs.declared.events.Logged.{Logged}
use Rattle.flat_model.specs.declared.events.Logged.TheVariants as item
use Rattle.flat_model.specs.declared.events.Reply.{Reply}
use Rattle.flat_model.specs.declared.events.Reply.TheVariants as reply
use Rattle.flat_model.specs.declared.events.UnitLine.TheVariants as line

-- whether it is the line of a switch
abbrev pub is_switch : Logged → Bool
is_switch (item.Unit (line.Switch b)) = true
is_switch i = false

-- whether it is the line of a rotation
abbrev pub is_rotation : Logged → Bool
is_rotation (item.Unit (line.Rotate slot pair)) = true
is_rotation i = false

-- whether it is the line of a flush
abbrev pub is_flush : Logged → Bool
is_flush (item.Unit line.Flush) = true
is_flush i = false

-- whether it is the line of an access that was granted
abbrev pub is_granted_access : Logged → Bool
is_granted_access (item.Unit (line.Access kind size at (Granted slot))) = true
is_granted_access i = false

-- whether it is the line of an access that was denied
abbrev pub is_denied_access : Logged → Bool
is_denied_access (item.Unit (line.Access kind size at Denied)) = true
is_denied_access i = false

-- whether the choice is a turn
abbrev pub is_turn_choice : Choice → Bool
is_turn_choice (choice.Turn t room) = true
is_turn_choice c = false

-- whether it is a turn
abbrev pub is_turn : Logged → Bool
is_turn (item.Core entry) = is_turn_choice entry.choice
is_turn i = false

-- whether the choice is a start of a call
abbrev pub is_start_choice : Choice → Bool
is_start_choice (choice.Start t ticket) = true
is_start_choice c = false

-- whether it is a start of a call
abbrev pub is_start : Logged → Bool
is_start (item.Core entry) = is_start_choice entry.choice
is_start i = false

-- whether the choice is an idle look
abbrev pub is_idle_choice : Choice → Bool
is_idle_choice (choice.Idle t) = true
is_idle_choice c = false

-- whether it is an idle look
abbrev pub is_idle : Logged → Bool
is_idle (item.Core entry) = is_idle_choice entry.choice
is_idle i = false

-- whether the choice is a ring
abbrev pub is_ring_choice : Choice → Bool
is_ring_choice (choice.Ring l by) = true
is_ring_choice c = false

-- whether it is a ring
abbrev pub is_ring : Logged → Bool
is_ring (item.Core entry) = is_ring_choice entry.choice
is_ring i = false

-- whether the reply is the number of a call that was posted
abbrev pub is_posted_reply : Reply → Bool
is_posted_reply (reply.Posted seq) = true
is_posted_reply r = false

-- whether it is a turn that posted a call
abbrev pub is_posting_turn : Logged → Bool
is_posting_turn (item.Core entry) = is_turn_choice entry.choice && is_posted_reply entry.reply
is_posting_turn i = false

-- whether the reply is a fault
abbrev pub is_fault_reply : Reply → Bool
is_fault_reply (reply.Fault why at) = true
is_fault_reply r = false

-- whether it is a turn that faulted
abbrev pub is_faulting_turn : Logged → Bool
is_faulting_turn (item.Core entry) = is_turn_choice entry.choice && is_fault_reply entry.reply
is_faulting_turn i = false
