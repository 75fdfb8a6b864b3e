-- One step of the flat machine: the state after a choice, and its reply.
use Rattle.std.specs.Prelude.{ℕ, Bool, true, false, ◌&&◌, not, Option, Some, None, if◌then◌else◌, slice_set}
use Rattle.addr_base.specs.declared.identity.ThreadId.{ThreadId}
use Rattle.addr_base.specs.declared.identity.Ticket.{Ticket}
use Rattle.flat_model.specs.declared.accesses.Access.{Access}
use Rattle.flat_model.specs.declared.events.Choice.{Choice}
use Rattle.flat_model.specs.declared.events.Choice.TheVariants as choice
use Rattle.flat_model.specs.declared.events.Reply.{Reply}
use Rattle.flat_model.specs.declared.events.Reply.TheVariants as reply
use Rattle.flat_model.specs.declared.next.Next.{Next}
use Rattle.flat_model.specs.declared.parts.Config.{Config}
use Rattle.flat_model.specs.declared.states.Flat.{Flat}
use Rattle.flat_model.specs.Actors.{Actor, actor_of, who_acts}
use Rattle.flat_model.specs.CallRows.{server_row}
use Rattle.flat_model.specs.Interrupts.{with_latched}
use Rattle.flat_model.specs.Next.{holds_next, is_page_turn, next_of_actor, touch_in}
use Rattle.flat_model.specs.Outcome.{Outcome}
use Rattle.flat_model.specs.Thread.{counted}
use Rattle.flat_model.specs.Turn.{turn_row, within_budget}
use Rattle.flat_model.specs.Want.{fits}

-- the state with an outcome put back, and its reply
abbrev pub settled : Flat → ℕ → Outcome → Flat × Reply
settled f t out = (record { shared = out.shared; threads = slice_set f.threads t out.thread }, out.reply)

-- a turn of an actor that comes to this: the access that it decides is done where the box holds its bytes
abbrev pub turn_of : Config → Flat → ThreadId → Bool → Actor → Next → Flat × Reply
turn_of cfg f t room a n =
    settled f t.0 (turn_row cfg (who_acts a t room) a.part a.program.steps f.shared a.thread
    (holds_next cfg.board a.program.home.0 a.part f.shared.owners n) n)

-- a turn of an actor, if there is one: a thread that has ended does nothing
abbrev pub turn_by : Config → Flat → ThreadId → Bool → Option Actor → Flat × Reply
turn_by cfg f t room None = (f, reply.Ended)
turn_by cfg f t room (Some a) = turn_of cfg f t room a (next_of_actor f.shared.lines a t.0)

-- a server's event, if there is such an actor
abbrev pub serve_by : Config → Flat → ThreadId → Option Ticket → Option Actor → Flat × Reply
serve_by cfg f t ticket None = (f, reply.Ended)
serve_by cfg f t ticket (Some a) =
    settled f t.0 (within_budget a.program.steps (server_row cfg a.program.home.0 f.shared (counted a.thread) ticket))

-- the state with the line latched
abbrev pub rung : Flat → ℕ → Flat
rung f line = record f { shared = record f.shared { lines = with_latched f.shared.lines line } }

-- what a choice that fits does
abbrev pub fitting_step : Config → Flat → Choice → Flat × Reply
fitting_step cfg f (choice.Turn t room) = turn_by cfg f t room (actor_of cfg f t.0)
fitting_step cfg f (choice.Start t ticket) = serve_by cfg f t (Some ticket) (actor_of cfg f t.0)
fitting_step cfg f (choice.Idle t) = serve_by cfg f t None (actor_of cfg f t.0)
fitting_step cfg f (choice.Ring line by) = (rung f line.0, reply.Done)

-- the state after a choice, and its reply; a choice that does not fit changes nothing
unfoldable pub step : Config → Flat → Choice → Flat × Reply
step cfg f c = if fits cfg f c then fitting_step cfg f c else (f, reply.Ended)

-- the state after a choice
abbrev pub state_after : Config → Flat → Choice → Flat
state_after cfg f c = (step cfg f c).0

-- what a choice answers
abbrev pub reply_to : Config → Flat → Choice → Reply
reply_to cfg f c = (step cfg f c).1

-- the access that a turn of an actor decides, if it decides one
abbrev pub touch_by : Flat → ℕ → Option Actor → Option Access
touch_by f t None = None
touch_by f t (Some a) = touch_in (next_of_actor f.shared.lines a t)

-- the aligned access that a choice decides for a load, a store or a fetch, if it decides one
unfoldable pub touch_of : Config → Flat → Choice → Option Access
touch_of cfg f (choice.Turn t true) = touch_by f t.0 (actor_of cfg f t.0)
touch_of cfg f (choice.Turn t false) = None
touch_of cfg f (choice.Start t ticket) = None
touch_of cfg f (choice.Idle t) = None
touch_of cfg f (choice.Ring line by) = None

-- whether the reply is a status
abbrev pub is_status : Reply → Bool
is_status reply.Ended = false
is_status reply.Done = false
is_status (reply.Value value) = false
is_status (reply.Status status) = true
is_status (reply.Posted seq) = false
is_status reply.Waiting = false
is_status (reply.Irq line) = false
is_status (reply.Given frames) = false
is_status (reply.Fault why at) = false
is_status reply.Halted = false
is_status (reply.Begun started) = false

-- whether a turn of an actor is a page call
abbrev pub is_page_turn_by : Flat → ℕ → Option Actor → Bool
is_page_turn_by f t None = false
is_page_turn_by f t (Some a) = is_page_turn (next_of_actor f.shared.lines a t)

-- whether the choice is a page call that was done: it empties the slots of the circle
unfoldable pub empties_slots : Config → Flat → Choice → Bool
empties_slots cfg f (choice.Turn t true) =
    is_page_turn_by f t.0 (actor_of cfg f t.0) && not (is_status (reply_to cfg f (choice.Turn t true)))
empties_slots cfg f (choice.Turn t false) = false
empties_slots cfg f (choice.Start t ticket) = false
empties_slots cfg f (choice.Idle t) = false
empties_slots cfg f (choice.Ring line by) = false
