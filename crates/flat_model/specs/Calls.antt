-- The list of all calls, in the order in which they were made.
use Rattle.std.specs.Prelude.{ℕ, Bool, true, false, ◌&&◌, not, nat_eq, Option, Some, None, List, map, find, count_by, if◌then◌else◌}
use Rattle.std.specs.Option.{option_map_or}
use Rattle.addr_base.specs.declared.identity.Ticket.{Ticket}
use Rattle.flat_model.specs.declared.events.Collected.{Collected}
use Rattle.flat_model.specs.declared.events.Collected.TheVariants as got
use Rattle.flat_model.specs.declared.states.Call.{Call}
use Rattle.flat_model.specs.declared.states.CallState.{CallState}
use Rattle.flat_model.specs.declared.states.CallState.TheVariants as state

-- whether two tickets are the same
abbrev pub same_ticket : Ticket → Ticket → Bool
same_ticket first second = nat_eq first.thread.0 second.thread.0 && nat_eq first.seq second.seq

-- whether the call waits for its start
abbrev pub is_posted : CallState → Bool
is_posted state.Posted = true
is_posted state.Started = false
is_posted (state.Done value) = false
is_posted state.Collected = false

-- whether the call's result was collected
abbrev pub is_collected : CallState → Bool
is_collected state.Posted = false
is_collected state.Started = false
is_collected (state.Done value) = false
is_collected state.Collected = true

-- what a caller gets of a call in this state
abbrev pub collected_in : CallState → Collected
collected_in state.Posted = got.Waiting
collected_in state.Started = got.Waiting
collected_in (state.Done value) = got.Done value
collected_in state.Collected = got.NoSuch

-- whether the call is posted to the box with this number
abbrev pub is_posted_to : ℕ → Call → Bool
is_posted_to b call = is_posted call.state && nat_eq call.target.0 b

-- how many calls are posted to the box with this number
abbrev pub posted_count : ℕ → List Call → ℕ
posted_count b calls = count_by (is_posted_to b) calls

-- the oldest call posted to the box with this number
abbrev pub oldest_posted : ℕ → List Call → Option Call
oldest_posted b calls = find (is_posted_to b) calls

-- the oldest call of one thread that is posted to the box with this number
abbrev pub oldest_posted_by : ℕ → ℕ → List Call → Option Call
oldest_posted_by thread b calls = find (λ call. is_posted_to b call && nat_eq call.ticket.thread.0 thread) calls

-- whether this is the call of the ticket, and not collected
abbrev pub is_open_call : Ticket → Call → Bool
is_open_call ticket call = same_ticket ticket call.ticket && not (is_collected call.state)

-- the call of the ticket that is not collected
abbrev pub open_call : Ticket → List Call → Option Call
open_call ticket calls = find (is_open_call ticket) calls

-- what the caller gets by this ticket
abbrev pub collected_by : Ticket → List Call → Collected
collected_by ticket calls = option_map_or (λ call. collected_in call.state) (open_call ticket calls) got.NoSuch

-- the call in another state, where it is the ticket's and not collected
abbrev pub in_state : Ticket → CallState → Call → Call
in_state ticket new call = if is_open_call ticket call then record call { state = new } else call

-- the calls with the ticket's call, where it is not collected, in another state
abbrev pub with_state : Ticket → CallState → List Call → List Call
with_state ticket new calls = map (in_state ticket new) calls

-- the call, where it is the ticket's
abbrev pub call_with : Ticket → Option Call → Option Call
call_with ticket None = None
call_with ticket (Some call) = if same_ticket ticket call.ticket then Some call else None

-- the ticket's call, where it is the oldest of its thread that is posted to the box with this number
abbrev pub next_call : Ticket → ℕ → List Call → Option Call
next_call ticket b calls = call_with ticket (oldest_posted_by ticket.thread.0 b calls)

-- how many of the calls are of the thread with this number
abbrev pub calls_of : ℕ → List Call → ℕ
calls_of t calls = count_by (λ call. nat_eq call.ticket.thread.0 t) calls

-- the calls after the ticket's result was collected
abbrev pub with_collected : Ticket → List Call → List Call
with_collected ticket calls = with_state ticket state.Collected calls

-- the calls after their caller asked for this ticket's result and got this
abbrev pub after_asking : Ticket → Collected → List Call → List Call
after_asking ticket got.Waiting calls = calls
after_asking ticket (got.Done value) calls = with_collected ticket calls
after_asking ticket got.NoSuch calls = calls
