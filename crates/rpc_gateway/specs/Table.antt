-- Inner: no public contract cites this. What the table of calls keeps beside the list of all calls.
use Rattle.std.specs.Prelude.{◌≡◌, ℕ, ◌+◌, ◌*◌, ◌%◌, ◌≤◌, Bool, true, false, ◌&&◌, not, nat_eq, Option, Some, List, length, slice_get, slice_index}
use Rattle.addr_base.specs.declared.identity.Ticket.{Ticket}
use Rattle.flat_model.specs.declared.states.Call.{Call}
use Rattle.flat_model.specs.declared.states.CallState.{CallState}
use Rattle.flat_model.specs.declared.states.CallState.TheVariants as state
use Rattle.flat_model.specs.Calls.{is_collected, is_posted, is_posted_to, same_ticket}
use Rattle.index_list.specs.Arena.{ArenaView}
use Rattle.rpc_gateway.specs.Calls.{call_count, is_made_by}
use Rattle.rpc_gateway.specs.Kept.{HasRoom}
use Rattle.rpc_gateway.specs.Listed.{AreCounted, AreListed}
use Rattle.rpc_gateway.specs.Places.{passes_at}

-- all calls in the order in which they were made, and for how many more there is room
pub record TableView : Type 0 where
  pub calls : List Call
  pub spare : ℕ

-- the number of a thread's list of uncollected calls; sixteen threads have a list each
abbrev pub caller_list : ℕ → ℕ
caller_list t = t % 16

-- the number of the list of calls that a thread posted to a box; sixteen threads and eight boxes have a list each pair
abbrev pub pair_list : ℕ → ℕ → ℕ
pair_list t b = caller_list t * 8 + b % 8

-- the list of the call, while it is posted
abbrev pub list_of_posted : Call → ℕ
list_of_posted call = pair_list call.ticket.thread.0 call.target.0

-- the list of the call, until it is collected
abbrev pub list_of_open : Call → ℕ
list_of_open call = caller_list call.ticket.thread.0

-- whether the call is posted to the box with this number by a thread of this list
abbrev pub is_posted_by_list : ℕ → ℕ → Call → Bool
is_posted_by_list list b call = is_posted_to b call && nat_eq (caller_list call.ticket.thread.0) list

-- whether the call is posted
abbrev pub is_waiting : Call → Bool
is_waiting call = is_posted call.state

-- whether the call is not collected
abbrev pub is_open : Call → Bool
is_open call = not (is_collected call.state)

-- whether the call is started and not finished
abbrev pub is_started : CallState → Bool
is_started state.Posted = false
is_started state.Started = true
is_started (state.Done value) = false
is_started state.Collected = false

-- whether the call is finished and not collected
abbrev pub is_done : CallState → Bool
is_done state.Posted = false
is_done state.Started = false
is_done (state.Done value) = true
is_done state.Collected = false

-- the call in this state
abbrev pub call_in : CallState → Call → Call
call_in new call = record call { state = new }

-- no two calls have one ticket, and no number is above the count of its thread's calls
pub record AreNumbered (calls : List Call) : Type 0 where
  pub once : (i k : ℕ) (first second : Call) → slice_get calls i ≡ Some first → slice_get calls k ≡ Some second →
      same_ticket first.ticket second.ticket ≡ true → i ≡ k
  pub counted : (i : ℕ) (call : Call) → slice_get calls i ≡ Some call →
      call.ticket.seq ≤ call_count call.ticket.thread.0 calls

-- the lists and the counts are those of the calls
pub record IsTable (calls : List Call) (room : ℕ) (posted uncollected : ArenaView) (waiting made : List ℕ) : Type 0 where
  pub room_known : HasRoom (length calls) room
  pub posted_lists : length posted.lists ≡ 128
  pub open_lists : length uncollected.lists ≡ 16
  pub posted_nodes : posted.nodes ≡ room
  pub open_nodes : uncollected.nodes ≡ room
  pub waiting_boxes : length waiting ≡ 256
  pub made_threads : length made ≡ 256
  pub posted_known : AreListed is_waiting list_of_posted posted.lists calls
  pub open_known : AreListed is_open list_of_open uncollected.lists calls
  pub waiting_known : AreCounted is_posted_to waiting calls
  pub made_known : AreCounted is_made_by made calls
  pub numbered : AreNumbered calls

-- whether the call is the ticket's, to the box with this number, and started
abbrev pub is_served_by : ℕ → Ticket → Call → Bool
is_served_by b ticket call = is_started call.state && (same_ticket ticket call.ticket && nat_eq call.target.0 b)

-- the call that each server serves stands at the place kept for its box
pub record AreServed (calls : List Call) (serving : List (Option Ticket)) (served : List ℕ) : Type 0 where
  pub as_many : length served ≡ length serving
  pub at_place : (b : ℕ) (ticket : Ticket) → slice_get serving b ≡ Some (Some ticket) →
      passes_at (is_served_by b ticket) calls (slice_index served b) ≡ true
