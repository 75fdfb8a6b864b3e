-- What a contract sees of Calls: the calls of a configuration, and how they change.
use Rattle.std.specs.Prelude.{ℕ, ◌+◌, ◌-◌, Bool, nat_eq, Option, Some, None, Result, Ok, Err, List, [], ◌∷◌, ◌++◌, length, replicate, count_by, sum_by, slice_set}
use Rattle.std.specs.Option.{option_map}
use Rattle.addr_base.specs.declared.identity.BoxId.{BoxId}
use Rattle.addr_base.specs.declared.identity.ThreadId.{ThreadId}
use Rattle.addr_base.specs.declared.identity.Ticket.{Ticket}
use Rattle.flat_model.specs.declared.events.Collected.{Collected}
use Rattle.flat_model.specs.declared.events.Started.{Started}
use Rattle.flat_model.specs.declared.parts.Config.{Config}
use Rattle.flat_model.specs.declared.parts.RpcGate.{RpcGate}
use Rattle.flat_model.specs.declared.refusals.NotNext.{NotNext}
use Rattle.flat_model.specs.declared.states.Call.{Call}
use Rattle.flat_model.specs.declared.states.CallState.TheVariants as state
use Rattle.flat_model.specs.CallRows.{started_from}
use Rattle.flat_model.specs.Calls.{after_asking, with_state}

-- the configuration, its calls in the order in which they were made, the call that each box's server serves, and how
-- many more calls there is room for
pub record CallsView : Type 0 where
  pub config : Config
  pub calls : List Call
  pub serving : List (Option Ticket)
  pub spare : ℕ

-- no call, and room for as many as all threads have steps
abbrev pub opening_calls : Config → CallsView
opening_calls cfg = record {
  config = cfg;
  calls = [];
  serving = replicate (length cfg.boxes) None;
  spare = sum_by (λ thread. thread.steps) cfg.threads;
}

-- the target of a gateway and its function
abbrev pub target_of : RpcGate → BoxId × ℕ
target_of gate = (gate.target, gate.function)

-- whether the thread with this number made the call
abbrev pub is_made_by : ℕ → Call → Bool
is_made_by t call = nat_eq call.ticket.thread.0 t

-- how many of the calls the thread with this number made
abbrev pub call_count : ℕ → List Call → ℕ
call_count t calls = count_by (is_made_by t) calls

-- the ticket that the thread's next call gets
abbrev pub next_ticket : ThreadId → List Call → Ticket
next_ticket t calls = record { thread = t; seq = call_count t.0 calls + 1 }

-- a call that waits for its start
abbrev pub posted_call : Ticket → BoxId → ℕ → List ℕ → Call
posted_call ticket target function args =
    record { ticket = ticket; target = target; function = function; args = args; state = state.Posted }

-- one more call, in a place that was spare
abbrev pub with_call : CallsView → Call → CallsView
with_call v call = record v { calls = v.calls ++ call ∷ []; spare = v.spare - 1 }

-- the ticket of the call, if there is one
abbrev pub ticket_of : Option Call → Option Ticket
ticket_of call = option_map (λ call. call.ticket) call

-- what the start of a call answers: the call, or else the oldest one that its thread posted to the box
abbrev pub start_answer : Config → Option Call → Option Call → Result Started NotNext
start_answer cfg oldest None = Err (record { next = ticket_of oldest })
start_answer cfg oldest (Some call) = Ok (started_from cfg call)

-- the ticket's call is started, and the server of the box with this number serves it
abbrev pub with_start : CallsView → ℕ → Ticket → CallsView
with_start v b ticket =
    record v { calls = with_state ticket state.Started v.calls; serving = slice_set v.serving b (Some ticket) }

-- the call that the server of the box with this number served is done with this value
abbrev pub with_finish : CallsView → ℕ → ℕ → Option Ticket → CallsView
with_finish v b value None = v
with_finish v b value (Some ticket) =
    record v { calls = with_state ticket (state.Done value) v.calls; serving = slice_set v.serving b None }

-- the caller asked for the ticket's result and got this
abbrev pub with_answer : CallsView → Ticket → Collected → CallsView
with_answer v ticket answer = record v { calls = after_asking ticket answer v.calls }
