-- Calls: posting, taking, answering and collecting them, looking for a result, and a server's start of one.
use Rattle.std.specs.Prelude.{ℕ, ◌+◌, ◌-◌, Bool, true, false, nat_eq, unwrap_or, Option, Some, None, List, [], ◌∷◌, ◌++◌, take, if◌then◌else◌, slice_get, slice_set}
use Rattle.std.specs.Option.{option_map_or}
use Rattle.addr_base.specs.declared.identity.BoxId.{BoxId}
use Rattle.addr_base.specs.declared.identity.Ticket.{Ticket}
use Rattle.flat_model.specs.declared.actors.Who.{Who}
use Rattle.flat_model.specs.declared.events.Collected.{Collected}
use Rattle.flat_model.specs.declared.events.Collected.TheVariants as got
use Rattle.flat_model.specs.declared.events.Reply.{Reply}
use Rattle.flat_model.specs.declared.events.Reply.TheVariants as reply
use Rattle.flat_model.specs.declared.events.Started.{Started}
use Rattle.flat_model.specs.declared.parts.BoxPart.{BoxPart}
use Rattle.flat_model.specs.declared.parts.Config.{Config}
use Rattle.flat_model.specs.declared.parts.RpcGate.{RpcGate}
use Rattle.flat_model.specs.declared.states.Awaited.{Awaited}
use Rattle.flat_model.specs.declared.states.Call.{Call}
use Rattle.flat_model.specs.declared.states.CallState.TheVariants as state
use Rattle.flat_model.specs.declared.states.Shared.{Shared}
use Rattle.flat_model.specs.declared.states.ThreadState.{ThreadState}
use Rattle.flat_model.specs.Calls.{next_call, with_collected, with_state}
use Rattle.flat_model.specs.Outcome.{Outcome, by_itself, done_row, refused_row, value_row}
use Rattle.flat_model.specs.Registers.{has_box}
use Rattle.flat_model.specs.ThreadEvents.{begun, looking, timed_out, woken}

-- the gateway for calls, where the box with this number may call by it
abbrev pub gateway_for : ℕ → Option RpcGate → Option RpcGate
gateway_for b None = None
gateway_for b (Some gate) = if has_box gate.callers b then Some gate else None

-- the ticket of this number of the acting thread
abbrev pub own_ticket : Who → ℕ → Ticket
own_ticket who seq = record { thread = who.thread; seq = seq }

-- whether the acting thread is its box's server
abbrev pub is_server : Who → BoxPart → Bool
is_server who part = nat_eq who.thread.0 part.server.0

-- the call that the server of the box with this number serves
abbrev pub served_ticket : List (Option Ticket) → ℕ → Option Ticket
served_ticket serving b = unwrap_or (slice_get serving b) None

-- the call that the acting thread serves
abbrev pub serving_of : Who → BoxPart → List (Option Ticket) → Option Ticket
serving_of who part serving = if is_server who part then served_ticket serving who.home.0 else None

-- the thread's next call by a gateway, with its registers r0 to r3
abbrev pub call_by : Who → ThreadState → RpcGate → Call
call_by who th gate = record {
  ticket = own_ticket who (th.count + 1);
  target = gate.target;
  function = gate.function;
  args = take 4 th.regs;
  state = state.Posted;
}

-- `rpc_call` and `rpc_sync`: not allowed, full, or posted with this thread after it
abbrev pub rpc_post_row : Who → Shared → ThreadState → ThreadState → Option RpcGate → Outcome
rpc_post_row who m th after None = refused_row m th 9
rpc_post_row who m th after (Some gate) =
    if who.room
    then record { shared = record m { calls = m.calls ++ call_by who th gate ∷ [] }; thread = after; reply = reply.Posted (th.count + 1) }
    else refused_row m th 3

-- `rpc_take` as a turn: not the server, or in a call; a server in no call has no turn here, so its row is never reached
abbrev pub rpc_take_row : Shared → ThreadState → Bool → Option Ticket → Outcome
rpc_take_row m th false serving = refused_row m th 9
rpc_take_row m th true (Some ticket) = refused_row m th 11
rpc_take_row m th true None = refused_row m th 2

-- `rpc_return` of a value by a thread that serves this call, or none
abbrev pub rpc_return_row : ℕ → Shared → ThreadState → ℕ → Option Ticket → Outcome
rpc_return_row b m th v None = refused_row m th 10
rpc_return_row b m th v (Some ticket) =
    done_row (record m { calls = with_state ticket (state.Done v) m.calls; serving = slice_set m.serving b None }) th

-- what the threads share once the ticket's result was collected
abbrev pub after_collecting : Ticket → Shared → Shared
after_collecting ticket m = record m { calls = with_collected ticket m.calls }

-- `rpc_result` of the thread's call with this ticket
abbrev pub rpc_result_row : Shared → ThreadState → ℕ → Ticket → Collected → Outcome
rpc_result_row m th r ticket got.NoSuch = refused_row m th 4
rpc_result_row m th r ticket got.Waiting = refused_row m th 1
rpc_result_row m th r ticket (got.Done value) = value_row (after_collecting ticket m) th r value

-- one look less for a call's result: the last one times out
abbrev pub no_result_row : ThreadState → Awaited → ThreadState × Reply
no_result_row th awaited =
    if nat_eq (awaited.looks - 1) 0 then (timed_out th awaited.seq, reply.Status 1)
    else (looking th awaited.seq (awaited.looks - 1), reply.Waiting)

-- a look for a call's result, which is there or not yet
abbrev pub look_row : Who → Shared → ThreadState → Awaited → Collected → Outcome
look_row who m th awaited got.NoSuch = by_itself m (no_result_row th awaited)
look_row who m th awaited got.Waiting = by_itself m (no_result_row th awaited)
look_row who m th awaited (got.Done value) = record {
  shared = after_collecting (own_ticket who awaited.seq) m;
  thread = woken th value;
  reply = reply.Value value;
}

-- the box of the thread with this number
abbrev pub home_of : Config → ℕ → BoxId
home_of cfg t = option_map_or (λ thread. thread.home) (slice_get cfg.threads t) (record { 0 = 0 })

-- a call as its server gets it
abbrev pub started_from : Config → Call → Started
started_from cfg call = record { function = call.function; args = call.args; caller = home_of cfg call.ticket.thread.0 }

-- what the threads share once the server of the box with this number started the ticket's call
abbrev pub with_started : ℕ → Ticket → Shared → Shared
with_started b ticket m =
    record m { calls = with_state ticket state.Started m.calls; serving = slice_set m.serving b (Some ticket) }

-- the start of this call, or of one that is not next
abbrev pub start_row : Config → ℕ → Shared → ThreadState → Ticket → Option Call → Outcome
start_row cfg b m th ticket None = refused_row m th 12
start_row cfg b m th ticket (Some call) = record {
  shared = with_started b ticket m;
  thread = begun th (started_from cfg call);
  reply = reply.Begun (started_from cfg call);
}

-- what a server's event does, once its step is counted: the start of a call, or an idle look
abbrev pub server_row : Config → ℕ → Shared → ThreadState → Option Ticket → Outcome
server_row cfg b m th None = refused_row m th 2
server_row cfg b m th (Some ticket) = start_row cfg b m th ticket (next_call ticket b m.calls)
