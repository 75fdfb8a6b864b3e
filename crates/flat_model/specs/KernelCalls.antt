-- What a kernel answers on calls, and what it is after each change of them.
use Rattle.std.specs.Prelude.{ℕ, Option, Some, None, List, [], ◌∷◌, ◌++◌, slice_get, slice_set}
use Rattle.std.specs.Option.{option_map}
use Rattle.addr_base.specs.declared.identity.BoxId.{BoxId}
use Rattle.addr_base.specs.declared.identity.Ticket.{Ticket}
use Rattle.flat_model.specs.declared.events.Started.{Started}
use Rattle.flat_model.specs.declared.parts.RpcGate.{RpcGate}
use Rattle.flat_model.specs.declared.states.Call.{Call}
use Rattle.flat_model.specs.declared.states.CallState.TheVariants as state
use Rattle.flat_model.specs.declared.states.Shared.{Shared}
use Rattle.flat_model.specs.CallRows.{gateway_for, started_from, with_started}
use Rattle.flat_model.specs.Calls.{next_call, with_state}
use Rattle.flat_model.specs.Kernel.{KernelState, with_shared}

-- the gateway for calls with this number, where the box may call by it
abbrev pub gateway_in : KernelState → ℕ → ℕ → Option RpcGate
gateway_in k b n = gateway_for b (slice_get k.config.gateways n)

-- a call that waits for its start
abbrev pub posted_call : Ticket → BoxId → ℕ → List ℕ → Call
posted_call ticket target function args =
    record { ticket = ticket; target = target; function = function; args = args; state = state.Posted }

-- the kernel after a call was posted
abbrev pub after_posting : KernelState → Call → KernelState
after_posting k call = with_shared k (record k.shared { calls = k.shared.calls ++ call ∷ [] })

-- what is shared after the server of the box answered the call that it serves, if it serves one
abbrev pub finished : ℕ → ℕ → Shared → Option Ticket → Shared
finished b value m None = m
finished b value m (Some ticket) =
    record m { calls = with_state ticket (state.Done value) m.calls; serving = slice_set m.serving b None }

-- the kernel after the server of the box answered the call that it serves, if it serves one
abbrev pub after_finishing : KernelState → ℕ → ℕ → Option Ticket → KernelState
after_finishing k b value served = with_shared k (finished b value k.shared served)

-- the call that the server of the box may start by this ticket, as the server gets it
abbrev pub started_in : KernelState → ℕ → Ticket → Option Started
started_in k b ticket = option_map (started_from k.config) (next_call ticket b k.shared.calls)

-- what is shared after the start of this call, or of none
abbrev pub begun_in : ℕ → Ticket → Shared → Option Call → Shared
begun_in b ticket m None = m
begun_in b ticket m (Some call) = with_started b ticket m

-- the kernel after the server of the box asked to start the ticket's call
abbrev pub after_start : KernelState → ℕ → Ticket → KernelState
after_start k b ticket = with_shared k (begun_in b ticket k.shared (next_call ticket b k.shared.calls))
