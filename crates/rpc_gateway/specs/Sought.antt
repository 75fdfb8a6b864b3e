-- Inner: no public contract cites this. Which call is looked for in a list of places.
use Rattle.std.specs.Prelude.{Bool, ◌&&◌, nat_eq}
use Rattle.flat_model.specs.declared.states.Call.{Call}
use Rattle.flat_model.specs.Calls.{is_open_call, is_posted_to}
use Rattle.rpc_gateway.specs.declared.sought.Sought.{Sought}
use Rattle.rpc_gateway.specs.declared.sought.Sought.TheVariants as sought

-- whether the call is one that is looked for
abbrev pub fits : Sought → Call → Bool
fits (sought.To b) call = is_posted_to b.0 call
fits (sought.By t b) call = is_posted_to b.0 call && nat_eq call.ticket.thread.0 t.0
fits (sought.Open ticket) call = is_open_call ticket call
