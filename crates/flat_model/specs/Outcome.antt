-- What a row of the step gives: what the threads share, the thread, and the reply.
use Rattle.std.specs.Prelude.{ℕ}
use Rattle.flat_model.specs.declared.events.Flaw.{Flaw}
use Rattle.flat_model.specs.declared.events.Reply.{Reply}
use Rattle.flat_model.specs.declared.events.Reply.TheVariants as reply
use Rattle.flat_model.specs.declared.states.Shared.{Shared}
use Rattle.flat_model.specs.declared.states.ThreadState.{ThreadState}
use Rattle.flat_model.specs.Thread.{faulted, with_result, with_status}

-- what the threads share, the thread and the reply after a row
pub record Outcome : Type 0 where
  pub shared : Shared
  pub thread : ThreadState
  pub reply : Reply

-- nothing is shared anew: the thread and its reply
abbrev pub by_itself : Shared → ThreadState × Reply → Outcome
by_itself m row = record { shared = m; thread = row.0; reply = row.1 }

-- a kernel call that gives a status and changes nothing else
abbrev pub refused_row : Shared → ThreadState → ℕ → Outcome
refused_row m th status = record { shared = m; thread = with_status th status; reply = reply.Status status }

-- a kernel call that was done
abbrev pub done_row : Shared → ThreadState → Outcome
done_row m th = record { shared = m; thread = with_status th 0; reply = reply.Done }

-- a kernel call that gives a value into a register
abbrev pub value_row : Shared → ThreadState → ℕ → ℕ → Outcome
value_row m th r value = record { shared = m; thread = with_result th r value; reply = reply.Value value }

-- a fault: no register and nothing shared changes
abbrev pub fault_row : Shared → ThreadState → Flaw → ℕ → Outcome
fault_row m th why at = record { shared = m; thread = faulted th; reply = reply.Fault why at }
