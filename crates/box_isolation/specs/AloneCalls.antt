-- The lone machine's calls: those that its threads post and collect, and those that its server takes and answers.
-- Of the flat machine it takes the words of one thread and data types alone.
use Rattle.std.specs.Prelude.{ℕ, ◌+◌, ◌-◌, Bool, true, false, ◌&&◌, not, nat_eq, Option, Some, None, List, [], ◌∷◌, ◌++◌, if◌then◌else◌, filter, slice_index, slice_set}
use Rattle.std.specs.List.{list_any}
use Rattle.flat_model.specs.declared.events.Mode.TheVariants as mode
use Rattle.flat_model.specs.declared.events.Reply.{Reply}
use Rattle.flat_model.specs.declared.events.Reply.TheVariants as reply
use Rattle.flat_model.specs.declared.events.Started.{Started}
use Rattle.flat_model.specs.declared.states.Awaited.{Awaited}
use Rattle.flat_model.specs.declared.states.ThreadState.{ThreadState}
use Rattle.box_isolation.specs.AloneState.{Kept, Left, OpenCall, alone_by_itself, alone_done, alone_refused, alone_value}
use Rattle.box_isolation.specs.Arrivals.{Supply, supplied_result}
use Rattle.flat_model.specs.Thread.{moved, with_register, with_result, with_status}

-- what the threads share with one more call that is not collected
abbrev pub with_open : ℕ → ℕ → Kept → Kept
with_open i seq k =
    record k { calls = record k.calls { open_calls = k.calls.open_calls ++ record { thread = i; seq = seq } ∷ [] } }

-- whether the call is the one of this thread with this number
abbrev pub is_call_of : ℕ → ℕ → OpenCall → Bool
is_call_of i seq call = nat_eq call.thread i && nat_eq call.seq seq

-- whether the thread has an uncollected call of this number
abbrev pub has_open : ℕ → ℕ → Kept → Bool
has_open i seq k = list_any (is_call_of i seq) k.calls.open_calls

-- what the threads share without this thread's call of this number
abbrev pub without_open : ℕ → ℕ → Kept → Kept
without_open i seq k =
    record k { calls = record k.calls { open_calls = filter (λ call. not (is_call_of i seq call)) k.calls.open_calls } }

-- what the threads share with the server in a call, or in none
abbrev pub with_serves : Bool → Kept → Kept
with_serves serves k = record k { calls = record k.calls { serves = serves } }

-- the thread after it posted its next call, with the call's number in a register
abbrev pub alone_posted : ThreadState → ℕ → ThreadState
alone_posted th r = record (with_result th r (th.count + 1)) { count = th.count + 1 }

-- the thread with this many looks left for a call of this number
abbrev pub alone_looking : ThreadState → ℕ → ℕ → ThreadState
alone_looking th seq looks = record th { awaited = Some (record { seq = seq; looks = looks }) }

-- the thread after it posted its next call, for which it waits
abbrev pub alone_waiting : ThreadState → ℕ → ThreadState
alone_waiting th looks =
    record (alone_looking th (th.count + 1) looks) { mode = mode.Waiting; count = th.count + 1 }

-- `rpc_call` and `rpc_sync`: not allowed, full, or posted with this thread after it
abbrev pub alone_post : ℕ → Bool → Kept → ThreadState → ThreadState → Bool → Left
alone_post i room k th after false = alone_refused k th 9
alone_post i room k th after true =
    if room
    then record { kept = with_open i (th.count + 1) k; thread = after; reply = reply.Posted (th.count + 1) }
    else alone_refused k th 3

-- one look less: the last one times out
abbrev pub alone_late : ThreadState → Awaited → ThreadState × Reply
alone_late th awaited =
    if nat_eq (awaited.looks - 1) 0
    then (record (with_status (with_register th 0 awaited.seq) 1) { mode = mode.Ready; awaited = None }, reply.Status 1)
    else (alone_looking th awaited.seq (awaited.looks - 1), reply.Waiting)

-- a look for a call's result: the supplied one, or none yet
abbrev pub alone_look : ℕ → Kept → ThreadState → Awaited → Option ℕ → Left
alone_look i k th awaited None = alone_by_itself k (alone_late th awaited)
alone_look i k th awaited (Some value) = record {
  kept = without_open i awaited.seq k;
  thread = record (with_result th 0 value) { mode = mode.Ready; awaited = None };
  reply = reply.Value value;
}

-- a turn of a thread that waits for this; a thread that waits for nothing is never reached
abbrev pub alone_wait : ℕ → Kept → ThreadState → Supply → Option Awaited → Left
alone_wait i k th supply None = alone_by_itself k (th, reply.Waiting)
alone_wait i k th supply (Some awaited) = alone_look i k th awaited (supplied_result supply)

-- the supplied result of the thread's call of this number, or not yet
abbrev pub alone_answer : ℕ → Kept → ThreadState → ℕ → ℕ → Option ℕ → Left
alone_answer i k th r seq None = alone_refused k th 1
alone_answer i k th r seq (Some value) = alone_value (without_open i seq k) th r value

-- `rpc_result` of a number of the thread's own that is not collected, or of no such call
abbrev pub alone_result : ℕ → Kept → ThreadState → ℕ → ℕ → Supply → Bool → Left
alone_result i k th r seq supply true = alone_answer i k th r seq (supplied_result supply)
alone_result i k th r seq supply false = alone_refused k th 4

-- `rpc_take` as a turn: not the server, or in a call; a server in no call has no turn here, so its row is never reached
abbrev pub alone_take : Kept → ThreadState → Bool → Bool → Left
alone_take k th false serves = alone_refused k th 9
alone_take k th true true = alone_refused k th 11
alone_take k th true false = alone_refused k th 2

-- `rpc_return` by a server in a call, or by another
abbrev pub alone_return : Kept → ThreadState → Bool → Left
alone_return k th true = alone_done (with_serves false k) th
alone_return k th false = alone_refused k th 10

-- the registers of a server after it started a call: all but r6 are new
abbrev pub served_registers : List ℕ → Started → List ℕ
served_registers regs started =
    slice_set (slice_set (slice_set (slice_set (slice_set (slice_set (slice_set regs
    0 (slice_index started.args 0))
    1 (slice_index started.args 1))
    2 (slice_index started.args 2))
    3 (slice_index started.args 3))
    4 started.function)
    5 started.caller.0)
    7 0

-- the start of the supplied call, or of one that is not next
abbrev pub alone_start : Kept → ThreadState → Option Started → Left
alone_start k th None = alone_refused k th 12
alone_start k th (Some started) = record {
  kept = with_serves true k;
  thread = moved (record th { regs = served_registers th.regs started });
  reply = reply.Begun started;
}
