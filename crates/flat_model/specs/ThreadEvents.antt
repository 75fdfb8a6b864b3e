-- What calls, deliveries and starts do to a thread.
use Rattle.std.specs.Prelude.{ℕ, ◌+◌, Some, None, List, [], ◌∷◌, slice_index, slice_set}
use Rattle.flat_model.specs.declared.events.Mode.TheVariants as mode
use Rattle.flat_model.specs.declared.events.Started.{Started}
use Rattle.flat_model.specs.declared.states.Context.{Context}
use Rattle.flat_model.specs.declared.states.ThreadState.{ThreadState}
use Rattle.flat_model.specs.Thread.{moved, with_register, with_result, with_status}

-- the thread after the result of the call that it waited for
abbrev pub woken : ThreadState → ℕ → ThreadState
woken th value = record (with_result th 0 value) { mode = mode.Ready; awaited = None }

-- the thread after the last look for a call of this number
abbrev pub timed_out : ThreadState → ℕ → ThreadState
timed_out th seq = record (with_status (with_register th 0 seq) 1) { mode = mode.Ready; awaited = None }

-- the thread with this many looks left for a call of this number
abbrev pub looking : ThreadState → ℕ → ℕ → ThreadState
looking th seq looks = record th { awaited = Some (record { seq = seq; looks = looks }) }

-- what a delivery saves of a thread
abbrev pub context_of : ThreadState → Context
context_of th = record { pc = th.pc; regs = th.regs }

-- the thread at its handler, with the line in r0
abbrev pub interrupted : ThreadState → ℕ → ℕ → ThreadState
interrupted th line handler = record (with_register th 0 line) { pc = handler }

-- the thread as it was when a line was delivered
abbrev pub resumed : ThreadState → Context → ThreadState
resumed th context = record th { pc = context.pc; regs = context.regs }

-- the thread after it posted its next call
abbrev pub posted : ThreadState → ℕ → ThreadState
posted th r = record (with_result th r (th.count + 1)) { count = th.count + 1 }

-- the thread after it posted its next call, with this many looks for its result
abbrev pub posted_and_waiting : ThreadState → ℕ → ThreadState
posted_and_waiting th looks =
    record (looking th (th.count + 1) looks) { mode = mode.Waiting; count = th.count + 1 }

-- the registers of a server after it started a call: all but r6 are new
abbrev pub started_registers : List ℕ → Started → List ℕ
started_registers regs started =
    slice_set (slice_set (slice_set (slice_set (slice_set (slice_set (slice_set regs
    0 (slice_index started.args 0))
    1 (slice_index started.args 1))
    2 (slice_index started.args 2))
    3 (slice_index started.args 3))
    4 started.function)
    5 started.caller.0)
    7 0

-- the server after it started a call
abbrev pub begun : ThreadState → Started → ThreadState
begun th started = moved (record th { regs = started_registers th.regs started })

-- a thread as it is at the start
abbrev pub opening_thread : ThreadState
opening_thread = record {
  pc = 0;
  regs = 0 ∷ 0 ∷ 0 ∷ 0 ∷ 0 ∷ 0 ∷ 0 ∷ 0 ∷ [];
  mode = mode.Ready;
  steps = 0;
  count = 0;
  awaited = None;
}
