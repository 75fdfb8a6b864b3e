-- Words on one thread alone: its registers, its place, its steps and its mode.
use Rattle.std.specs.Prelude.{ℕ, ◌+◌, ◌%◌, ◌^◌, Bool, true, false, nat_le, ◌-◌, if◌then◌else◌, slice_index, slice_set}
use Rattle.flat_model.specs.declared.events.Mode.{Mode}
use Rattle.flat_model.specs.declared.events.Mode.TheVariants as mode
use Rattle.flat_model.specs.declared.states.ThreadState.{ThreadState}

-- a sum that wraps at 32 bits
abbrev pub sum32 : ℕ → ℕ → ℕ
sum32 x y = (x + y) % 2 ^ 32

-- a difference that wraps at 32 bits
abbrev pub difference32 : ℕ → ℕ → ℕ
difference32 x y = (x + (2 ^ 32 - y)) % 2 ^ 32

-- what a register holds
abbrev pub register : ThreadState → ℕ → ℕ
register th r = slice_index th.regs r

-- the thread with a value in a register
abbrev pub with_register : ThreadState → ℕ → ℕ → ThreadState
with_register th r value = record th { regs = slice_set th.regs r value }

-- the thread at the next place
abbrev pub moved : ThreadState → ThreadState
moved th = record th { pc = sum32 th.pc 1 }

-- the thread after a result: it is written first, and r7 then says ok
abbrev pub with_result : ThreadState → ℕ → ℕ → ThreadState
with_result th r value = moved (with_register (with_register th r value) 7 0)

-- the thread after a kernel call that gave this status
abbrev pub with_status : ThreadState → ℕ → ThreadState
with_status th status = moved (with_register th 7 status)

-- the thread after a fault: no register changes
abbrev pub faulted : ThreadState → ThreadState
faulted th = record th { mode = mode.Faulted }

-- whether the thread may run no more
abbrev pub has_ended : ThreadState → Bool
has_ended th = is_ended th.mode
  where
    is_ended : Mode → Bool
    is_ended mode.Ready = false
    is_ended mode.Waiting = false
    is_ended mode.Halted = true
    is_ended mode.Faulted = true
    is_ended mode.Spent = true

-- whether the thread waits for a call
abbrev pub is_waiting : Mode → Bool
is_waiting mode.Ready = false
is_waiting mode.Waiting = true
is_waiting mode.Halted = false
is_waiting mode.Faulted = false
is_waiting mode.Spent = false

-- the thread with one step more
abbrev pub counted : ThreadState → ThreadState
counted th = record th { steps = th.steps + 1 }

-- whether the thread stopped by itself
abbrev pub is_stopped : Mode → Bool
is_stopped mode.Ready = false
is_stopped mode.Waiting = false
is_stopped mode.Halted = true
is_stopped mode.Faulted = true
is_stopped mode.Spent = false

-- the thread after a step: it is spent where its steps are at its budget and it did not stop by itself
abbrev pub bounded : ℕ → ThreadState → ThreadState
bounded budget th =
    if is_stopped th.mode then th
    else (if nat_le budget th.steps then record th { mode = mode.Spent } else th)
