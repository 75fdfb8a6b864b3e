-- Inner: no public contract cites this. Steps are counted without passing 2 ^ 32.
use Rattle.std.specs.Prelude.{◌≡◌, ℕ, ◌+◌, ◌^◌, ◌<◌, ◌≤◌, false, Some, length, slice_get}
use Rattle.flat_model.specs.declared.parts.Config.{Config}
use Rattle.flat_model.specs.declared.parts.ThreadPart.{ThreadPart}
use Rattle.flat_model.specs.declared.states.Flat.{Flat}
use Rattle.flat_model.specs.declared.states.ThreadState.{ThreadState}
use Rattle.flat_model.specs.Acting.{call_room}
use Rattle.flat_model.specs.Calls.{calls_of}
use Rattle.flat_model.specs.StepsLeft.{steps_left}
use Rattle.flat_model.specs.Thread.{has_ended}

-- one more step of the thread can be counted, and one more of its calls
pub record CanCount (th : ThreadState) : Type 0 where
  pub steps : th.steps + 1 < 2 ^ 32
  pub calls : th.count ≤ th.steps

-- the thread has ended, or one more step and one more call of it can be counted
abbrev pub CanStep : ThreadState → Type 0
CanStep th = has_ended th ≡ false → CanCount th

-- the thread has taken fewer steps than its budget, and made no more calls than steps
pub record HasSteps (budget : ℕ) (th : ThreadState) : Type 0 where
  pub steps : th.steps < budget
  pub calls : th.count ≤ th.steps

-- the thread has ended, or has steps left
abbrev pub IsWithin : ThreadPart → ThreadState → Type 0
IsWithin thread th = has_ended th ≡ false → HasSteps thread.steps th

-- the same of every thread of a state
abbrev pub KeepsBudgets : Config → Flat → Type 0
KeepsBudgets cfg f =
    (t : ℕ) (thread : ThreadPart) (th : ThreadState) →
    slice_get cfg.threads t ≡ Some thread → slice_get f.threads t ≡ Some th → IsWithin thread th

-- each thread has made as many calls as it has counted
abbrev pub KeepsCounts : Flat → Type 0
KeepsCounts f = (t : ℕ) (th : ThreadState) → slice_get f.threads t ≡ Some th → calls_of t f.shared.calls ≡ th.count

-- each thread that may still run has steps left, its calls are counted, and there is room for those that may come
pub record CanGoOn (cfg : Config) (f : Flat) : Type 0 where
  pub budgets : KeepsBudgets cfg f
  pub counts : KeepsCounts f
  pub room : length f.shared.calls + steps_left cfg.threads f.threads ≤ call_room cfg
