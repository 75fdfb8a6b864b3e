-- Inner: no public contract cites this. How many steps the threads may still take.
use Rattle.std.specs.Prelude.{ℕ, ◌+◌, ◌-◌, List, [], ◌∷◌, if◌then◌else◌}
use Rattle.flat_model.specs.declared.parts.ThreadPart.{ThreadPart}
use Rattle.flat_model.specs.declared.states.ThreadState.{ThreadState}
use Rattle.flat_model.specs.Thread.{has_ended}

-- how many steps a thread may still take
abbrev pub steps_left_of : ThreadPart → ThreadState → ℕ
steps_left_of thread th = if has_ended th then 0 else thread.steps - th.steps

-- how many steps all threads may still take
abbrev pub steps_left : List ThreadPart → List ThreadState → ℕ
steps_left [] states = 0
steps_left (thread ∷ threads) [] = 0
steps_left (thread ∷ threads) (th ∷ states) = steps_left_of thread th + steps_left threads states
