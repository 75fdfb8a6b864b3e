-- The numbers that a made input draws.
use Rattle.std.specs.Prelude.{ℕ, zero, suc, ◌+◌, ◌*◌, ◌/◌, ◌%◌, ◌^◌}

-- the state after one more draw
abbrev pub next_state : ℕ → ℕ
next_state x = (1664525 * x + 1013904223) % 2 ^ 32

-- the state after so many draws from a state
unfoldable pub state_after : ℕ → ℕ → ℕ
state_after x zero = x
state_after x (suc k) = next_state (state_after x k)

-- what a draw of four numbers gives, whose state is this
abbrev pub drawn_in : ℕ → ℕ
drawn_in x = (x / 2 ^ 16) % 4
