-- Inner: no public contract cites this. The boxes of the tests, on the sample board.
use Rattle.std.specs.Prelude.{ℕ, List, [], ◌∷◌}
use Rattle.flat_model.specs.declared.parts.Config.{Config}
use Rattle.flat_model.specs.declared.parts.RpcGate.{RpcGate}
use Rattle.flat_model.specs.declared.parts.ThreadPart.{ThreadPart}
use Rattle.sample_board.specs.Sample.{Share, config, halting, parts}

-- s with two threads, p and q with one
abbrev pub shares : List Share
shares = record { threads = 2; irqs = [] } ∷ record { threads = 1; irqs = [] } ∷ record { threads = 1; irqs = [] } ∷ []

-- the threads of s, p and q, in order
abbrev pub threads : List ThreadPart
threads = halting 0 ∷ halting 0 ∷ halting 1 ∷ halting 2 ∷ []

-- a gateway for calls
abbrev pub gate : ℕ → ℕ → ℕ → RpcGate
gate target function callers = record { target = record { 0 = target }; function = function; callers = callers }

-- one to s, for p and q, and one to q, for s and p
abbrev pub gates : List RpcGate
gates = gate 0 7 6 ∷ gate 2 9 3 ∷ []

-- the three boxes with these gateways
abbrev pub three_boxes : Config
three_boxes = config (parts shares) threads gates []
