-- What a contract sees of an end over a stream.
use Rattle.std.specs.Prelude.{ℕ}

-- a stream, and how many of its calls failed
pub record StreamView (S : Type 0) : Type 0 where
  pub stream : S
  pub faults : ℕ
