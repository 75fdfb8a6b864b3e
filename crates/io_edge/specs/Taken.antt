-- How many bytes were taken from a source.
use Rattle.std.specs.Prelude.{◌≡◌, ℕ, ◌≤◌, List, length}
use Rattle.std.specs.declared.option.Option.{Option}
use Rattle.std.specs.Io.KnownBytes.{prepend_known}

-- some n bytes were taken
abbrev pub Takes : ℕ → Option (List ℕ) → Option (List ℕ) → Type 0
Takes n before now = (bytes : List ℕ) × (length bytes ≡ n) × (before ≡ prepend_known bytes now)

-- some bytes were taken, at most n
abbrev pub TakesAtMost : ℕ → Option (List ℕ) → Option (List ℕ) → Type 0
TakesAtMost n before now = (bytes : List ℕ) × (length bytes ≤ n) × (before ≡ prepend_known bytes now)
