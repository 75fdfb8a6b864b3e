-- What one read or one write may answer.
use Rattle.std.specs.Prelude.{ℕ, ◌≤◌, List, ⊤}
use Rattle.std.specs.declared.option.Option.{Option}
use Rattle.std.specs.Io.KnownBytes.{IsAtEnd}
use Rattle.io_edge.specs.declared.ends.Pulled.{Pulled}
use Rattle.io_edge.specs.declared.ends.Pulled.TheVariants as pulled
use Rattle.io_edge.specs.declared.ends.Pushed.{Pushed}
use Rattle.io_edge.specs.declared.ends.Pushed.TheVariants as pushed
use Rattle.io_edge.specs.Counts.{next_count}

-- how many bytes a read gave
abbrev pub pulled_count : Pulled → ℕ
pulled_count (pulled.Bytes n) = n
pulled_count pulled.End = 0
pulled_count pulled.Failed = 0

-- how many bytes a write took
abbrev pub pushed_count : Pushed → ℕ
pushed_count (pushed.Bytes n) = n
pushed_count pushed.Failed = 0

-- a read gives from 1 byte to the room that there is, and it finds the end only where nothing is left
abbrev pub IsPull : ℕ → Option (List ℕ) → Pulled → Type 0
IsPull room left (pulled.Bytes n) = (1 ≤ n) × (n ≤ room)
IsPull room left pulled.End = IsAtEnd left
IsPull room left pulled.Failed = ⊤

-- a write takes from 1 byte to all that there are
abbrev pub IsPush : ℕ → Pushed → Type 0
IsPush offered (pushed.Bytes n) = (1 ≤ n) × (n ≤ offered)
IsPush offered pushed.Failed = ⊤

-- the count of faults after a read with this answer: one higher, or standing at the last number, where it failed, and else as before
abbrev pub faults_after_pull : ℕ → Pulled → ℕ
faults_after_pull before (pulled.Bytes n) = before
faults_after_pull before pulled.End = before
faults_after_pull before pulled.Failed = next_count before

-- the count of faults after a write with this answer: one higher, or standing at the last number, where it failed, and else as before
abbrev pub faults_after_push : ℕ → Pushed → ℕ
faults_after_push before (pushed.Bytes n) = before
faults_after_push before pushed.Failed = next_count before
