-- What a contract sees of the sources in memory.
use Rattle.std.specs.Prelude.{ℕ, Bool, List, length, drop, min, ◌==◌, if◌then◌else◌}
use Rattle.std.specs.List.{list_any}
use Rattle.io_edge.specs.declared.ends.Pulled.{Pulled}
use Rattle.io_edge.specs.declared.ends.Pulled.TheVariants.{Bytes, End, Failed}
use Rattle.io_edge.specs.Counts.{next_count}

-- A source has bytes left, gives at most a piece of them in one call, and fails at the calls of these numbers. It counts its calls and its faults.
pub record SourceView : Type 0 where
  pub left : List ℕ
  pub piece : ℕ
  pub fail_at : List ℕ
  pub calls : ℕ
  pub faults : ℕ

-- whether the next call fails
abbrev pub read_fails : SourceView → Bool
read_fails source = list_any (λ number. number == next_count source.calls) source.fail_at

-- how many bytes a call gives to a buffer of this length
abbrev pub read_amount : SourceView → ℕ → ℕ
read_amount source room = min source.piece (min room (length source.left))

-- how many bytes there were, or the end
abbrev pub bytes_or_end : ℕ → Pulled
bytes_or_end amount = if amount == 0 then End else Bytes amount

-- the answer of the next call, to a buffer of this length
abbrev pub pull_of : SourceView → ℕ → Pulled
pull_of source room = if read_fails source then Failed else bytes_or_end (read_amount source room)

-- the source after a call that gave so many bytes
abbrev pub source_given : SourceView → ℕ → SourceView
source_given source amount = record source { left = drop amount source.left; calls = next_count source.calls }

-- the source after a call that failed
abbrev pub source_failed : SourceView → SourceView
source_failed source = record source { calls = next_count source.calls; faults = next_count source.faults }

-- the source after the next call, with a buffer of this length
abbrev pub source_after : SourceView → ℕ → SourceView
source_after source room = if read_fails source then source_failed source else source_given source (read_amount source room)
