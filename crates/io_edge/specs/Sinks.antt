-- What a contract sees of the sink in memory.
use Rattle.std.specs.Prelude.{ℕ, ◌-◌, Bool, ◌||◌, List, ◌++◌, length, take, min, ◌==◌, if◌then◌else◌}
use Rattle.std.specs.List.{list_any}
use Rattle.io_edge.specs.declared.ends.Pushed.{Pushed}
use Rattle.io_edge.specs.declared.ends.Pushed.TheVariants.{Bytes, Failed}
use Rattle.io_edge.specs.Counts.{next_count}

-- A sink holds bytes and has room for more, takes at most a piece of them in one call, and fails at the calls of these numbers. It counts its calls and its faults.
pub record SinkView : Type 0 where
  pub bytes : List ℕ
  pub room : ℕ
  pub piece : ℕ
  pub fail_at : List ℕ
  pub calls : ℕ
  pub faults : ℕ

-- whether the next call fails: by its number, or since no room is left
abbrev pub write_fails : SinkView → Bool
write_fails sink = list_any (λ number. number == next_count sink.calls) sink.fail_at || (sink.room == 0)

-- how many bytes a call takes of so many
abbrev pub write_amount : SinkView → ℕ → ℕ
write_amount sink offered = min sink.piece (min offered sink.room)

-- the answer of the next call, to so many bytes
abbrev pub push_of : SinkView → ℕ → Pushed
push_of sink offered = if write_fails sink then Failed else Bytes (write_amount sink offered)

-- the sink after a call that took these bytes
abbrev pub sink_given : SinkView → List ℕ → SinkView
sink_given sink bytes = record sink { bytes = sink.bytes ++ bytes; room = sink.room - length bytes; calls = next_count sink.calls }

-- the sink after a call that failed
abbrev pub sink_failed : SinkView → SinkView
sink_failed sink = record sink { calls = next_count sink.calls; faults = next_count sink.faults }

-- the sink after the next call, with this piece
abbrev pub sink_after : SinkView → List ℕ → SinkView
sink_after sink piece = if write_fails sink then sink_failed sink else sink_given sink (take (write_amount sink (length piece)) piece)
