-- The kernel calls that read and write a register through a gateway.
use Rattle.std.specs.Prelude.{ℕ, Option, Some, None}
use Rattle.flat_model.specs.declared.boards.Board.{Board}
use Rattle.flat_model.specs.declared.boards.Word.{Word}
use Rattle.flat_model.specs.declared.states.Memory.{Memory}
use Rattle.flat_model.specs.declared.states.Shared.{Shared}
use Rattle.flat_model.specs.declared.states.ThreadState.{ThreadState}
use Rattle.flat_model.specs.Memory.{put_word}
use Rattle.flat_model.specs.Outcome.{Outcome, done_row, refused_row, value_row}

-- memory once a gateway's word is written
abbrev pub with_gateway_word : Board → Memory → Word → Memory
with_gateway_word board memory word = put_word board memory word.at 4 word.value

-- `gw_read` of this value, or not allowed
abbrev pub gw_read_row : Shared → ThreadState → ℕ → Option ℕ → Outcome
gw_read_row m th r None = refused_row m th 9
gw_read_row m th r (Some value) = value_row m th r value

-- `gw_write` of this word, or not allowed
abbrev pub gw_write_row : Board → Shared → ThreadState → Option Word → Outcome
gw_write_row board m th None = refused_row m th 9
gw_write_row board m th (Some word) = done_row (record m { memory = with_gateway_word board m.memory word }) th
