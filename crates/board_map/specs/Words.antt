-- The words that stand for rights, for a rounding and for an operation.
use Rattle.std.specs.Prelude.{ℕ, Bool, if◌then◌else◌, List, codes, Option, Some, None, is_some}
use Rattle.std.specs.Str.{bytes_eq}
use Rattle.addr_base.specs.declared.rights.Rights.{Rights}
use Rattle.addr_base.specs.Rights.{read_only, read_write, read_execute, all_rights}
use Rattle.flat_model.specs.declared.texts.Round.{Round}
use Rattle.flat_model.specs.declared.texts.Round.TheVariants as round
use Rattle.flat_model.specs.declared.parts.Op.{Op}
use Rattle.flat_model.specs.declared.parts.Op.TheVariants as op
use Rattle.board_map.specs.declared.rows.Choice.{Choice}
use Rattle.board_map.specs.declared.rows.Choice.TheVariants as choice

-- what follows the words that were tried: the value where the text is this word, or else what comes of the others
abbrev pub or_word : {T : Type 0} → List ℕ → List ℕ → T → Option T → Option T
or_word text word value others = if bytes_eq text word then Some value else others

-- the rights that a word stands for
unfoldable pub rights_of : List ℕ → Option Rights
rights_of text =
    or_word text (codes "r") read_only
    (or_word text (codes "rw") read_write
    (or_word text (codes "rx") read_execute
    (or_word text (codes "rwx") all_rights None)))

-- the rounding that a word stands for
unfoldable pub round_of : List ℕ → Option Round
round_of text =
    or_word text (codes "none") round.Plain
    (or_word text (codes "up") round.Up
    (or_word text (codes "down") round.Down None))

-- the operation that a word stands for
unfoldable pub op_of : List ℕ → Option Op
op_of text =
    or_word text (codes "read") op.Read
    (or_word text (codes "read_and") op.ReadAnd
    (or_word text (codes "write") op.Write
    (or_word text (codes "and") op.And
    (or_word text (codes "or") op.Or
    (or_word text (codes "xor") op.Xor
    (or_word text (codes "replace") op.Replace None))))))

-- whether the text is one of the words
unfoldable pub is_word : Choice → List ℕ → Bool
is_word choice.Rights text = is_some (rights_of text)
is_word choice.Round text = is_some (round_of text)
is_word choice.Op text = is_some (op_of text)
