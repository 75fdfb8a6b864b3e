-- The configuration of an input, or its first refusal: of its length, its text, its tables, its board, its boxes,
-- and of what the parts are resolved to.
use Rattle.std.specs.Prelude.{ℕ, nat_lt, length, List, Option, Some, None, Result, Ok, Err, if◌then◌else◌}
use Rattle.std.specs.Str.{is_utf8}
use Rattle.toml.specs.Data.{Members}
use Rattle.toml.specs.Parse.{parse_document}
use Rattle.flat_model.specs.declared.boards.Board.{Board}
use Rattle.flat_model.specs.declared.parts.Config.{Config}
use Rattle.flat_model.specs.declared.refusals.Refused.{Refused}
use Rattle.flat_model.specs.declared.refusals.Refused.TheVariants as refused
use Rattle.flat_model.specs.declared.texts.BoxText.{BoxText}
use Rattle.flat_model.specs.First.{onward, unless_refused}
use Rattle.board_map.specs.BoardText.{board_reading}
use Rattle.board_map.specs.Shape.{shape_refusal}
use Rattle.box_config.specs.Names.{boxes_reading}
use Rattle.box_config.specs.Texts.{devices_of, gates_of, script_of}
use Rattle.acl_resolver.specs.Resolve.{parts_of, resolution_of}

-- the most bytes that an input may have
abbrev pub INPUT_LIMIT : ℕ
INPUT_LIMIT = 4194304

-- the document that the bytes spell, where they spell one
abbrev pub document_of : List ℕ → Option Members
document_of bytes = if is_utf8 bytes then parse_document bytes else None

-- the value, or the refusal of a text that is no document
abbrev pub or_not_toml : Option Members → Result Members Refused
or_not_toml (Some doc) = Ok doc
or_not_toml None = Err refused.NotToml

-- the configuration of a document with this board and these boxes, or its first refusal
abbrev pub config_of_parts : Members → Board → List BoxText → Result Config Refused
config_of_parts doc board boxes = resolution_of (parts_of board boxes (gates_of doc) (devices_of doc) (script_of doc))

-- the configuration of a document, or its first refusal
unfoldable pub config_of_document : Members → Result Config Refused
config_of_document doc =
    onward (unless_refused (shape_refusal doc) doc) (λ shaped.
    onward (board_reading shaped) (λ board.
    onward (boxes_reading shaped) (config_of_parts shaped board)))

-- the configuration of an input, or its first refusal
unfoldable pub config_of : List ℕ → Result Config Refused
config_of bytes =
    if nat_lt INPUT_LIMIT (length bytes) then Err refused.TooLong
    else onward (or_not_toml (document_of bytes)) config_of_document
