-- What the names of boxes are refused for.
use Rattle.std.specs.Prelude.{ℕ, Bool, not, List, [], Option, option_map, Result}
use Rattle.std.specs.List.{list_any}
use Rattle.std.specs.Option.{option_or}
use Rattle.std.specs.Str.{bytes_eq}
use Rattle.flat_model.specs.First.{first_after, first_index, unless_refused}
use Rattle.flat_model.specs.Names.{is_name}
use Rattle.flat_model.specs.declared.refusals.Refused.{Refused}
use Rattle.flat_model.specs.declared.refusals.Refused.TheVariants as refused
use Rattle.flat_model.specs.declared.texts.BoxText.{BoxText}
use Rattle.toml.specs.Data.{Members}
use Rattle.box_config.specs.Texts.{boxes_of}

-- one of the boxes has the name
abbrev pub is_named_among : List ℕ → List BoxText → Bool
is_named_among name boxes = list_any (λ other. bytes_eq other.name name) boxes

-- the first box whose name is bad, or else the first that has the name of an earlier one
unfoldable pub name_refusal : List BoxText → Option Refused
name_refusal boxes =
    option_or (option_map refused.BadName (first_index (λ b. not (is_name b.name)) 0 boxes))
    (option_map refused.TwiceNamed (first_after (λ earlier b. is_named_among b.name earlier) 0 [] boxes))

-- the boxes of a document, or the first of their names that is refused
unfoldable pub boxes_reading : Members → Result (List BoxText) Refused
boxes_reading doc = unless_refused (name_refusal (boxes_of doc)) (boxes_of doc)
