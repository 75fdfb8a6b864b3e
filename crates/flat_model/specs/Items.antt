-- The items of a box: flash without the secret range unless it owns it, its own memory, its grants.
use Rattle.std.specs.Prelude.{ℕ, ◌-◌, Bool, nat_lt, Option, Some, None, List, [], ◌∷◌, ◌++◌, if◌then◌else◌}
use Rattle.addr_base.specs.declared.ranges.Range.{Range}
use Rattle.addr_base.specs.Range.{end_of}
use Rattle.addr_base.specs.Rights.{read_execute, read_write}
use Rattle.flat_model.specs.declared.boards.Board.{Board}
use Rattle.flat_model.specs.declared.parts.BoxPart.{BoxPart}
use Rattle.flat_model.specs.declared.parts.Item.{Item}

-- a range to read and execute, from one address up to another, where there is something between
abbrev pub code_between : ℕ → ℕ → List Item
code_between from to =
    if nat_lt from to then record { range = record { base = from; len = to - from }; rights = read_execute } ∷ []
    else []

-- flash for a box that does not own this secret range
abbrev pub flash_around : Range → Range → List Item
flash_around flash secret = code_between flash.base secret.base ++ code_between (end_of secret) (end_of flash)

-- all of flash
abbrev pub flash_whole : Range → List Item
flash_whole flash = record { range = flash; rights = read_execute } ∷ []

-- flash as a box sees it: without the secret range, unless there is none or the box owns it
abbrev pub flash_items : Range → Option Range → Bool → List Item
flash_items flash None owns = flash_whole flash
flash_items flash (Some secret) owns = if owns then flash_whole flash else flash_around flash secret

-- the items of a box on a board, in order
abbrev pub items_of : Board → BoxPart → List Item
items_of board part =
    flash_items board.flash board.secret part.secret
    ++ record { range = part.own; rights = read_write } ∷ part.grants
