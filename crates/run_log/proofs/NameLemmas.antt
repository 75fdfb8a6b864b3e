-- Names are short.
use Rattle.std.proofs.Common.{◌≡◌, ℕ, zero, suc, ◌≤◌, Bool, true, false, List, [], ◌∷◌, length, refl, arith}
use Rattle.std.specs.Prelude.{nat_le, slice_get, ◌&&◌}
use Rattle.std.specs.List.{AllByRecursion, list_all}
use Rattle.std.specs.Option.{option_map_or}
use Rattle.std.proofs.lemmas.Bool.{leb-true}
use Rattle.flat_model.specs.Names.{is_lower, is_name, is_name_byte}
use Rattle.flat_model.specs.Sound.{IsBox, IsSound}
use Rattle.flat_model.specs.Placing.{common_range}
use Rattle.flat_model.specs.Text.{box_name}
use Rattle.flat_model.specs.declared.boards.Board.{Board}
use Rattle.flat_model.specs.declared.parts.BoxPart.{BoxPart}
use Rattle.flat_model.specs.declared.parts.Config.{Config}
use Rattle.addr_base.specs.declared.ranges.Range.{Range}

short_from : (a b c : Bool) (n : ℕ) → nat_le n 15 ≡ b → (a && b && c) ≡ true → n ≤ 15
short_from true true c n e h = leb-true n 15 e
short_from true false c n e h = cc
short_from false b c n e h = cc

-- a name has at most 16 bytes
pub name_short : (name : List ℕ) → is_name name ≡ true → length name ≤ 16
name_short [] h = omega arith
name_short (byte ∷ bytes) h =
    let few : length bytes ≤ 15 = short_from (is_lower byte) (nat_le (length bytes) 15) (list_all is_name_byte bytes) (length bytes) refl h in
    omega (arith, few)

parts_short : (board : Board) (common : Range) (parts : List BoxPart) → AllByRecursion (IsBox board common) parts → (b : ℕ)
    → length (option_map_or (λ part. part.name) (slice_get parts b) []) ≤ 16
parts_short board common [] each b = omega arith
parts_short board common (part ∷ parts) each zero = name_short part.name each.0.name
parts_short board common (part ∷ parts) each (suc b) = parts_short board common parts each.1 b

-- a name of a sound configuration has at most 16 bytes
pub box_name_short : (cfg : Config) (b : ℕ) → IsSound cfg → length (box_name cfg b) ≤ 16
box_name_short cfg b sound = parts_short cfg.board (common_range cfg.board cfg.boxes) cfg.boxes sound.boxes b
