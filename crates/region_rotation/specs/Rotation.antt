-- What a contract sees of a Rotator.
use Rattle.std.specs.Prelude.{List, map, Option}
use Rattle.flat_model.specs.declared.boards.HeapPart.{HeapPart}
use Rattle.flat_model.specs.declared.parts.BoxPart.{BoxPart}
use Rattle.flat_model.specs.declared.parts.Config.{Config}
use Rattle.flat_model.specs.Plan.{flash_pair, grant_pairs, overlay_pair, own_pair}
use Rattle.flat_model.specs.UnitRun.{UnitState}
use Rattle.region_rotation.specs.declared.home.HomePairs.{HomePairs}

-- the boxes' regions, the page heap, and the unit with the box that it was last switched to
pub record Rotation : Type 0 where
  pub homes : List HomePairs
  pub heap : Option HeapPart
  pub unit : UnitState

-- the regions of a box: the three that stand at a switch, and those that cover its grants
abbrev pub home_pairs : Config → BoxPart → HomePairs
home_pairs cfg part = record {
  flash = flash_pair cfg.board;
  own = own_pair part;
  overlay = overlay_pair cfg.board part;
  grants = grant_pairs part.grants;
}

-- the rotation of a configuration whose unit is in this state
abbrev pub rotation_of : Config → UnitState → Rotation
rotation_of cfg unit = record { homes = map (home_pairs cfg) cfg.boxes; heap = cfg.board.heap; unit = unit }
