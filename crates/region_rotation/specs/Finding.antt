-- What a search of a directory finds.
use Rattle.std.specs.Prelude.{◌≡◌, ℕ, true, List, Some}
use Rattle.std.specs.List.{slice_get}
use Rattle.addr_base.specs.Range.{in_range}
use Rattle.region_packer.specs.declared.directory.Block.{Block}

-- there is a block of this number, and its part has the address
abbrev pub HasAt : List Block → ℕ → ℕ → Type 0
HasAt blocks a i = (block : Block) × (slice_get blocks i ≡ Some block) × (in_range block.part a ≡ true)
