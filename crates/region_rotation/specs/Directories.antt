-- Inner: no public contract cites this.
use Rattle.std.specs.Prelude.{◌≡◌, ℕ, true, false, List, Some, None, length, if◌then◌else◌}
use Rattle.std.specs.List.{slice_get}
use Rattle.addr_base.specs.declared.pairs.Pair.{Pair}
use Rattle.addr_base.specs.declared.rights.Kind.{Kind}
use Rattle.addr_base.specs.Range.{in_range}
use Rattle.flat_model.specs.Decision.{pair_gives}
use Rattle.flat_model.specs.Plan.{first_serving}
use Rattle.region_packer.specs.declared.directory.Block.{Block}
use Rattle.region_packer.specs.Directory.{DirectoryView}
use Rattle.region_rotation.specs.declared.home.HomePairs.{HomePairs}

-- a search of the blocks answers as a walk of the pairs: the block that has an address tells what the first that serves is
pub record AnswersFor (pairs : List Pair) (blocks : List Block) : Type 0 where
  pub found : (i a : ℕ) (kind : Kind) (block : Block) → slice_get blocks i ≡ Some block → in_range block.part a ≡ true
      → first_serving a kind pairs ≡ (if pair_gives block.pair kind then Some block.pair else None)
  pub missed : (a : ℕ) (kind : Kind)
      → ((i : ℕ) (block : Block) → slice_get blocks i ≡ Some block → in_range block.part a ≡ false)
      → first_serving a kind pairs ≡ None

-- each box has a directory, which answers as a walk of its grants' regions
pub record AreDirectories (homes : List HomePairs) (directories : List DirectoryView) : Type 0 where
  pub as_many : length directories ≡ length homes
  pub answers : (b : ℕ) (home : HomePairs) (directory : DirectoryView) → slice_get homes b ≡ Some home
      → slice_get directories b ≡ Some directory → AnswersFor home.grants directory.blocks
