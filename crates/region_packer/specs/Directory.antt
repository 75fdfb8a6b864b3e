-- What a contract sees of a directory: its blocks, and how many of them were looked at.
use Rattle.std.specs.Prelude.{◌≡◌, ℕ, ◌+◌, ◌-◌, ◌%◌, ◌^◌, ◌<◌, ◌≤◌, List, Some, length, map, if◌then◌else◌, nat_lt}
use Rattle.std.specs.List.{slice_get}
use Rattle.addr_base.specs.declared.pairs.Pair.{Pair}
use Rattle.addr_base.specs.Range.{ADDRESS_END, end_of}
use Rattle.flat_model.specs.declared.parts.Item.{Item}
use Rattle.flat_model.specs.Decision.{region_len}
use Rattle.flat_model.specs.Plan.{grant_pairs}
use Rattle.flat_model.specs.Sound.{IsGrantRights}
use Rattle.region_packer.specs.declared.directory.Block.{Block}

-- the blocks of a directory, and the count of probes
pub record DirectoryView : Type 0 where
  pub blocks : List Block
  pub probes : ℕ

-- the block of a region: its addresses, and its pair
abbrev pub block_of : Pair → Block
block_of pair = record { part = record { base = pair.rbar; len = region_len pair }; pair = pair }

-- the blocks of the covers of some grants, in the order of the grants
abbrev pub grant_blocks : List Item → List Block
grant_blocks grants = map block_of (grant_pairs grants)

-- each block ends where a later one begins, or before
abbrev pub IsAscending : List Block → Type 0
IsAscending blocks = (i j : ℕ) (first second : Block) → i < j → slice_get blocks i ≡ Some first
    → slice_get blocks j ≡ Some second → end_of first.part ≤ second.part.base

-- the blocks ascend, and their number has 32 bits
pub record IsOrdered (blocks : List Block) : Type 0 where
  pub ascending : IsAscending blocks
  pub few : length blocks < 2 ^ 32

-- the count after one more probe: it rises by one, or stays at the greatest of 64 bits
abbrev pub counted : ℕ → ℕ
counted probes = if nat_lt probes (2 ^ 64 - 1) then probes + 1 else probes

-- a grant that a cover can be made of
pub record IsCoverable (grant : Item) : Type 0 where
  pub base : grant.range.base % 32 ≡ 0
  pub len : grant.range.len % 32 ≡ 0
  pub ends : end_of grant.range ≤ ADDRESS_END
  pub rights : IsGrantRights grant.rights
