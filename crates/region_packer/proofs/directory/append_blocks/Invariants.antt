use Rattle.std.proofs.Common.{◌≡◌, ◌++◌, map, take}
use Rattle.region_packer.specs.Directory.{block_of}
use Rattle.region_packer.proofs.directory.append_blocks.Given as goal

abbrev pub invariant-loop-pair : goal.invariant-loop-pair
invariant-loop-pair l = l.blocks.items ≡ l.initial.blocks.items ++ map block_of (take l.pair-index l.pair-items)
