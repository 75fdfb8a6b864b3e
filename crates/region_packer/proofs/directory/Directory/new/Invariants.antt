use Rattle.std.proofs.Common.{◌≡◌, take}
use Rattle.region_packer.specs.Directory.{grant_blocks}
use Rattle.region_packer.proofs.directory.Directory.new.Given as goal

abbrev pub invariant-loop-grant : goal.invariant-loop-grant
invariant-loop-grant l = l.blocks.items ≡ grant_blocks (take l.grant-index l.grant-items)
