use Rattle.std.proofs.Common.{◌≡◌, ◌*◌, ◌+◌, ◌%◌, arith}
use Rattle.flat_model.specs.Cover.{group_pair}
use Rattle.flat_model.proofs.PageGroups.{is_region-group}
use Rattle.flat_model.proofs.Placed.{IsPage-from}
use Rattle.region_packer.proofs.pages.group.Goals as goal

pub returns-clause-valid : goal.returns-clause-valid
returns-clause-valid c =
    let bits : 318767105 + 2 * (c.exponent_of_page.result + 2) + c.from-disabled.result * 256 % 4294967296 ≡ (group_pair c.args.base c.args.page c.args.mask).rasr =
    omega (arith, c.exponent_of_page.ensures.exact, c.from-disabled.ensures) in
    rw bits
    (is_region-group c.args.base c.args.page c.args.mask
    (IsPage-from c.args.page c.requires.power c.requires.least c.requires.most) (omega arith) c.requires.base)
