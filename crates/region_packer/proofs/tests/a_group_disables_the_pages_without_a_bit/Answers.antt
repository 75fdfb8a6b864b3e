use Rattle.std.proofs.Common.{refl}
use Rattle.region_packer.proofs.tests.a_group_disables_the_pages_without_a_bit.Goals as goal

pub group-requires-clause-power : goal.group-requires-clause-power
group-requires-clause-power g c = (10, refl)

pub group-requires-2-clause-power : goal.group-requires-2-clause-power
group-requires-2-clause-power g c = (10, refl)
