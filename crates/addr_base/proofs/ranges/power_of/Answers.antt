use Rattle.std.proofs.lemmas.Nat.{one_shl}
use Rattle.addr_base.proofs.ranges.power_of.Goals as goal

pub returns : goal.returns
returns c = one_shl c.args.k 32 c.requires
