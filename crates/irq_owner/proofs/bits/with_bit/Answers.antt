use Rattle.irq_owner.proofs.BitLemmas.{flags-with}
use Rattle.irq_owner.proofs.bits.with_bit.Goals as goal

pub returns : goal.returns
returns c = flags-with c.args.word c.args.bit c.requires
