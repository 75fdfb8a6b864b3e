use Rattle.irq_owner.proofs.BitLemmas.{flags-without}
use Rattle.irq_owner.proofs.bits.without_bit.Goals as goal

pub returns : goal.returns
returns c = flags-without c.args.word c.args.bit c.ranges.word.fits c.requires
