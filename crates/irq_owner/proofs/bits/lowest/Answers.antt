use Rattle.std.proofs.Common.{arith, w64}
use Rattle.std.proofs.lemmas.Nat.Bits.{bit_at-trailing_zeros}
use Rattle.irq_owner.proofs.bits.lowest.Goals as goal

pub returns-else-word-eq0 : goal.returns-else-word-eq0
returns-else-word-eq0 c =
    let z = bit_at-trailing_zeros w64 c.args.word (omega arith) c.ranges.word.fits in
    record { within = z.0; set = z.1; below = z.2 }
