use Rattle.std.proofs.Common.{arith, w64}
use Rattle.std.proofs.lemmas.Nat.Bits.{bit_at-trailing_zeros}
use Rattle.atomic_pool.proofs.bits.lowest.Goals as goal

pub returns-clause-lowest : goal.returns-clause-lowest
returns-clause-lowest c =
    let z = bit_at-trailing_zeros w64 c.args.word (omega arith) c.ranges.word.fits in (z.1, z.2)
