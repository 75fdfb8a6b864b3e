use Rattle.std.proofs.Common.{◌≡◌, ◌/◌, ◌%◌, ◌^◌, arith}
use Rattle.std.proofs.lemmas.Bool.Decides.{nat_tests}
use Rattle.std.proofs.lemmas.Nat.Bits.{bit_at_above}
use Rattle.register_gateway.proofs.operations.has_box.Goals as goal

pub returns-else-b-lt8 : goal.returns-else-b-lt8
returns-else-b-lt8 c =
    let gone : c.args.boxes / 2 ^ c.args.b.0 % 2 ≡ 0 = bit_at_above c.args.boxes 8 c.args.b.0 c.ranges.boxes.fits c.if-b-lt8.false in
    grind (arith, nat_tests, gone)
