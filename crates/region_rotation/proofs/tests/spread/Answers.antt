use Rattle.std.proofs.Common.{◌+◌, ◌*◌, ◌≤◌, sym, subst, arith}
use Rattle.std.proofs.lemmas.Nat.{mul-le}
use Rattle.addr_base.specs.Range.{ADDRESS_END}
use Rattle.region_rotation.proofs.Spreading.{IsSpread, IsSpread-more}
use Rattle.region_rotation.proofs.tests.spread.Goals as goal

pub loop-k-preserved : goal.loop-k-preserved
loop-k-preserved c =
    let up_to : (c.loop-k.k + 1) * c.args.step ≤ c.args.n * c.args.step =
    mul-le (c.loop-k.k + 1) c.args.step c.args.n c.args.step (omega (arith, c.loop-k-test.true)) (omega arith) in
    let ends : c.args.first + (c.loop-k.k + 1) * c.args.step ≤ ADDRESS_END = omega (arith, up_to, c.requires.ends) in
    subst (IsSpread c.args.first c.args.step (c.loop-k.k + 1)) (sym c.in_ok-push.ensures.items)
    (IsSpread-more c.args.first c.args.step c.loop-k.k c.loop-k.grants.items c.one_block.result c.loop-k.invariant c.requires.base c.requires.step.0 c.requires.step.1 ends c.one_block.ensures)
