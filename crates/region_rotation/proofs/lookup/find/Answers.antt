use Rattle.std.proofs.Common.{◌+◌, ◌-◌, ◌/◌, refl, arith}
use Rattle.region_rotation.proofs.Halving.{IsHalved-left, IsHalved-right, bound-found, bound-none, grown-counted}
use Rattle.region_rotation.proofs.lookup.find.Goals as goal

pub loop-low-preserved-then-a-block : goal.loop-low-preserved-then-a-block
loop-low-preserved-then-a-block c =
    let l = c.loop-low in
    IsHalved-left c.args.dir.now l.dir c.probe-block.new.self c.args.a l.low l.high (l.low + (l.high - l.low) / 2) l.invariant c.len-high.ensures.ascending
    c.loop-low-test.true refl c.probe-block.result c.probe-block.ensures.block c.probe-block.ensures.counted c.if-a-block.true

pub loop-low-preserved : goal.loop-low-preserved
loop-low-preserved c =
    let l = c.loop-low in
    IsHalved-right c.args.dir.now l.dir c.probe-block.new.self c.args.a l.low l.high (l.low + (l.high - l.low) / 2) l.invariant c.len-high.ensures.ascending
    c.loop-low-test.true refl c.probe-block.result c.probe-block.ensures.block c.probe-block.ensures.counted (omega (arith, c.if-a-end.false, c.end.ensures))

pub returns-then-a-end-clause-grew : goal.returns-then-a-end-clause-grew
returns-then-a-end-clause-grew c =
    let l = c.loop-low in
    grown-counted c.args.dir.now l.dir c.probe-block.new.self c.args.a l.low l.high (l.low + (l.high - l.low) / 2) l.invariant c.len-high.ensures.ascending
    c.loop-low-test.true refl c.probe-block.result c.probe-block.ensures.block c.probe-block.ensures.counted

pub returns-then-a-end-clause-bound : goal.returns-then-a-end-clause-bound
returns-then-a-end-clause-bound c =
    let l = c.loop-low in
    bound-found c.args.dir.now l.dir c.probe-block.new.self c.args.a l.low l.high (l.low + (l.high - l.low) / 2) l.invariant c.len-high.ensures.ascending
    c.loop-low-test.true refl c.probe-block.result c.probe-block.ensures.block c.probe-block.ensures.counted

pub returns-clause-bound : goal.returns-clause-bound
returns-clause-bound c = bound-none c.args.dir.now c.loop-low.dir c.args.a c.loop-low.low c.loop-low.high c.loop-low.invariant
