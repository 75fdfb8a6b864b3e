use Rattle.std.proofs.Common.{◌≡◌, ◌+◌, sym, subst, arith}
use Rattle.index_list.specs.Arena.{ArenaView}
use Rattle.page_heap.proofs.GivenFrames.{IsFreeing, IsFreeing-all, IsFreeing-more, IsFreeing-start, next_alone}
use Rattle.page_heap.proofs.lists.all_free.Goals as goal

pub loop-next-init : goal.loop-next-init
loop-next-init c =
    IsFreeing-start c.in_ok-frames.frames c.args.count c.args.lists c.requires.lists c.in_ok-frames.ensures

pub push_back-requires-clause-free : goal.push_back-requires-clause-free
push_back-requires-clause-free c =
    next_alone c.loop-next.frames c.args.count c.loop-next.next c.loop-next.invariant

pub loop-next-preserved : goal.loop-next-preserved
loop-next-preserved c =
    subst (λ (a : ArenaView). IsFreeing a c.args.count (c.loop-next.next + 1)) (sym c.push_back.ensures)
    (IsFreeing-more c.loop-next.frames c.args.count c.loop-next.next c.loop-next.invariant)

pub returns : goal.returns
returns c =
    let all : c.loop-next.next ≡ c.args.count = omega arith in
    IsFreeing-all c.loop-next.frames c.args.count c.loop-next.next c.requires.few all c.loop-next.invariant
