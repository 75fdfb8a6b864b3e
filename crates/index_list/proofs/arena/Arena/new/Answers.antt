use Rattle.std.proofs.Common.{[], replicate, ap, arith}
use Rattle.index_list.proofs.Changes.{IsFresh, IsKept-fresh}
use Rattle.index_list.proofs.Walks.{lists_is}
use Rattle.index_list.proofs.Writes.{arena_of, kept_again}
use Rattle.index_list.proofs.arena.Arena.new.Goals as goal

-- all places were made, and none was written since
fresh : (c : goal.After-loop-list) →
    IsFresh c.args.nodes c.args.lists c.loop-place.next.items c.loop-place.prev.items c.loop-list.owner.items
fresh c = record {
  few_nodes = omega arith;
  few_lists = omega arith;
  nexts = omega (arith, c.loop-place.invariant.nexts);
  prevs = omega (arith, c.loop-place.invariant.prevs);
  owners = omega (arith, c.loop-list.invariant.owners);
  next_itself = λ k below. c.loop-place.invariant.next_itself k (omega arith);
  prev_itself = λ k below. c.loop-place.invariant.prev_itself k (omega arith);
  free = c.loop-list.invariant.free;
  seated = λ list below. c.loop-list.invariant.seated list (omega arith);
}

pub invariant_of-result : goal.invariant_of-result
invariant_of-result c =
    kept_again c.args.nodes c.loop-place.next.items c.loop-place.prev.items c.loop-list.owner.items
    (replicate c.args.lists [])
    (IsKept-fresh c.args.nodes c.args.lists c.loop-place.next.items c.loop-place.prev.items c.loop-list.owner.items (fresh c))

pub returns : goal.returns
returns c =
    ap (arena_of c.args.nodes) (lists_is c.args.nodes c.loop-place.next.items c.loop-place.prev.items c.loop-list.owner.items
    (replicate c.args.lists [])
    (IsKept-fresh c.args.nodes c.args.lists c.loop-place.next.items c.loop-place.prev.items c.loop-list.owner.items (fresh c)))
