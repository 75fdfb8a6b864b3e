use Rattle.std.proofs.Common.{◌<◌, IsSome, length, sym, ap, ◌∙◌, subst, arith}
use Rattle.std.proofs.lemmas.List.{get_or_read}
use Rattle.index_list.specs.Arena.{ArenaView, list_with, without_node}
use Rattle.index_list.specs.Kept.{lists_of}
use Rattle.index_list.proofs.Walks.{lists_is}
use Rattle.index_list.proofs.Writes.{arena_of, bounds, kept_again, taken_by_writes}
use Rattle.index_list.proofs.arena.Arena.remove.Goals as goal

pub index-before-requires : goal.index-before-requires
index-before-requires c =
    let a = c.self.inside in
    let lists = lists_of a.nodes a.next.items in
    let found = subst (λ (v : ArenaView). IsSome (list_with v.lists c.args.node)) (sym c.self.view_is) c.requires in
    let near = bounds a.nodes a.next.items a.prev.items a.owner.items lists c.args.node c.self.invariant found in
    omega (arith, near.0, c.self.invariant.prevs)

pub index-after-requires : goal.index-after-requires
index-after-requires c =
    let a = c.self.inside in
    let lists = lists_of a.nodes a.next.items in
    let found = subst (λ (v : ArenaView). IsSome (list_with v.lists c.args.node)) (sym c.self.view_is) c.requires in
    let near = bounds a.nodes a.next.items a.prev.items a.owner.items lists c.args.node c.self.invariant found in
    omega (arith, near.0, c.self.invariant.nexts)

pub index_mut-requires : goal.index_mut-requires
index_mut-requires c =
    let a = c.self.inside in
    let lists = lists_of a.nodes a.next.items in
    let found = subst (λ (v : ArenaView). IsSome (list_with v.lists c.args.node)) (sym c.self.view_is) c.requires in
    let near = bounds a.nodes a.next.items a.prev.items a.owner.items lists c.args.node c.self.invariant found in
    let held : c.args.node < length a.prev.items = omega (arith, near.0, c.self.invariant.prevs) in
    let before = get_or_read a.prev.items c.args.node c.index-before.result.now held c.index-before.ensures 0 in
    omega (arith, near.1, before, c.self.invariant.nexts)

pub index_mut-requires-2 : goal.index_mut-requires-2
index_mut-requires-2 c =
    let a = c.self.inside in
    let lists = lists_of a.nodes a.next.items in
    let found = subst (λ (v : ArenaView). IsSome (list_with v.lists c.args.node)) (sym c.self.view_is) c.requires in
    let near = bounds a.nodes a.next.items a.prev.items a.owner.items lists c.args.node c.self.invariant found in
    let held : c.args.node < length a.next.items = omega (arith, near.0, c.self.invariant.nexts) in
    let after = get_or_read a.next.items c.args.node c.index-after.result.now held c.index-after.ensures 0 in
    omega (arith, near.2, after, c.self.invariant.prevs)

pub index_mut-requires-3 : goal.index_mut-requires-3
index_mut-requires-3 c =
    let a = c.self.inside in
    let lists = lists_of a.nodes a.next.items in
    let found = subst (λ (v : ArenaView). IsSome (list_with v.lists c.args.node)) (sym c.self.view_is) c.requires in
    let near = bounds a.nodes a.next.items a.prev.items a.owner.items lists c.args.node c.self.invariant found in
    omega (arith, near.0, c.self.invariant.owners)

pub invariant_of-self : goal.invariant_of-self
invariant_of-self c =
    let a = c.self.inside in
    let lists = lists_of a.nodes a.next.items in
    let node = c.args.node in
    let before = c.index-before.result.now in
    let after = c.index-after.result.now in
    let found = subst (λ (v : ArenaView). IsSome (list_with v.lists node)) (sym c.self.view_is) c.requires in
    let near = bounds a.nodes a.next.items a.prev.items a.owner.items lists node c.self.invariant found in
    let held : node < length a.prev.items = omega (arith, near.0, c.self.invariant.prevs) in
    let held' : node < length a.next.items = omega (arith, near.0, c.self.invariant.nexts) in
    kept_again a.nodes _ _ _ _
    (taken_by_writes a.nodes a.next.items a.prev.items a.owner.items lists node before after c.self.invariant found
    (get_or_read a.prev.items node before held c.index-before.ensures 0)
    (get_or_read a.next.items node after held' c.index-after.ensures 0))

pub returns : goal.returns
returns c =
    let a = c.self.inside in
    let lists = lists_of a.nodes a.next.items in
    let node = c.args.node in
    let before = c.index-before.result.now in
    let after = c.index-after.result.now in
    let found = subst (λ (v : ArenaView). IsSome (list_with v.lists node)) (sym c.self.view_is) c.requires in
    let near = bounds a.nodes a.next.items a.prev.items a.owner.items lists node c.self.invariant found in
    let held : node < length a.prev.items = omega (arith, near.0, c.self.invariant.prevs) in
    let held' : node < length a.next.items = omega (arith, near.0, c.self.invariant.nexts) in
    ap (arena_of a.nodes) (lists_is a.nodes _ _ _ _
    (taken_by_writes a.nodes a.next.items a.prev.items a.owner.items lists node before after c.self.invariant found
    (get_or_read a.prev.items node before held c.index-before.ensures 0)
    (get_or_read a.next.items node after held' c.index-after.ensures 0)))
    ∙ ap (λ (v : ArenaView). without_node v node) c.self.view_is
