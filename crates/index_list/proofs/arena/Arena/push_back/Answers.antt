use Rattle.std.proofs.Common.{◌≡◌, ◌+◌, ◌<◌, None, length, ap, ◌∙◌, arith}
use Rattle.std.proofs.lemmas.List.{get_or_read}
use Rattle.index_list.specs.Arena.{ArenaView, list_with, with_last}
use Rattle.index_list.specs.Kept.{lists_of}
use Rattle.index_list.proofs.Changes.{last_owner}
use Rattle.index_list.proofs.Walks.{lists_is}
use Rattle.index_list.proofs.Writes.{arena_of, kept_again, put_by_writes}
use Rattle.index_list.proofs.arena.Arena.push_back.Goals as goal

pub index_mut-requires : goal.index_mut-requires
index_mut-requires c =
    let a = c.self.inside in
    let lists = lists_of a.nodes a.next.items in
    let list = c.args.list in
    let last = c.index-last.result.now in
    let same_lists = ap (λ (v : ArenaView). length v.lists) c.self.view_is in
    let below : list < length lists = omega (arith, same_lists, c.requires.list) in
    let held : a.nodes + list < length a.prev.items = omega (arith, c.self.invariant.prevs, below) in
    let last_is = get_or_read a.prev.items (a.nodes + list) last held c.index-last.ensures 0 in
    let near = last_owner a.nodes a.next.items a.prev.items a.owner.items lists list c.self.invariant below in
    omega (arith, near.1, last_is, c.self.invariant.nexts)

pub invariant_of-self : goal.invariant_of-self
invariant_of-self c =
    let a = c.self.inside in
    let lists = lists_of a.nodes a.next.items in
    let list = c.args.list in
    let node = c.args.node in
    let last = c.index-last.result.now in
    let same_nodes = ap (λ (v : ArenaView). v.nodes) c.self.view_is in
    let same_lists = ap (λ (v : ArenaView). length v.lists) c.self.view_is in
    let below : list < length lists = omega (arith, same_lists, c.requires.list) in
    let within : node < a.nodes = omega (arith, same_nodes, c.requires.node) in
    let free : list_with lists node ≡ None = ap (λ (v : ArenaView). list_with v.lists node) c.self.view_is ∙ c.requires.free in
    let held : a.nodes + list < length a.prev.items = omega (arith, c.self.invariant.prevs, below) in
    kept_again a.nodes _ _ _ _
    (put_by_writes a.nodes a.next.items a.prev.items a.owner.items lists list node last c.self.invariant below within free
    (get_or_read a.prev.items (a.nodes + list) last held c.index-last.ensures 0))

pub returns : goal.returns
returns c =
    let a = c.self.inside in
    let lists = lists_of a.nodes a.next.items in
    let list = c.args.list in
    let node = c.args.node in
    let last = c.index-last.result.now in
    let same_nodes = ap (λ (v : ArenaView). v.nodes) c.self.view_is in
    let same_lists = ap (λ (v : ArenaView). length v.lists) c.self.view_is in
    let below : list < length lists = omega (arith, same_lists, c.requires.list) in
    let within : node < a.nodes = omega (arith, same_nodes, c.requires.node) in
    let free : list_with lists node ≡ None = ap (λ (v : ArenaView). list_with v.lists node) c.self.view_is ∙ c.requires.free in
    let held : a.nodes + list < length a.prev.items = omega (arith, c.self.invariant.prevs, below) in
    ap (arena_of a.nodes) (lists_is a.nodes _ _ _ _
    (put_by_writes a.nodes a.next.items a.prev.items a.owner.items lists list node last c.self.invariant below within free
    (get_or_read a.prev.items (a.nodes + list) last held c.index-last.ensures 0)))
    ∙ ap (λ (v : ArenaView). with_last v list node) c.self.view_is
