use Rattle.std.proofs.Common.{◌+◌, ◌<◌, length, slice_get, sym, ap, ◌∙◌, arith}
use Rattle.std.proofs.lemmas.List.{get_or_read}
use Rattle.index_list.specs.Arena.{ArenaView, list_at}
use Rattle.index_list.specs.Kept.{lists_of, node_of}
use Rattle.index_list.proofs.Writes.{first_node, none_where_empty}
use Rattle.index_list.proofs.arena.Arena.front.Goals as goal

pub returns-clause-first : goal.returns-clause-first
returns-clause-first c =
    let a = c.self.inside in
    let lists = lists_of a.nodes a.next.items in
    let same_nodes = ap (λ (v : ArenaView). v.nodes) c.self.view_is in
    let same_lists = ap (λ (v : ArenaView). length v.lists) c.self.view_is in
    let below : c.args.list < length lists = omega (arith, same_lists, c.requires) in
    let held : a.nodes + c.args.list < length a.next.items = omega (arith, c.self.invariant.nexts, below) in
    let place = get_or_read a.next.items (a.nodes + c.args.list) c.index.result.now held c.index.ensures 0 in
    c.node_at.ensures ∙ ap (λ n. node_of n c.index.result.now) (sym same_nodes) ∙ ap (node_of a.nodes) place
    ∙ sym (first_node a.nodes a.next.items a.prev.items a.owner.items lists c.args.list c.self.invariant below)
    ∙ ap (λ (v : ArenaView). slice_get (list_at v.lists c.args.list) 0) c.self.view_is

pub returns-clause-none : goal.returns-clause-none
returns-clause-none c =
    none_where_empty (list_at c.args.self.now.lists c.args.list) c.node_at.result (returns-clause-first c)
