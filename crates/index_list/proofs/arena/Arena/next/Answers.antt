use Rattle.std.proofs.Common.{◌≡◌, ◌+◌, ◌<◌, Some, None, get_or, length, slice_get, sym, ap, ◌∙◌, arith}
use Rattle.std.proofs.lemmas.List.{get_or_default, get_or_read}
use Rattle.index_list.specs.Arena.{ArenaView, list_at, list_with}
use Rattle.index_list.specs.Kept.{lists_of, node_of}
use Rattle.index_list.proofs.Walks.{has_node-at, owner_is}
use Rattle.index_list.proofs.Writes.{next_node}
use Rattle.index_list.proofs.arena.Arena.next.Goals as goal

pub returns-in_err-index-clause-follows : goal.returns-in_err-index-clause-follows
returns-in_err-index-clause-follows c list place at =
    let a = c.self.inside in
    let lists = lists_of a.nodes a.next.items in
    let same_nodes = ap (λ (v : ArenaView). v.nodes) c.self.view_is in
    let within : c.args.node < a.nodes = omega (arith, same_nodes, c.requires) in
    let held : c.args.node < length a.owner.items = omega (arith, c.self.invariant.owners, within) in
    let owner : c.index.result.now ≡ get_or a.owner.items c.args.node None =
    c.index.ensures ∙ get_or_default a.owner.items c.args.node c.index.result.now None held in
    let here : slice_get (list_at lists list) place ≡ Some c.args.node =
    ap (λ (v : ArenaView). slice_get (list_at v.lists list) place) c.self.view_is ∙ at in
    let mine = c.self.invariant.owned list c.args.node (has_node-at (list_at lists list) place c.args.node here) in
    absurd (cc (owner, mine.1, c.in_err-index.was))

pub returns-clause-follows : goal.returns-clause-follows
returns-clause-follows c list place at =
    let a = c.self.inside in
    let lists = lists_of a.nodes a.next.items in
    let same_nodes = ap (λ (v : ArenaView). v.nodes) c.self.view_is in
    let held : c.args.node < length a.next.items = omega (arith, c.self.invariant.nexts, same_nodes, c.requires) in
    let link = get_or_read a.next.items c.args.node c.index-2.result.now held c.index-2.ensures 0 in
    let here : slice_get (list_at lists list) place ≡ Some c.args.node =
    ap (λ (v : ArenaView). slice_get (list_at v.lists list) place) c.self.view_is ∙ at in
    c.node_at.ensures ∙ ap (λ n. node_of n c.index-2.result.now) (sym same_nodes) ∙ ap (node_of a.nodes) link
    ∙ sym (next_node a.nodes a.next.items a.prev.items a.owner.items lists list place c.args.node c.self.invariant here)
    ∙ ap (λ (v : ArenaView). slice_get (list_at v.lists list) (place + 1)) c.self.view_is

pub returns-clause-free : goal.returns-clause-free
returns-clause-free c free =
    let a = c.self.inside in
    let same_nodes = ap (λ (v : ArenaView). v.nodes) c.self.view_is in
    let within : c.args.node < a.nodes = omega (arith, same_nodes, c.requires) in
    let held : c.args.node < length a.owner.items = omega (arith, c.self.invariant.owners, within) in
    let owner : c.index.result.now ≡ get_or a.owner.items c.args.node None =
    c.index.ensures ∙ get_or_default a.owner.items c.args.node c.index.result.now None held in
    let none : get_or a.owner.items c.args.node None ≡ None =
    owner_is a.nodes a.next.items a.prev.items a.owner.items (lists_of a.nodes a.next.items) c.args.node c.self.invariant within
    ∙ ap (λ (v : ArenaView). list_with v.lists c.args.node) c.self.view_is ∙ free in
    absurd (cc (owner, none, c.in_ok-index.was))
