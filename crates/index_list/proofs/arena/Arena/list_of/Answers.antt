use Rattle.std.proofs.Common.{◌<◌, None, length, ap, ◌∙◌, arith}
use Rattle.std.proofs.lemmas.List.{get_or_default}
use Rattle.index_list.specs.Arena.{ArenaView, list_with}
use Rattle.index_list.specs.Kept.{lists_of}
use Rattle.index_list.proofs.Walks.{owner_is}
use Rattle.index_list.proofs.arena.Arena.list_of.Goals as goal

-- src/arena.rt:124:5
pub returns-clause-list : goal.returns-clause-list
returns-clause-list c =
    let a = c.self.inside in
    let same = ap (λ (v : ArenaView). v.nodes) c.self.view_is in
    let within : c.args.node < a.nodes = omega (arith, same, c.requires) in
    let held : c.args.node < length a.owner.items = omega (arith, c.self.invariant.owners, within) in
    c.index.ensures
    ∙ get_or_default a.owner.items c.args.node c.index.result.now None held
    ∙ owner_is a.nodes a.next.items a.prev.items a.owner.items (lists_of a.nodes a.next.items) c.args.node c.self.invariant within
    ∙ ap (λ (v : ArenaView). list_with v.lists c.args.node) c.self.view_is
