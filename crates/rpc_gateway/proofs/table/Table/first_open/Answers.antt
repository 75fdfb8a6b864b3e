use Rattle.std.proofs.Common.{◌<◌, ◌≤◌, ◌&&◌, List, length, find, sym, ap, ◌∙◌, subst, arith}
use Rattle.std.specs.List.{All}
use Rattle.flat_model.specs.declared.states.Call.{Call}
use Rattle.index_list.specs.Arena.{list_at}
use Rattle.rpc_gateway.specs.Listed.{stands_in}
use Rattle.rpc_gateway.specs.Places.{first_place, passes_at}
use Rattle.rpc_gateway.specs.Sought.{fits}
use Rattle.rpc_gateway.specs.Table.{TableView, is_open, list_of_open}
use Rattle.rpc_gateway.proofs.ListedLemmas.{find-listed, length-listed, listed_within}
use Rattle.rpc_gateway.proofs.table.Table.first_open.Goals as goal

pub first_in-requires-clause-within : goal.first_in-requires-clause-within
first_in-requires-clause-within c =
    let below : c.args.own < length c.self.inside.uncollected.lists = omega (arith, c.self.invariant.open_lists, c.requires) in
    subst (λ (x : List Call). All (λ n. n < length x) (list_at c.self.inside.uncollected.lists c.args.own)) (sym c.as_slice.ensures.value)
    (listed_within is_open list_of_open c.self.inside.uncollected.lists c.self.inside.calls.items c.args.own below c.self.invariant.open_known)

pub first_in-requires-clause-few : goal.first_in-requires-clause-few
first_in-requires-clause-few c =
    let below : c.args.own < length c.self.inside.uncollected.lists = omega (arith, c.self.invariant.open_lists, c.requires) in
    subst (λ (x : List Call). length (list_at c.self.inside.uncollected.lists c.args.own) ≤ length x) (sym c.as_slice.ensures.value)
    (length-listed is_open list_of_open c.self.inside.uncollected.lists c.self.inside.calls.items c.args.own below c.self.invariant.open_known)

pub returns : goal.returns
returns c =
    let below : c.args.own < length c.self.inside.uncollected.lists = omega (arith, c.self.invariant.open_lists, c.requires) in
    c.first_in.ensures
    ∙ (ap (λ (x : List Call). find (passes_at (fits c.args.sought) x) (list_at c.self.inside.uncollected.lists c.args.own)) c.as_slice.ensures.value
    ∙ (find-listed is_open list_of_open c.self.inside.uncollected.lists c.self.inside.calls.items c.args.own (fits c.args.sought) below c.self.invariant.open_known
    ∙ ap (λ (v : TableView). first_place (λ call. stands_in is_open list_of_open c.args.own call && fits c.args.sought call) v.calls) c.self.view_is))
