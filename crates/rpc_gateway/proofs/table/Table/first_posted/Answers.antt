use Rattle.std.proofs.Common.{◌<◌, ◌≤◌, ◌&&◌, List, length, find, sym, ap, ◌∙◌, subst, arith}
use Rattle.std.specs.List.{All}
use Rattle.flat_model.specs.declared.states.Call.{Call}
use Rattle.index_list.specs.Arena.{list_at}
use Rattle.rpc_gateway.specs.Listed.{stands_in}
use Rattle.rpc_gateway.specs.Places.{first_place, passes_at}
use Rattle.rpc_gateway.specs.Sought.{fits}
use Rattle.rpc_gateway.specs.Table.{TableView, is_waiting, list_of_posted}
use Rattle.rpc_gateway.proofs.ListedLemmas.{find-listed, length-listed, listed_within}
use Rattle.rpc_gateway.proofs.table.Table.first_posted.Goals as goal

pub first_in-requires-clause-within : goal.first_in-requires-clause-within
first_in-requires-clause-within c =
    let below : c.args.pair < length c.self.inside.posted.lists = omega (arith, c.self.invariant.posted_lists, c.requires) in
    subst (λ (x : List Call). All (λ n. n < length x) (list_at c.self.inside.posted.lists c.args.pair)) (sym c.as_slice.ensures.value)
    (listed_within is_waiting list_of_posted c.self.inside.posted.lists c.self.inside.calls.items c.args.pair below c.self.invariant.posted_known)

pub first_in-requires-clause-few : goal.first_in-requires-clause-few
first_in-requires-clause-few c =
    let below : c.args.pair < length c.self.inside.posted.lists = omega (arith, c.self.invariant.posted_lists, c.requires) in
    subst (λ (x : List Call). length (list_at c.self.inside.posted.lists c.args.pair) ≤ length x) (sym c.as_slice.ensures.value)
    (length-listed is_waiting list_of_posted c.self.inside.posted.lists c.self.inside.calls.items c.args.pair below c.self.invariant.posted_known)

pub returns : goal.returns
returns c =
    let below : c.args.pair < length c.self.inside.posted.lists = omega (arith, c.self.invariant.posted_lists, c.requires) in
    c.first_in.ensures
    ∙ (ap (λ (x : List Call). find (passes_at (fits c.args.sought) x) (list_at c.self.inside.posted.lists c.args.pair)) c.as_slice.ensures.value
    ∙ (find-listed is_waiting list_of_posted c.self.inside.posted.lists c.self.inside.calls.items c.args.pair (fits c.args.sought) below c.self.invariant.posted_known
    ∙ ap (λ (v : TableView). first_place (λ call. stands_in is_waiting list_of_posted c.args.pair call && fits c.args.sought call) v.calls) c.self.view_is))
