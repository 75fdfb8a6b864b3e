use Rattle.std.proofs.Common.{◌≡◌, ap, ◌∙◌, arith}
use Rattle.rpc_gateway.specs.Places.{first_place, lesser}
use Rattle.rpc_gateway.proofs.FindingLemmas.{all_lists-first, is_posted_below, next_list-first, no_list-first}
use Rattle.rpc_gateway.proofs.table.Table.oldest_place.Goals as goal

pub loop-list-init : goal.loop-list-init
loop-list-init c = no_list-first c.args.self.now.calls c.args.b.0

pub loop-list-preserved : goal.loop-list-preserved
loop-list-preserved c =
    c.lesser_place-oldest.ensures
    ∙ (ap (λ o. lesser o c.first_by_list.result) c.loop-list.invariant
    ∙ (ap (λ o. lesser (first_place (is_posted_below c.loop-list.list c.args.b.0) c.args.self.now.calls) o) c.first_by_list.ensures
    ∙ next_list-first c.args.self.now.calls c.loop-list.list c.args.b.0))

pub returns : goal.returns
returns c =
    let ended : c.loop-list.list ≡ 16 = omega arith in
    c.loop-list.invariant
    ∙ (ap (λ n. first_place (is_posted_below n c.args.b.0) c.args.self.now.calls) ended ∙ all_lists-first c.args.self.now.calls c.args.b.0)
