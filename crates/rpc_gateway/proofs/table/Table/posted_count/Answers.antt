use Rattle.std.proofs.Common.{◌<◌, ap, ◌∙◌, arith}
use Rattle.std.specs.Vec.{vec_capacity}
use Rattle.flat_model.specs.Calls.{posted_count}
use Rattle.rpc_gateway.specs.Table.{TableView}
use Rattle.rpc_gateway.proofs.TableLemmas.{waiting_is}
use Rattle.rpc_gateway.proofs.table.Table.posted_count.Goals as goal

pub returns : goal.returns
returns c =
    let few : c.args.b.0 < 256 = omega arith in
    c.count_of.ensures
    ∙ (waiting_is c.self.inside.calls.items (vec_capacity c.self.inside.calls) c.self.inside.posted c.self.inside.uncollected c.self.inside.waiting c.self.inside.made c.self.invariant
    c.args.b.0 few
    ∙ ap (λ (v : TableView). posted_count c.args.b.0 v.calls) c.self.view_is)
