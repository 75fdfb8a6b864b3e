use Rattle.std.proofs.Common.{◌∙◌, refl}
use Rattle.rpc_gateway.proofs.FindingLemmas.{first-by_list}
use Rattle.rpc_gateway.proofs.table.Table.first_by_list.Goals as goal

pub returns : goal.returns
returns c = c.first_posted.ensures ∙ first-by_list c.args.self.now.calls c.args.list c.args.b.0 _ refl
