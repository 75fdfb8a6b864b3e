use Rattle.std.proofs.Common.{ap, refl}
use Rattle.rpc_gateway.specs.Table.{TableView}
use Rattle.rpc_gateway.proofs.ServedLemmas.{AreServed-push, AreServed-same}
use Rattle.rpc_gateway.proofs.calls.Calls.call.Goals as goal

pub invariant_of-self : goal.invariant_of-self
invariant_of-self c =
    AreServed-same _ _ _ _ _ _ (ap (λ (v : TableView). v.calls) c.push.ensures) refl refl
    (AreServed-push c.self.inside.table.calls c.self.inside.serving c.self.inside.served c.self.invariant _)
