use Rattle.std.proofs.Common.{ℕ, None, Option, length, replicate, ap, ◌∙◌}
use Rattle.addr_base.specs.declared.identity.Ticket.{Ticket}
use Rattle.rpc_gateway.specs.Table.{TableView}
use Rattle.rpc_gateway.proofs.ServedLemmas.{AreServed-opening, AreServed-same}
use Rattle.rpc_gateway.proofs.calls.Calls.new.Goals as goal

pub invariant_of-result : goal.invariant_of-result
invariant_of-result c =
    AreServed-same _ _ _ _ _ _ (ap (λ (v : TableView). v.calls) c.in_ok-table.ensures)
    (c.in_ok-serving.ensures ∙ ap (λ (n : ℕ). replicate {A = Option Ticket} n None) c.len.ensures)
    (c.in_ok-served.ensures ∙ ap (λ (n : ℕ). replicate {A = ℕ} n 0) c.len-2.ensures)
    (AreServed-opening (length c.args.cfg.now.boxes))
