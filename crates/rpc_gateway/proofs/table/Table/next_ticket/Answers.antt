use Rattle.std.proofs.Common.{ℕ, ◌+◌, ◌-◌, ◌≤◌, ◌<◌, length, ap, ◌∙◌, arith}
use Rattle.std.specs.Vec.{vec_capacity}
use Rattle.addr_base.specs.declared.identity.Ticket.{Ticket}
use Rattle.rpc_gateway.specs.Calls.{call_count}
use Rattle.rpc_gateway.specs.Table.{TableView}
use Rattle.rpc_gateway.proofs.TableLemmas.{made_fits, made_is}
use Rattle.rpc_gateway.proofs.table.Table.next_ticket.Goals as goal

pub overflow_add-result : goal.overflow_add-result
overflow_add-result c =
    let few : c.args.t.0 < 256 = omega arith in
    let spare : 1 ≤ vec_capacity c.self.inside.calls - length c.self.inside.calls.items = omega (arith, ap (λ (v : TableView). v.spare) c.self.view_is, c.requires) in
    omega (
      arith,
      c.count_of-made.ensures,
      made_fits c.self.inside.calls.items (vec_capacity c.self.inside.calls) c.self.inside.posted c.self.inside.uncollected c.self.inside.waiting c.self.inside.made c.self.invariant
          c.args.t.0 few spare,
    )

pub returns : goal.returns
returns c =
    let few : c.args.t.0 < 256 = omega arith in
    ap (λ (n : ℕ). let ticket : Ticket = record { thread = c.args.t; seq = n + 1 } in ticket)
    (c.count_of-made.ensures
    ∙ (made_is c.self.inside.calls.items (vec_capacity c.self.inside.calls) c.self.inside.posted c.self.inside.uncollected c.self.inside.waiting c.self.inside.made c.self.invariant
    c.args.t.0 few
    ∙ ap (λ (v : TableView). call_count c.args.t.0 v.calls) c.self.view_is))
