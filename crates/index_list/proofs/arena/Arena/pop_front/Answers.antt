use Rattle.std.proofs.Common.{◌<◌, sym, ap, ◌∙◌, arith}
use Rattle.index_list.specs.Arena.{ArenaView, list_at, list_with}
use Rattle.index_list.proofs.Alone.{taken_alone}
use Rattle.index_list.proofs.Walks.{has_node-at, list_with-some}
use Rattle.index_list.proofs.Writes.{first_out}
use Rattle.index_list.proofs.arena.Arena.pop_front.Goals as goal

pub remove-requires : goal.remove-requires
remove-requires c =
    let lists = c.args.self.now.lists in
    let list = c.args.list in
    let first = c.in_ok-first.first in
    list_with-some lists list first (has_node-at (list_at lists list) 0 first (sym c.in_ok-first.ensures.first))

pub returns-clause-rest : goal.returns-clause-rest
returns-clause-rest c =
    c.remove.ensures
    ∙ first_out c.args.self.now c.args.list c.in_ok-first.first c.in_ok-first.ensures.known c.requires
    (sym c.in_ok-first.ensures.first)

pub returns-clause-free : goal.returns-clause-free
returns-clause-free c =
    let lists = c.args.self.now.lists in
    let list = c.args.list in
    let first = c.in_ok-first.first in
    let known = c.in_ok-first.ensures.known in
    let within : first < c.args.self.now.nodes =
    known.within list first (has_node-at (list_at lists list) 0 first (sym c.in_ok-first.ensures.first)) in (
      omega (arith, within, ap (λ (v : ArenaView). v.nodes) c.remove.ensures),
      ap (λ (v : ArenaView). list_with v.lists first) c.remove.ensures ∙ taken_alone lists first,
    )
