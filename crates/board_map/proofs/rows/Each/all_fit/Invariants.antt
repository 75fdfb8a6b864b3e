use Rattle.std.proofs.Common.{◌≡◌, drop}
use Rattle.toml.specs.View.{items_view}
use Rattle.board_map.specs.Values.{all_fit}
use Rattle.board_map.proofs.rows.Each.all_fit.Given as goal

abbrev pub invariant-loop-item : goal.invariant-loop-item
invariant-loop-item l = all_fit l.self (items_view (drop l.item-index l.items)) ≡ all_fit l.self (items_view l.items)
