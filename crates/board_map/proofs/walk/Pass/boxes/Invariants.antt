use Rattle.std.proofs.Common.{◌≡◌, drop}
use Rattle.toml.specs.View.{items_view}
use Rattle.board_map.specs.Shape.{boxes_in, walk}
use Rattle.board_map.proofs.walk.Pass.boxes.Given as goal

abbrev pub invariant-loop-i : goal.invariant-loop-i
invariant-loop-i l =
    walk l.self l.totals (boxes_in l.i (items_view (drop l.i l.items)))
    ≡ walk l.self l.fn.totals (boxes_in 0 (items_view l.items))
