use Rattle.std.proofs.Common.{◌≡◌, drop}
use Rattle.toml.specs.View.{items_view}
use Rattle.board_map.specs.Shape.{places_in, walk}
use Rattle.board_map.proofs.walk.Pass.leaves.Given as goal

abbrev pub invariant-loop-i : goal.invariant-loop-i
invariant-loop-i l =
    walk l.self l.totals (places_in l.section.form l.section.at_box l.i (items_view (drop l.i l.items)))
    ≡ walk l.self l.fn.totals (places_in l.section.form l.section.at_box 0 (items_view l.items))
