use Rattle.std.proofs.Common.{◌≡◌, drop}
use Rattle.toml.specs.View.{items_view}
use Rattle.board_map.specs.Values.{all_words}
use Rattle.board_map.proofs.values.are_words.Given as goal

abbrev pub invariant-loop-item : goal.invariant-loop-item
invariant-loop-item l = all_words (items_view (drop l.item-index l.items)) ≡ all_words (items_view l.items)
