use Rattle.std.proofs.Common.{◌≡◌, ◌++◌, drop}
use Rattle.toml.specs.View.{items_view}
use Rattle.board_map.specs.BoardText.{words_of}
use Rattle.board_map.proofs.board.words_of.Given as goal

abbrev pub invariant-loop-item : goal.invariant-loop-item
invariant-loop-item l = l.words.items ++ words_of (items_view (drop l.item-index l.items)) ≡ words_of (items_view l.items)
