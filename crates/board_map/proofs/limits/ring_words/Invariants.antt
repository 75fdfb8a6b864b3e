use Rattle.std.proofs.Common.{◌≡◌, ◌≤◌, ◌+◌, drop}
use Rattle.toml.specs.View.{items_view}
use Rattle.board_map.specs.Values.{ring_words}
use Rattle.board_map.proofs.limits.ring_words.Given as goal

abbrev pub invariant-loop-item : goal.invariant-loop-item
invariant-loop-item l = (l.found ≤ l.item-index) × (l.found + ring_words (items_view (drop l.item-index l.items)) ≡ ring_words (items_view l.items))
