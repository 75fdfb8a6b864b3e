use Rattle.std.proofs.Common.{◌≡◌, ◌++◌, drop}
use Rattle.toml.specs.View.{items_view}
use Rattle.box_config.specs.Texts.{lines_of}
use Rattle.box_config.proofs.devices.lines_of.Given as goal

abbrev pub invariant-loop-item : goal.invariant-loop-item
invariant-loop-item l = l.lines.items ++ lines_of (items_view (drop l.item-index l.items)) ≡ lines_of (items_view l.items)
