use Rattle.std.proofs.Common.{◌≡◌, ◌++◌, drop}
use Rattle.toml.specs.View.{items_view}
use Rattle.box_config.specs.Texts.{from_tables, device_part}
use Rattle.box_config.proofs.devices.device_parts.Given as goal

abbrev pub invariant-loop-item : goal.invariant-loop-item
invariant-loop-item l = l.devices.items ++ from_tables device_part (items_view (drop l.item-index l.items)) ≡ from_tables device_part (items_view l.items)
