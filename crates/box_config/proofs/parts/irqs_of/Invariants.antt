use Rattle.std.proofs.Common.{◌≡◌, ◌++◌, drop}
use Rattle.toml.specs.View.{items_view}
use Rattle.box_config.specs.Texts.{from_tables, irq_part}
use Rattle.box_config.proofs.parts.irqs_of.Given as goal

abbrev pub invariant-loop-item : goal.invariant-loop-item
invariant-loop-item l = l.irqs.items ++ from_tables irq_part (items_view (drop l.item-index l.items)) ≡ from_tables irq_part (items_view l.items)
