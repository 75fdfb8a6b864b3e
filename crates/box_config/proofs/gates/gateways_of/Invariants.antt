use Rattle.std.proofs.Common.{◌≡◌, ◌++◌, drop}
use Rattle.toml.specs.View.{items_view}
use Rattle.box_config.specs.Texts.{from_tables, rpc_text}
use Rattle.box_config.proofs.gates.gateways_of.Given as goal

abbrev pub invariant-loop-item : goal.invariant-loop-item
invariant-loop-item l = l.gateways.items ++ from_tables rpc_text (items_view (drop l.item-index l.items)) ≡ from_tables rpc_text (items_view l.items)
