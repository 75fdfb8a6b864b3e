use Rattle.std.proofs.Common.{◌≡◌, ◌++◌, drop, map, string_bytes}
use Rattle.toml.specs.View.{items_view}
use Rattle.box_config.specs.Texts.{strings_of}
use Rattle.box_config.proofs.texts.plain_strings.Given as goal

abbrev pub invariant-loop-item : goal.invariant-loop-item
invariant-loop-item l = map string_bytes l.texts.items ++ strings_of (items_view (drop l.item-index l.items)) ≡ strings_of (items_view l.items)
