use Rattle.std.proofs.Common.{◌≡◌, ◌++◌, drop, map}
use Rattle.toml.specs.View.{items_view}
use Rattle.box_config.specs.Texts.{strings_of}
use Rattle.box_config.proofs.texts.lent_strings.Given as goal

abbrev pub invariant-loop-item : goal.invariant-loop-item
invariant-loop-item l = map (λ text. text.now) l.texts.items ++ strings_of (items_view (drop l.item-index l.items)) ≡ strings_of (items_view l.items)
