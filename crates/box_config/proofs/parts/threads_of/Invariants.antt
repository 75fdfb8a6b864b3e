use Rattle.std.proofs.Common.{◌≡◌, ◌++◌, drop}
use Rattle.toml.specs.View.{items_view}
use Rattle.box_config.specs.Texts.{from_tables, thread_text}
use Rattle.box_config.proofs.parts.threads_of.Given as goal

abbrev pub invariant-loop-item : goal.invariant-loop-item
invariant-loop-item l = l.threads.items ++ from_tables thread_text (items_view (drop l.item-index l.items)) ≡ from_tables thread_text (items_view l.items)
