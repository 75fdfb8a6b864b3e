use Rattle.std.proofs.Common.{◌≡◌, drop}
use Rattle.toml.specs.View.{table_view}
use Rattle.board_map.specs.Shape.{sections, walk}
use Rattle.board_map.proofs.walk.Pass.sections.Given as goal

abbrev pub invariant-loop-form : goal.invariant-loop-form
invariant-loop-form l =
    walk l.self l.totals (sections l.at_box (table_view l.table) (drop l.form-index l.forms))
    ≡ walk l.self l.fn.totals (sections l.at_box (table_view l.table) l.forms)
