use Rattle.std.proofs.Common.{◌≡◌, drop}
use Rattle.flat_model.specs.First.{first_of}
use Rattle.toml.specs.View.{table_view}
use Rattle.board_map.specs.Shape.{row_refusal}
use Rattle.board_map.proofs.walk.Pass.first_row.Given as goal

abbrev pub invariant-loop-row : goal.invariant-loop-row
invariant-loop-row l =
    first_of (row_refusal l.self l.totals l.place.spot (table_view l.place.table.now)) (drop l.row-index l.rows)
    ≡ first_of (row_refusal l.self l.totals l.place.spot (table_view l.place.table.now)) l.rows
