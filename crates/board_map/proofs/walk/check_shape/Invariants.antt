use Rattle.std.proofs.Common.{◌≡◌, drop}
use Rattle.flat_model.specs.First.{first_of}
use Rattle.toml.specs.View.{table_view}
use Rattle.board_map.specs.Shape.{pass_refusal, passes}
use Rattle.board_map.proofs.walk.check_shape.Given as goal

abbrev pub invariant-loop-pass : goal.invariant-loop-pass
invariant-loop-pass l =
    first_of (pass_refusal (table_view l.document)) (drop l.pass-index l.pass-items)
    ≡ first_of (pass_refusal (table_view l.document)) passes
