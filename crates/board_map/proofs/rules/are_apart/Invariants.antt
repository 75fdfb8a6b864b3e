use Rattle.std.proofs.Common.{◌≡◌, drop}
use Rattle.flat_model.specs.BoardRules.{are_apart}
use Rattle.board_map.proofs.rules.are_apart.Given as goal

abbrev pub invariant-loop-i : goal.invariant-loop-i
invariant-loop-i l = are_apart (drop l.i l.words) ≡ are_apart l.words
