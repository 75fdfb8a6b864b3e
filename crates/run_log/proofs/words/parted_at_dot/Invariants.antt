use Rattle.std.proofs.Common.{◌≡◌, ◌+◌, drop}
use Rattle.std.specs.List.{position_or_len}
use Rattle.run_log.specs.LineWords.{is_dot}
use Rattle.run_log.proofs.words.parted_at_dot.Given as goal

abbrev pub invariant-loop-i : goal.invariant-loop-i
invariant-loop-i l = l.i + position_or_len is_dot (drop l.i l.word) ≡ position_or_len is_dot l.word
