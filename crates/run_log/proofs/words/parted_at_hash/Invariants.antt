use Rattle.std.proofs.Common.{◌≡◌, ◌+◌, drop}
use Rattle.std.specs.List.{position_or_len}
use Rattle.run_log.specs.LineWords.{is_hash}
use Rattle.run_log.proofs.words.parted_at_hash.Given as goal

abbrev pub invariant-loop-i : goal.invariant-loop-i
invariant-loop-i l = l.i + position_or_len is_hash (drop l.i l.word) ≡ position_or_len is_hash l.word
