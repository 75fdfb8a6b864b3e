use Rattle.std.proofs.Common.{◌≡◌, ◌+◌, drop}
use Rattle.std.specs.List.{position_or_len}
use Rattle.box_program.specs.Words.{is_semicolon}
use Rattle.box_program.proofs.words.code_part.Given as goal

abbrev pub invariant-loop-i : goal.invariant-loop-i
invariant-loop-i l = l.i + position_or_len is_semicolon (drop l.i l.line) ≡ position_or_len is_semicolon l.line
