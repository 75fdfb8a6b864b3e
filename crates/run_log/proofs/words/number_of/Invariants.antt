use Rattle.std.proofs.Common.{◌≡◌, ◌≤◌, min, drop}
use Rattle.run_log.specs.LineWords.{number_after}
use Rattle.run_log.proofs.words.number_of.Given as goal

abbrev pub invariant-loop-b : goal.invariant-loop-b
invariant-loop-b l = record {
  capped : l.value ≤ 4294967295;
  value : min (number_after l.radix l.value (drop l.b-index l.word)) 4294967295 ≡ min (number_after l.radix 0 l.word) 4294967295;
}
