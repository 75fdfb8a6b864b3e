use Rattle.std.proofs.Common.{◌≡◌, ◌++◌}
use Rattle.workload.specs.Generator.{state_after}
use Rattle.workload.specs.MadeInput.{words_text}
use Rattle.workload.proofs.making.append_words.Given as goal

abbrev pub invariant-words : goal.invariant-words
invariant-words l = record {
  state : l.x ≡ state_after l.start l.word;
  text : l.text.items ≡ l.fn.text.items ++ words_text l.start l.word;
}
