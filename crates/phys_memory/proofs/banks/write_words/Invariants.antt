use Rattle.std.proofs.Common.{◌≡◌, drop}
use Rattle.flat_model.specs.Memory.{with_words}
use Rattle.phys_memory.proofs.banks.write_words.Given as goal

abbrev pub invariant-loop-word : goal.invariant-loop-word
invariant-loop-word l = record {
  same : l.banks.board ≡ l.initial.banks.board;
  left : with_words l.initial.banks.board l.initial.banks.memory l.words
      ≡ with_words l.initial.banks.board l.banks.memory (drop l.word-index l.words);
}
