use Rattle.std.proofs.Common.{◌≡◌, drop}
use Rattle.flat_model.specs.Memory as memory_words
use Rattle.flat_model.proofs.opening.write_words.Given as goal

abbrev pub invariant-loop-word : goal.invariant-loop-word
invariant-loop-word l =
    memory_words.with_words l.board l.initial.memory l.word-items
    ≡ memory_words.with_words l.board l.memory (drop l.word-index l.word-items)
