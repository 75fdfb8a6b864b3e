use Rattle.std.proofs.Common.{◌≡◌, ◌+◌, ◌*◌, ◌++◌, length, drop}
use Rattle.std.specs.Prelude.{map}
use Rattle.flat_model.specs.Text.{hex_word}
use Rattle.run_log.specs.Spaced.{spaced}
use Rattle.run_log.proofs.items.push_hex_words.Given as goal

abbrev pub invariant-loop-n : goal.invariant-loop-n
invariant-loop-n l = record {
  text : l.page ++ spaced (map hex_word (drop l.n-index l.numbers)) ≡ l.fn.page ++ spaced (map hex_word l.numbers);
  long : length l.page ≡ length l.fn.page + 11 * l.n-index;
}
