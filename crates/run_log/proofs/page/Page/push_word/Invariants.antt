use Rattle.std.proofs.Common.{◌≡◌, ◌+◌, ◌++◌, length, drop}
use Rattle.run_log.proofs.page.Page.push_word.Given as goal

abbrev pub invariant-loop-byte : goal.invariant-loop-byte
invariant-loop-byte g l = record {
  text : l.self ++ drop l.byte-index l.word ≡ l.fn.self ++ l.word;
  long : length l.self ≡ length l.fn.self + l.byte-index;
}
