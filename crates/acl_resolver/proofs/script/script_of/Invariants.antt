use Rattle.std.proofs.Common.{◌≡◌, ◌++◌, drop, map, Some}
use Rattle.std.specs.Prelude.{IfSome}
use Rattle.std.specs.List.{filter_map}
use Rattle.acl_resolver.specs.Refusals.{first_numbered}
use Rattle.acl_resolver.specs.Naming.{bad_word_at, word_of_text}
use Rattle.acl_resolver.proofs.script.script_of.Given as goal

abbrev pub invariant-loop-at : goal.invariant-loop-at
invariant-loop-at l = record {
  due : first_numbered (bad_word_at l.table) l.at (map (λ text. text.now) (drop l.at l.script)) ≡ first_numbered (bad_word_at l.table) 0 (map (λ text. text.now) l.script);
  known : IfSome l.last (λ known. word_of_text l.table known.text.now ≡ Some known.word);
  same : l.words.items ++ filter_map (word_of_text l.table) (map (λ text. text.now) (drop l.at l.script)) ≡ filter_map (word_of_text l.table) (map (λ text. text.now) l.script);
}
