use Rattle.std.proofs.Common.{◌≡◌, ◌++◌, drop, map, string_bytes}
use Rattle.acl_resolver.proofs.lent_texts.Given as goal

abbrev pub invariant-loop-string : goal.invariant-loop-string
invariant-loop-string l = map (λ text. text.now) l.texts.items ++ map string_bytes (drop l.string-index l.strings) ≡ map string_bytes l.strings
