use Rattle.std.proofs.Common.{◌≡◌, ◌++◌, drop}
use Rattle.acl_resolver.specs.Naming.{rings_words}
use Rattle.acl_resolver.proofs.words.push_rings_words.Given as goal

abbrev pub invariant-loop-part : goal.invariant-loop-part
invariant-loop-part l = l.table.items ++ rings_words (drop l.part-index l.boxes) ≡ l.initial.table.items ++ rings_words l.boxes
