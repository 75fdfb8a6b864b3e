use Rattle.std.proofs.Common.{◌≡◌, ◌+◌, ◌≤◌, ◌++◌, drop}
use Rattle.acl_resolver.specs.Naming.{threads_words}
use Rattle.acl_resolver.specs.Resolvable.{threads_of}
use Rattle.acl_resolver.proofs.words.push_threads_words.Given as goal

abbrev pub invariant-loop-part : goal.invariant-loop-part
invariant-loop-part l = (l.t + threads_of (drop l.part-index l.boxes) ≤ 16)
    × (l.table.items ++ threads_words l.t (drop l.part-index l.boxes) ≡ l.initial.table.items ++ threads_words 0 l.boxes)
