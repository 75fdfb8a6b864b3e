use Rattle.std.proofs.Common.{◌≡◌, ◌+◌, ◌++◌, drop}
use Rattle.acl_resolver.specs.Naming.{thread_words}
use Rattle.acl_resolver.proofs.words.push_thread_words.Given as goal

abbrev pub invariant-loop-k : goal.invariant-loop-k
invariant-loop-k l = l.table.items ++ thread_words l.name l.k (l.t + l.k) (drop l.k l.threads) ≡ l.initial.table.items ++ thread_words l.name 0 l.t l.threads
