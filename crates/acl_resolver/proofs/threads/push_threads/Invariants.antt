use Rattle.std.proofs.Common.{◌≡◌, ◌++◌, drop, map}
use Rattle.flat_model.specs.First.{number}
use Rattle.acl_resolver.specs.Refusals.{first_numbered}
use Rattle.acl_resolver.specs.Resolve.{bad_program_at, thread_part}
use Rattle.acl_resolver.proofs.threads.push_threads.Given as goal

abbrev pub invariant-loop-j : goal.invariant-loop-j
invariant-loop-j l = record {
  due : first_numbered (bad_program_at (number l.i)) l.j (drop l.j l.threads) ≡ first_numbered (bad_program_at (number l.i)) 0 l.threads;
  same : l.parts.items ++ map (thread_part l.i) (drop l.j l.threads) ≡ l.initial.parts.items ++ map (thread_part l.i) l.threads;
}
