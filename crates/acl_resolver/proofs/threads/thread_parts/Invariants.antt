use Rattle.std.proofs.Common.{◌≡◌, ◌++◌, drop}
use Rattle.acl_resolver.specs.Refusals.{first_numbered}
use Rattle.acl_resolver.specs.Resolve.{bad_program_of, thread_parts}
use Rattle.acl_resolver.proofs.threads.thread_parts.Given as goal

abbrev pub invariant-loop-i : goal.invariant-loop-i
invariant-loop-i l = record {
  due : first_numbered bad_program_of l.i (drop l.i l.boxes) ≡ first_numbered bad_program_of 0 l.boxes;
  same : l.parts.items ++ thread_parts l.i (drop l.i l.boxes) ≡ thread_parts 0 l.boxes;
}
