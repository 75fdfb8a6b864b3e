use Rattle.std.proofs.Common.{◌≡◌, drop}
use Rattle.acl_resolver.specs.Refusals.{first_numbered}
use Rattle.acl_resolver.specs.Naming.{bad_register_at}
use Rattle.acl_resolver.proofs.gates.bad_register.Given as goal

abbrev pub invariant-loop-k : goal.invariant-loop-k
invariant-loop-k l = first_numbered (bad_register_at l.board l.boxes) l.k (drop l.k l.registers) ≡ first_numbered (bad_register_at l.board l.boxes) 0 l.registers
