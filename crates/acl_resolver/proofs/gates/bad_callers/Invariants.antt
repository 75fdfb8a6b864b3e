use Rattle.std.proofs.Common.{◌≡◌, drop}
use Rattle.acl_resolver.specs.Refusals.{first_numbered}
use Rattle.acl_resolver.specs.Naming.{bad_callers_at}
use Rattle.acl_resolver.proofs.gates.bad_callers.Given as goal

abbrev pub invariant-loop-k : goal.invariant-loop-k
invariant-loop-k l = first_numbered (bad_callers_at l.boxes) l.k (drop l.k l.gateways) ≡ first_numbered (bad_callers_at l.boxes) 0 l.gateways
