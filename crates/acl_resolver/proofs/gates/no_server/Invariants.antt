use Rattle.std.proofs.Common.{◌≡◌, drop}
use Rattle.acl_resolver.specs.Refusals.{first_numbered}
use Rattle.acl_resolver.specs.Naming.{no_server_at}
use Rattle.acl_resolver.proofs.gates.no_server.Given as goal

abbrev pub invariant-loop-k : goal.invariant-loop-k
invariant-loop-k l = first_numbered (no_server_at l.boxes) l.k (drop l.k l.gateways) ≡ first_numbered (no_server_at l.boxes) 0 l.gateways
