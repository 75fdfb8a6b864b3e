use Rattle.std.proofs.Common.{◌≡◌, ◌++◌, drop, map}
use Rattle.acl_resolver.specs.Resolve.{call_gate}
use Rattle.acl_resolver.proofs.gateways.call_gates.Given as goal

abbrev pub invariant-loop-gate : goal.invariant-loop-gate
invariant-loop-gate l = l.gates.items ++ map (call_gate l.boxes) (drop l.gate-index l.gateways) ≡ map (call_gate l.boxes) l.gateways
