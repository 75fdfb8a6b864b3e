use Rattle.std.proofs.Common.{◌≡◌, ◌++◌, drop, map}
use Rattle.acl_resolver.specs.Resolve.{register_gate}
use Rattle.acl_resolver.proofs.gateways.register_gates.Given as goal

abbrev pub invariant-loop-gate : goal.invariant-loop-gate
invariant-loop-gate l = l.gates.items ++ map (register_gate l.boxes) (drop l.gate-index l.registers) ≡ map (register_gate l.boxes) l.registers
