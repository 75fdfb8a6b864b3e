use Rattle.std.proofs.Common.{◌≡◌, ◌+◌, ◌<◌, ◌^◌, drop}
use Rattle.acl_resolver.specs.Naming.{set_of_names}
use Rattle.acl_resolver.proofs.gates.set_of_names.Given as goal

abbrev pub invariant-loop-i : goal.invariant-loop-i
invariant-loop-i l = (l.set < 2 ^ l.i) × (l.set + set_of_names l.i (drop l.i l.boxes) l.names ≡ set_of_names 0 l.boxes l.names)
