use Rattle.std.proofs.Common.{◌≡◌, drop}
use Rattle.std.specs.List.{position_from}
use Rattle.acl_resolver.specs.Naming.{has_name}
use Rattle.acl_resolver.proofs.gates.box_named.Given as goal

abbrev pub invariant-loop-i : goal.invariant-loop-i
invariant-loop-i l = position_from (has_name l.name) l.i (drop l.i l.boxes) ≡ position_from (has_name l.name) 0 l.boxes
