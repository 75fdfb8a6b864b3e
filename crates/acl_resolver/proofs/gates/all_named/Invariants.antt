use Rattle.std.proofs.Common.{◌≡◌, drop}
use Rattle.std.specs.List.{list_all}
use Rattle.acl_resolver.specs.Naming.{is_named}
use Rattle.acl_resolver.proofs.gates.all_named.Given as goal

abbrev pub invariant-loop-name : goal.invariant-loop-name
invariant-loop-name l = list_all (is_named l.boxes) (drop l.name-index l.names) ≡ list_all (is_named l.boxes) l.names
