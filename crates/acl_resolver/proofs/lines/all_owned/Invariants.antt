use Rattle.std.proofs.Common.{◌≡◌, drop}
use Rattle.std.specs.List.{list_all}
use Rattle.acl_resolver.specs.Naming.{is_owned}
use Rattle.acl_resolver.proofs.lines.all_owned.Given as goal

abbrev pub invariant-loop-line : goal.invariant-loop-line
invariant-loop-line l = list_all (is_owned l.boxes) (drop l.line-index l.rings) ≡ list_all (is_owned l.boxes) l.rings
