use Rattle.std.proofs.Common.{◌≡◌, drop}
use Rattle.std.specs.List.{list_any}
use Rattle.acl_resolver.specs.Refusals.{do_overlap}
use Rattle.acl_resolver.proofs.clashes.overlaps_one.Given as goal

abbrev pub invariant-loop-other : goal.invariant-loop-other
invariant-loop-other l = list_any (do_overlap l.grant) (drop l.other-index l.earlier) ≡ list_any (do_overlap l.grant) l.earlier
