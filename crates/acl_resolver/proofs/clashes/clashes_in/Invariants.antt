use Rattle.std.proofs.Common.{◌≡◌, drop}
use Rattle.std.specs.List.{list_any}
use Rattle.acl_resolver.specs.Refusals.{do_clash}
use Rattle.acl_resolver.proofs.clashes.clashes_in.Given as goal

abbrev pub invariant-loop-other : goal.invariant-loop-other
invariant-loop-other l = list_any (do_clash l.grant) (drop l.other-index l.part.grants) ≡ list_any (do_clash l.grant) l.part.grants
