use Rattle.std.proofs.Common.{◌≡◌, ◌++◌, drop, map}
use Rattle.acl_resolver.specs.Resolve.{grant_item}
use Rattle.acl_resolver.proofs.boxes.grant_items.Given as goal

abbrev pub invariant-loop-grant : goal.invariant-loop-grant
invariant-loop-grant l = l.items.items ++ map grant_item (drop l.grant-index l.grants) ≡ map grant_item l.grants
