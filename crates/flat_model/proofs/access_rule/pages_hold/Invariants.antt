use Rattle.std.proofs.Common.{◌≡◌, ◌^◌, ◌<◌, drop}
use Rattle.flat_model.specs.Access as spec
use Rattle.flat_model.proofs.access_rule.pages_hold.Given as goal

abbrev pub invariant-loop-owner : goal.invariant-loop-owner
invariant-loop-owner l = record {
  left : spec.in_pages (spec.owned_by l.home) l.heap.base l.heap.page l.a l.n l.owners
      ≡ spec.in_pages (spec.owned_by l.home) l.base l.heap.page l.a l.n (drop l.owner-index l.owners);
  same : l.page ≡ l.heap.page;
  near : l.base < 2 ^ 36;
}
