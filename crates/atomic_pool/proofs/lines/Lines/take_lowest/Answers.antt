use Rattle.std.proofs.Common.{rules, ◌-◌, ap}
use Rattle.atomic_pool.proofs.LinesKept.{looks_ok, takes_ok, alone_after}
use Rattle.atomic_pool.proofs.lines.Lines.take_lowest.Goals as goal

pub load-seen-requires : goal.load-seen-requires
load-seen-requires c = (search rules, search rules, looks_ok _ _ _ _ c.seat.invariant.is)

pub fetch_and-found-requires : goal.fetch_and-found-requires
fetch_and-found-requires c = (
  search rules,
  search rules,
  takes_ok _ _ _ _ (alone_after _ _ _ c.seat.invariant.is c.load-seen.ensures.2) c.lowest-bit.result _ c.lowest-bit.ensures.within (ap (λ n. 18446744073709551615 - n) c.mask-rest.ensures),
)
