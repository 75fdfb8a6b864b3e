use Rattle.std.proofs.Common.{rules}
use Rattle.atomic_pool.proofs.LinesKept.{raises_ok}
use Rattle.atomic_pool.proofs.lines.Lines.raise.Goals as goal

pub fetch_or-requires : goal.fetch_or-requires
fetch_or-requires c = (search rules, search rules, raises_ok _ _ _ _ c.seat.invariant.is c.args.line.0 _ c.requires.line (search rules))
