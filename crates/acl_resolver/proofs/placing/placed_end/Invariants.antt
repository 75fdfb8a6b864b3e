use Rattle.std.proofs.Common.{◌≡◌, ◌<◌, ◌^◌, drop}
use Rattle.flat_model.specs.First.{unless_refused}
use Rattle.flat_model.specs.Placing.{limit_of}
use Rattle.acl_resolver.specs.Refusals.{no_room, own_end}
use Rattle.acl_resolver.proofs.placing.placed_end.Given as goal

abbrev pub invariant-loop-i : goal.invariant-loop-i
invariant-loop-i l = (l.start < 2 ^ 33)
    × (unless_refused (no_room (limit_of l.board) l.start l.i (drop l.i l.boxes)) (own_end l.start (drop l.i l.boxes))
    ≡ unless_refused (no_room (limit_of l.board) l.board.sram.base 0 l.boxes) (own_end l.board.sram.base l.boxes))
