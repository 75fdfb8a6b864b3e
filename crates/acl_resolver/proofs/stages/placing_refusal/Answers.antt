use Rattle.std.proofs.Common.{◌≤◌, sym, subst, ◌∙◌}
use Rattle.flat_model.specs.Placing.{limit_of}
use Rattle.acl_resolver.specs.Refusals.{no_room, own_end}
use Rattle.acl_resolver.proofs.Due.{unless_ok}
use Rattle.acl_resolver.proofs.PlaceLemmas.{within_limit}
use Rattle.acl_resolver.proofs.stages.placing_refusal.Goals as goal

pub common_behind-requires-clause-room : goal.common_behind-requires-clause-room
common_behind-requires-clause-room c =
    let board = c.args.board.now in
    let placed = unless_ok (no_room (limit_of board) board.sram.base 0 c.args.boxes.now) (own_end board.sram.base c.args.boxes.now) c.in-Ok.end (sym c.placed_end.ensures ∙ c.in-Ok.is) in
    subst (λ end. end ≤ limit_of board) placed.1 (within_limit (limit_of board) board.sram.base 0 c.args.boxes.now c.requires.low placed.0)
