use Rattle.std.proofs.Common.{◌≡◌, [], drop, take}
use Rattle.flat_model.specs.First.{first_after}
use Rattle.box_config.specs.Names.{is_named_among}
use Rattle.box_config.proofs.names.first_twice.Given as goal

abbrev pub invariant-loop-i : goal.invariant-loop-i
invariant-loop-i l =
    first_after (λ earlier b. is_named_among b.name earlier) l.i (take l.i l.boxes) (drop l.i l.boxes)
    ≡ first_after (λ earlier b. is_named_among b.name earlier) 0 [] l.boxes
