use Rattle.std.proofs.Common.{◌≡◌, drop}
use Rattle.box_config.specs.Names.{is_named_among}
use Rattle.box_config.proofs.names.is_named_among.Given as goal

abbrev pub invariant-loop-other : goal.invariant-loop-other
invariant-loop-other l = is_named_among l.name (drop l.other-index l.boxes) ≡ is_named_among l.name l.boxes
