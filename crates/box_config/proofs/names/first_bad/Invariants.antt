use Rattle.std.proofs.Common.{◌≡◌, drop, not}
use Rattle.flat_model.specs.First.{first_index}
use Rattle.flat_model.specs.Names.{is_name}
use Rattle.box_config.proofs.names.first_bad.Given as goal

abbrev pub invariant-loop-i : goal.invariant-loop-i
invariant-loop-i l = first_index (λ b. not (is_name b.name)) l.i (drop l.i l.boxes) ≡ first_index (λ b. not (is_name b.name)) 0 l.boxes
