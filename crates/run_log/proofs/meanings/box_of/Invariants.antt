use Rattle.std.proofs.Common.{◌≡◌, ◌+◌, min, drop}
use Rattle.std.specs.List.{position_or_len}
use Rattle.std.specs.Str.{bytes_eq}
use Rattle.run_log.proofs.meanings.box_of.Given as goal

abbrev pub invariant-loop-part : goal.invariant-loop-part
invariant-loop-part l = record {
  number : l.number ≡ min l.part-index 255;
  place : l.part-index + position_or_len (λ part. bytes_eq part.name l.name) (drop l.part-index l.part-items) ≡ position_or_len (λ part. bytes_eq part.name l.name) l.part-items;
}
