use Rattle.std.proofs.Common.{◌≡◌, ℕ, ◌+◌, ◌<◌, ◌≤◌, ◌^◌, ◌++◌, drop, None}
use Rattle.std.specs.List.{AllByRecursion}
use Rattle.flat_model.specs.Placing.{limit_of}
use Rattle.acl_resolver.specs.Refusals.{no_room}
use Rattle.acl_resolver.specs.Resolvable.{IsBoxText, threads_of}
use Rattle.acl_resolver.specs.Resolve.{box_parts}
use Rattle.acl_resolver.proofs.boxes.box_parts.Given as goal

abbrev pub invariant-loop-part : goal.invariant-loop-part
invariant-loop-part l = record {
  low : l.start < 2 ^ 33;
  few : l.first + threads_of (drop l.part-index l.boxes) ≤ 16;
  each : AllByRecursion IsBoxText (drop l.part-index l.boxes);
  room : (i : ℕ) × (no_room (limit_of l.board) l.start i (drop l.part-index l.boxes) ≡ None);
  same : l.parts.items ++ box_parts l.board l.start l.first (drop l.part-index l.boxes) ≡ box_parts l.board l.board.sram.base 0 l.boxes;
}
