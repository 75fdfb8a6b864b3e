use Rattle.std.proofs.Common.{◌≡◌, drop}
use Rattle.std.specs.List.{list_any}
use Rattle.acl_resolver.specs.Refusals.{is_line_of}
use Rattle.acl_resolver.proofs.lines.is_line_of_some.Given as goal

abbrev pub invariant-loop-part : goal.invariant-loop-part
invariant-loop-part l = list_any (is_line_of l.line) (drop l.part-index l.boxes) ≡ list_any (is_line_of l.line) l.boxes
