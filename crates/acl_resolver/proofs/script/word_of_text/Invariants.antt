use Rattle.std.proofs.Common.{◌≡◌, drop}
use Rattle.std.specs.Prelude.{find}
use Rattle.acl_resolver.specs.Naming.{is_spelled}
use Rattle.acl_resolver.proofs.script.word_of_text.Given as goal

abbrev pub invariant-loop-spelled : goal.invariant-loop-spelled
invariant-loop-spelled l = find (is_spelled l.text) (drop l.spelled-index l.table) ≡ find (is_spelled l.text) l.table
