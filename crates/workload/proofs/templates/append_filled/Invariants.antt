use Rattle.std.proofs.Common.{◌≡◌, ◌++◌, drop}
use Rattle.workload.specs.Templates.{filled}
use Rattle.workload.proofs.templates.append_filled.Given as goal

abbrev pub invariant-bytes : goal.invariant-bytes
invariant-bytes l =
    l.text.items ++ filled l.letters (drop l.byte-index l.template) ≡ l.fn.text.items ++ filled l.letters l.template
