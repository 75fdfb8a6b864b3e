use Rattle.std.proofs.Common.{◌≡◌, ◌++◌}
use Rattle.workload.specs.Generator.{state_after}
use Rattle.workload.specs.MadeInput.{grants_text}
use Rattle.workload.proofs.making.append_grants.Given as goal

abbrev pub invariant-grants : goal.invariant-grants
invariant-grants l = record {
  state : l.x ≡ state_after l.start l.grant;
  text : l.text.items ≡ l.fn.text.items ++ grants_text l.start l.here l.grant;
}
