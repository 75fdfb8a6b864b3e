use Rattle.std.proofs.Common.{◌≡◌, ◌++◌}
use Rattle.workload.specs.MadeInput.{gateways_text}
use Rattle.workload.proofs.making.append_gateways.Given as goal

abbrev pub invariant-gateways : goal.invariant-gateways
invariant-gateways l = l.text.items ≡ l.initial.text.items ++ gateways_text l.here
