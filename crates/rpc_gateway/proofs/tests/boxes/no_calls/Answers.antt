use Rattle.std.proofs.Common.{sym, subst}
use Rattle.flat_model.specs.Sound.{IsSound}
use Rattle.rpc_gateway.proofs.SampleLemmas.{IsSound-three_boxes}
use Rattle.rpc_gateway.proofs.tests.boxes.no_calls.Goals as goal

pub new-requires : goal.new-requires
new-requires c = subst IsSound (sym c.in_ok-cfg.ensures) IsSound-three_boxes
