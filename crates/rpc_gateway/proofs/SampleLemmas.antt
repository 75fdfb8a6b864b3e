-- The configuration of the tests is sound.
use Rattle.std.proofs.Common.{[], refl, arith}
use Rattle.flat_model.specs.Sound.{IsSound}
use Rattle.sample_board.proofs.ConfigLemmas.{IsSound-config, IsThread-halting}
use Rattle.rpc_gateway.specs.Sample.{gates, shares, three_boxes, threads}

pub IsSound-three_boxes : IsSound three_boxes
IsSound-three_boxes = IsSound-config shares threads gates [] (record {
  limits = grind arith;
  boxes = (
    record { some_thread = omega arith; lines = tt },
    (record { some_thread = omega arith; lines = tt }, (record { some_thread = omega arith; lines = tt }, tt)),
  );
  homes = refl;
  threads = (IsThread-halting 0, (IsThread-halting 0, (IsThread-halting 1, (IsThread-halting 2, tt))));
  lines_once = tt;
  gateways = (omega arith, (omega arith, tt));
  devices = tt;
})
