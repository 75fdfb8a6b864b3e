-- The configuration of the tests is sound.
use Rattle.std.proofs.Common.{[], ◌∷◌, refl, arith}
use Rattle.flat_model.specs.Sound.{IsSound}
use Rattle.sample_board.specs.Sample.{halting}
use Rattle.sample_board.proofs.ConfigLemmas.{IsSound-config, IsThread-halting}
use Rattle.irq_owner.specs.Sample.{shares, two_boxes}

pub IsSound-two_boxes : IsSound two_boxes
IsSound-two_boxes = IsSound-config shares (halting 0 ∷ halting 1 ∷ []) [] [] (record {
  limits = grind arith;
  boxes = (
    record { some_thread = omega arith; lines = (omega arith, (omega arith, tt)) },
    (record { some_thread = omega arith; lines = (omega arith, (omega arith, tt)) }, tt),
  );
  homes = refl;
  threads = (IsThread-halting 0, (IsThread-halting 1, tt));
  lines_once = (refl, (refl, (refl, (refl, tt))));
  gateways = tt;
  devices = tt;
})
