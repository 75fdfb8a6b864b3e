-- The boards of the tests are sound.
use Rattle.std.proofs.Common.{Some, None, refl, arith}
use Rattle.flat_model.specs.Sound.{IsBoard}
use Rattle.sample_board.specs.Sample.{board}
use Rattle.sample_board.proofs.BoardLemmas.{IsBoard-board}

-- 8 pages of 1,024 bytes
pub sound_kibibytes : IsBoard (board 131072 (Some (record { base = 536903680; page = 1024; count = 8 })))
sound_kibibytes = IsBoard-board 131072 (Some (record { base = 536903680; page = 1024; count = 8 })) (omega arith) (omega arith) refl (record {
  power = (10, refl);
  least_page = omega arith;
  greatest_page = omega arith;
  eights = refl;
  least_count = omega arith;
  greatest_count = omega arith;
  aligned = refl;
  low = omega arith;
  high = omega arith;
})

-- 256 pages of 32 bytes
pub sound_smallest : IsBoard (board 131072 (Some (record { base = 536903680; page = 32; count = 256 })))
sound_smallest = IsBoard-board 131072 (Some (record { base = 536903680; page = 32; count = 256 })) (omega arith) (omega arith) refl (record {
  power = (5, refl);
  least_page = omega arith;
  greatest_page = omega arith;
  eights = refl;
  least_count = omega arith;
  greatest_count = omega arith;
  aligned = refl;
  low = omega arith;
  high = omega arith;
})

-- 8 pages of 65,536 bytes, up to the end of SRAM
pub sound_greatest : IsBoard (board 1048576 (Some (record { base = 537395200; page = 65536; count = 8 })))
sound_greatest = IsBoard-board 1048576 (Some (record { base = 537395200; page = 65536; count = 8 })) (omega arith) (omega arith) refl (record {
  power = (16, refl);
  least_page = omega arith;
  greatest_page = omega arith;
  eights = refl;
  least_count = omega arith;
  greatest_count = omega arith;
  aligned = refl;
  low = omega arith;
  high = omega arith;
})

-- no heap
pub sound_without : IsBoard (board 131072 None)
sound_without = IsBoard-board 131072 None (omega arith) (omega arith) refl tt
