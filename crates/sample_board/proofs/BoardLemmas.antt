-- The board is sound, whatever SRAM and heap it has.
use Rattle.std.proofs.Common.{◌≡◌, ℕ, ◌%◌, ◌≤◌, Option, refl, arith}
use Rattle.std.specs.Prelude.{IfSome}
use Rattle.std.proofs.lemmas.Bool.Decides.{nat_tests}
use Rattle.flat_model.specs.declared.boards.HeapPart.{HeapPart}
use Rattle.flat_model.specs.Sound.{AreApart, IsBoard, IsHeap}
use Rattle.sample_board.specs.Sample.{board}

sram_apart : (sram : ℕ) (heap : Option HeapPart) → AreApart (board sram heap).sram (board sram heap).flash
sram_apart sram heap a is = grind (arith, nat_tests)

peripherals_apart : (sram : ℕ) (heap : Option HeapPart) →
    AreApart (board sram heap).peripherals (board sram heap).flash
peripherals_apart sram heap a is = grind (arith, nat_tests)

peripherals_beside : (sram : ℕ) (heap : Option HeapPart) → sram ≤ 0x100000 →
    AreApart (board sram heap).peripherals (board sram heap).sram
peripherals_beside sram heap most a is = grind (arith, nat_tests)

pub IsBoard-board : (sram : ℕ) (heap : Option HeapPart) → 32 ≤ sram → sram ≤ 0x100000 → sram % 32 ≡ 0 →
    IfSome heap (IsHeap (board sram heap).sram) → IsBoard (board sram heap)
IsBoard-board sram heap least most tiled lies = record {
  flash = record { power = (20, refl); enough = omega arith; aligned = refl };
  flash_bank = record { within = omega arith; ends = omega arith };
  sram = record { enough = least; base = refl; len = tiled };
  sram_bank = record { within = most; ends = omega arith };
  sram_apart = sram_apart sram heap;
  peripherals = record { enough = omega arith; base = refl; len = refl };
  peripherals_bank = record { within = omega arith; ends = omega arith };
  peripherals_apart = peripherals_apart sram heap;
  peripherals_beside = peripherals_beside sram heap most;
  secret = (record { power = (16, refl); enough = omega arith; aligned = refl }, (omega arith, omega arith));
  words = tt;
  words_once = tt;
  heap = lies;
}
