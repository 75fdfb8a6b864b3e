-- Inner: no public contract cites this. A configuration with everything is sound, and its run is computed.
use Rattle.std.proofs.Common.{◌≡◌, true, false, [], ◌∷◌, Some, refl}
use Rattle.std.specs.Prelude.{codes}
use Rattle.flat_model.specs.declared.instructions.Instr.TheVariants as instr
use Rattle.flat_model.specs.declared.parts.Config.{Config}
use Rattle.flat_model.specs.declared.parts.Op.TheVariants as op
use Rattle.std.proofs.Common.{arith, inl, inr}
use Rattle.std.specs.List.{AllByRecursion}
use Rattle.std.proofs.lemmas.Bool.Decides.{nat_tests}
use Rattle.flat_model.specs.Placing.{common_range}
use Rattle.flat_model.specs.Sound.{AreApart, IsBoard, IsBox, IsSound, IsThread, IsWithinLimits}
use Rattle.flat_model.proofs.RunWords.{at, is_good, item_of, lines, log_text, ring, thread_of}

-- a board with a secret range, words, a heap, three boxes, lines, gateways and devices
abbrev sensor_board : Config
sensor_board = record {
  version = 1;
  board = record {
    flash = record { base = 458752; len = 64 };
    sram = record { base = 536870912; len = 4352 };
    peripherals = record { base = 1073811456; len = 32 };
    secret = Some (record { base = 458752; len = 32 });
    words = (record { at = 458752; value = 1589831424 } ∷ record { at = 1073811460; value = 65 } ∷ []);
    heap = Some (record { base = 536875008; page = 32; count = 8 });
  };
  boxes = (
      record { name = codes "main"; own = record { base = 536870912; len = 2048 }; secret = false; first = 0; threads = 1; server = record { 0 = 0 }; items = (item_of 458784 32 5 ∷ item_of 536870912 2048 3 ∷ []); grants = ([]); irqs = ([]) } ∷
      record { name = codes "sensor"; own = record { base = 536872960; len = 512 }; secret = false; first = 1; threads = 1; server = record { 0 = 1 }; items = (item_of 458784 32 5 ∷ item_of 536872960 512 3 ∷ item_of 1073811456 32 3 ∷ []); grants = (item_of 1073811456 32 3 ∷ []); irqs = (record { line = record { 0 = 37 }; handler = 3 } ∷ []) } ∷
      record { name = codes "crypto"; own = record { base = 536873984; len = 1024 }; secret = true; first = 2; threads = 1; server = record { 0 = 2 }; items = (item_of 458752 64 5 ∷ item_of 536873984 1024 3 ∷ []); grants = ([]); irqs = ([]) } ∷ []);
  threads = (
      thread_of 0 10000 (instr.Set 0 17 ∷ instr.RpcSync 0 20 ∷ instr.Halt ∷ []) ∷
      thread_of 1 10000 (instr.Set 4 536872960 ∷ instr.IrqOn 37 ∷ instr.Jump 2 ∷ instr.Set 5 1073811456 ∷ instr.Load32 1 5 4 ∷ instr.Store32 1 4 0 ∷ instr.IrqReturn ∷ []) ∷
      thread_of 2 10000 (instr.RpcTake ∷ instr.Jnz 7 0 ∷ instr.Set 5 458752 ∷ instr.Load32 6 5 0 ∷ instr.Eor 0 0 6 ∷ instr.RpcReturn 0 ∷ instr.Jump 0 ∷ []) ∷ []);
  registers = (record { at = 1073811464; op = op.Xor; mask = 255; boxes = 5 } ∷ []);
  gateways = (record { target = record { 0 = 2 }; function = 1; callers = 1 } ∷ record { target = record { 0 = 2 }; function = 2; callers = 3 } ∷ []);
  devices = (record { rings = (record { 0 = 37 } ∷ record { 0 = 37 } ∷ record { 0 = 37 } ∷ []) } ∷ record { rings = (record { 0 = 37 } ∷ []) } ∷ []);
  script = (at 0 ∷ at 0 ∷ at 2 ∷ ring 37 ∷ at 1 ∷ at 1 ∷ at 1 ∷ at 1 ∷ at 1 ∷ at 1 ∷ at 1 ∷ at 2 ∷ at 2 ∷ at 2 ∷ at 2 ∷ at 2 ∷ at 0 ∷ at 0 ∷ at 1 ∷ []);
}

sensor_board-log : log_text sensor_board ≡ lines (
    codes "unit switch main" ∷
    codes "turn main.0 ok" ∷
    codes "turn main.0 posted 1" ∷
    codes "unit switch crypto" ∷
    codes "start crypto.0 main.0#1 ok 0x00000001 0x00000011 0x00000000 0x00000000 0x00000000" ∷
    codes "ring 37 by 0" ∷
    codes "unit switch sensor" ∷
    codes "turn sensor.0 ok" ∷
    codes "turn sensor.0 ok" ∷
    codes "turn sensor.0 irq 37" ∷
    codes "turn sensor.0 ok" ∷
    codes "unit rotate 2 0x40011000 0x13000009" ∷
    codes "unit access read 4 0x40011004 slot 2" ∷
    codes "turn sensor.0 ok 0x00000041" ∷
    codes "unit access write 4 0x20000800 slot 1" ∷
    codes "turn sensor.0 ok" ∷
    codes "turn sensor.0 ok" ∷
    codes "unit switch crypto" ∷
    codes "turn crypto.0 ok" ∷
    codes "turn crypto.0 ok" ∷
    codes "unit access read 4 0x00070000 slot 0" ∷
    codes "turn crypto.0 ok 0x5EC2E700" ∷
    codes "turn crypto.0 ok" ∷
    codes "turn crypto.0 ok" ∷
    codes "unit switch main" ∷
    codes "turn main.0 ok 0x5EC2E711" ∷
    codes "turn main.0 halted" ∷
    codes "unit switch sensor" ∷
    codes "turn sensor.0 ok" ∷
    codes "thread main.0 halted 4 0x5EC2E711 0x00000000 0x00000000 0x00000000 0x00000000 0x00000000 0x00000000 0x00000000" ∷
    codes "thread sensor.0 ready 8 0x00000000 0x00000000 0x00000000 0x00000000 0x20000800 0x00000000 0x00000000 0x00000000" ∷
    codes "thread crypto.0 ready 6 0x5EC2E711 0x00000000 0x00000000 0x00000000 0x00000001 0x00070000 0x5EC2E700 0x00000000" ∷
    [])
unfolding log_text
sensor_board-log = refl

sensor_board-good : is_good sensor_board ≡ true
unfolding is_good
sensor_board-good = refl

limits : IsWithinLimits sensor_board
limits = record {
  some_box = omega arith;
  boxes = omega arith;
  threads = omega arith;
  devices = omega arith;
  words = omega arith;
  registers = omega arith;
  gateways = omega arith;
  steps = omega arith;
  script = omega arith;
  ring_words = omega arith;
  rings = omega arith;
}

sram_apart : AreApart sensor_board.board.sram sensor_board.board.flash
sram_apart a is = grind (arith, nat_tests)

peripherals_apart : AreApart sensor_board.board.peripherals sensor_board.board.flash
peripherals_apart a is = grind (arith, nat_tests)

peripherals_beside : AreApart sensor_board.board.peripherals sensor_board.board.sram
peripherals_beside a is = grind (arith, nat_tests)

board_is : IsBoard sensor_board.board
board_is = record {
  flash = record { power = (6, refl); enough = omega arith; aligned = refl };
  flash_bank = record { within = omega arith; ends = omega arith };
  sram = record { enough = omega arith; base = refl; len = refl };
  sram_bank = record { within = omega arith; ends = omega arith };
  sram_apart = sram_apart;
  peripherals = record { enough = omega arith; base = refl; len = refl };
  peripherals_bank = record { within = omega arith; ends = omega arith };
  peripherals_apart = peripherals_apart;
  peripherals_beside = peripherals_beside;
  secret = (record { power = (5, refl); enough = omega arith; aligned = refl }, (omega arith, omega arith));
  words = (record { aligned = refl; placed = refl }, (record { aligned = refl; placed = refl }, tt));
  words_once = (refl, (refl, tt));
  heap = record {
    power = (5, refl);
    least_page = omega arith;
    greatest_page = omega arith;
    eights = refl;
    least_count = omega arith;
    greatest_count = omega arith;
    aligned = refl;
    low = omega arith;
    high = omega arith;
  };
}

boxes_are : AllByRecursion (IsBox sensor_board.board (common_range sensor_board.board sensor_board.boxes)) sensor_board.boxes
boxes_are = (
  record { name = refl; items = refl; grants = tt; grants_apart = tt; few_grants = omega arith; lines = tt },
  (
    record {
      name = refl;
      items = refl;
      grants = (record { tiled = record { enough = omega arith; base = refl; len = refl }; rights = inr (inl refl); placed = inl (omega arith, omega arith) }, tt);
      grants_apart = (tt, tt);
      few_grants = omega arith;
      lines = (omega arith, tt);
    },
    (
      record { name = refl; items = refl; grants = tt; grants_apart = tt; few_grants = omega arith; lines = tt },
      tt,
    ),
  ),
)

threads_are : AllByRecursion IsThread sensor_board.threads
threads_are = (
  record {
    some_step = omega arith;
    few_steps = omega arith;
    short = omega arith;
    valid = ((omega arith, omega arith), ((omega arith, (omega arith, omega arith)), (tt, tt)));
  },
  (
    record {
      some_step = omega arith;
      few_steps = omega arith;
      short = omega arith;
      valid = (
        (omega arith, omega arith),
        (
          omega arith,
          (
            omega arith,
            (
              (omega arith, omega arith),
              ((omega arith, omega arith, omega arith), ((omega arith, omega arith, omega arith), (tt, tt))),
            ),
          ),
        ),
      );
    },
    (
      record {
        some_step = omega arith;
        few_steps = omega arith;
        short = omega arith;
        valid = (
          tt,
          (
            (omega arith, omega arith),
            (
              (omega arith, omega arith),
              (
                (omega arith, omega arith, omega arith),
                ((omega arith, omega arith, omega arith), (omega arith, (omega arith, tt))),
              ),
            ),
          ),
        );
      },
      tt,
    ),
  ),
)

sound : IsSound sensor_board
sound = record {
  limits = limits;
  board = board_is;
  names_once = (refl, (refl, (refl, tt)));
  boxes = boxes_are;
  numbered = (refl, omega arith, omega arith, omega arith, (refl, omega arith, omega arith, omega arith, (refl, omega arith, omega arith, omega arith, tt)));
  homes = refl;
  threads = threads_are;
  placed = (
    record { power = (11, refl); enough = omega arith; aligned = refl; not_below = omega arith; least = omega arith },
    (
      record { power = (9, refl); enough = omega arith; aligned = refl; not_below = omega arith; least = omega arith },
      (record { power = (10, refl); enough = omega arith; aligned = refl; not_below = omega arith; least = omega arith }, tt),
    ),
  );
  room = omega arith;
  one_owner = omega arith;
  lines_once = (refl, tt);
  registers = (record { aligned = refl; placed = refl }, tt);
  gateways = (omega arith, (omega arith, tt));
  devices = ((refl, (refl, (refl, tt))), ((refl, tt), tt));
  script = (
    omega arith,
    (
      omega arith,
      (
        omega arith,
        (
          refl,
          (
            omega arith,
            (
              omega arith,
              (
                omega arith,
                (
                  omega arith,
                  (
                    omega arith,
                    (
                      omega arith,
                      (
                        omega arith,
                        (
                          omega arith,
                          (
                            omega arith,
                            (
                              omega arith,
                              (
                                omega arith,
                                (
                                  omega arith,
                                  (omega arith, (omega arith, (omega arith, tt))),
                                ),
                              ),
                            ),
                          ),
                        ),
                      ),
                    ),
                  ),
                ),
              ),
            ),
          ),
        ),
      ),
    ),
  );
}
