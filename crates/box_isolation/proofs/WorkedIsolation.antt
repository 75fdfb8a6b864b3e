-- Inner: no public contract cites this. What a box gets, computed in the run and by the box alone, on a small board.
use Rattle.std.proofs.Common.{◌≡◌, false, List, [], ◌∷◌, map, Some, None, refl, arith, inl, inr}
use Rattle.std.specs.Prelude.{codes}
use Rattle.std.specs.List.{AllByRecursion}
use Rattle.std.proofs.lemmas.Bool.Decides.{nat_tests}
use Rattle.flat_model.specs.declared.events.Logged.TheVariants as item
use Rattle.flat_model.specs.declared.events.Reply.{Reply}
use Rattle.flat_model.specs.declared.events.Reply.TheVariants as reply
use Rattle.flat_model.specs.declared.instructions.Instr.TheVariants as instr
use Rattle.flat_model.specs.declared.logs.Log.{Log}
use Rattle.flat_model.specs.declared.parts.BoxPart.{BoxPart}
use Rattle.flat_model.specs.declared.parts.Config.{Config}
use Rattle.flat_model.specs.declared.parts.Op.TheVariants as op
use Rattle.box_isolation.specs.Alone.{lone_replies}
use Rattle.box_isolation.specs.Isolation.{replies_to_box}
use Rattle.flat_model.specs.Memory.{byte_at, put_byte}
use Rattle.flat_model.specs.OneLog.{entries_of_run}
use Rattle.box_isolation.specs.Part.{addresses_of, part_of}
use Rattle.flat_model.specs.Placing.{common_range}
use Rattle.box_isolation.specs.Reach.{reach_of}
use Rattle.flat_model.specs.Run.{opening_state}
use Rattle.flat_model.specs.Script.{choice_of_word, script_choices}
use Rattle.flat_model.specs.Sound.{AreApart, IsBoard, IsBox, IsSound, IsThread, IsWithinLimits}
use Rattle.flat_model.specs.Step.{step}
use Rattle.flat_model.proofs.RunWords.{at, item_of, ring, thread_of}

-- the box that is looked at: it shares a grant, has a line, and may call and read a register
abbrev main : BoxPart
main = record { name = codes "main"; own = record { base = 536870912; len = 256 }; secret = false; first = 0; threads = 1; server = record { 0 = 0 }; items = (item_of 0 32 5 ∷ item_of 536870912 256 3 ∷ item_of 536871424 32 3 ∷ []); grants = (item_of 536871424 32 3 ∷ []); irqs = (record { line = record { 0 = 5 }; handler = 11 } ∷ []) }

-- two boxes that share a grant, with a heap, a line, register gateways and a call
abbrev two_boxes : Config
two_boxes = record {
  version = 1;
  board = record {
    flash = record { base = 0; len = 32 };
    sram = record { base = 536870912; len = 1024 };
    peripherals = record { base = 1073741824; len = 32 };
    secret = None;
    words = ([]);
    heap = Some (record { base = 536871680; page = 32; count = 8 });
  };
  boxes = (
      main ∷
      record { name = codes "other"; own = record { base = 536871168; len = 256 }; secret = false; first = 1; threads = 1; server = record { 0 = 1 }; items = (item_of 0 32 5 ∷ item_of 536871168 256 3 ∷ item_of 536871424 32 3 ∷ []); grants = (item_of 536871424 32 3 ∷ []); irqs = ([]) } ∷ []);
  threads = (
      thread_of 0 100 (instr.Set 0 20 ∷ instr.RpcCall 4 0 ∷ instr.Set 5 536871424 ∷ instr.Load32 1 5 0 ∷ instr.GwRead 2 0 ∷ instr.Set 1 1 ∷ instr.Set 2 536870912 ∷ instr.PagesAlloc 1 2 ∷ instr.RpcResult 3 4 ∷ instr.IrqOn 5 ∷ instr.Halt ∷ instr.IrqReturn ∷ []) ∷
      thread_of 1 100 (instr.RpcTake ∷ instr.Set 6 42 ∷ instr.RpcReturn 6 ∷ instr.Set 5 536871424 ∷ instr.Store32 6 5 0 ∷ instr.GwWrite 6 1 ∷ instr.Halt ∷ []) ∷ []);
  registers = (record { at = 1073741828; op = op.Read; mask = 0; boxes = 1 } ∷ record { at = 1073741828; op = op.Write; mask = 0; boxes = 2 } ∷ []);
  gateways = (record { target = record { 0 = 1 }; function = 7; callers = 1 } ∷ []);
  devices = ([]);
  script = (at 0 ∷ at 0 ∷ at 1 ∷ at 1 ∷ at 1 ∷ at 1 ∷ at 1 ∷ at 1 ∷ at 0 ∷ at 0 ∷ at 0 ∷ at 0 ∷ at 0 ∷ at 0 ∷ at 0 ∷ at 0 ∷ ring 5 ∷ at 0 ∷ at 0 ∷ at 0 ∷ []);
}

-- the entries of its script
abbrev two_boxes_log : Log
two_boxes_log = record { items = map item.Core (entries_of_run two_boxes (opening_state two_boxes) (script_choices two_boxes)); ends = [] }

-- what the box gets: its call's number, the stored word, the register's word, a page, the result, its line
abbrev replies_there : List Reply
replies_there =
    reply.Done ∷ reply.Posted 1 ∷ reply.Done ∷ reply.Value 42 ∷ reply.Value 42 ∷ reply.Done ∷ reply.Done ∷
    reply.Given (record { n = 1; list = 0 ∷ 0 ∷ 0 ∷ 0 ∷ 0 ∷ 0 ∷ 0 ∷ 0 ∷ 0 ∷ 0 ∷ 0 ∷ 0 ∷ 0 ∷ 0 ∷ 0 ∷ 0 ∷ [] }) ∷
    reply.Value 42 ∷ reply.Done ∷ reply.Irq (record { 0 = 5 }) ∷ reply.Done ∷ reply.Halted ∷ []

pub two_boxes-run : replies_to_box main two_boxes_log ≡ replies_there
unfolding opening_state step choice_of_word byte_at put_byte
two_boxes-run = refl

pub two_boxes-alone : lone_replies (part_of two_boxes 0 main) (reach_of two_boxes main two_boxes_log) ≡ replies_there
unfolding opening_state step choice_of_word byte_at put_byte addresses_of
two_boxes-alone = refl

-- ---- the board is sound

limits : IsWithinLimits two_boxes
limits = record {
  some_box = omega arith;
  boxes = omega arith;
  threads = omega arith;
  devices = omega arith;
  words = omega arith;
  registers = omega arith;
  gateways = omega arith;
  steps = omega arith;
  script = omega arith;
  ring_words = omega arith;
  rings = omega arith;
}

sram_apart : AreApart two_boxes.board.sram two_boxes.board.flash
sram_apart a is = grind (arith, nat_tests)

peripherals_apart : AreApart two_boxes.board.peripherals two_boxes.board.flash
peripherals_apart a is = grind (arith, nat_tests)

peripherals_beside : AreApart two_boxes.board.peripherals two_boxes.board.sram
peripherals_beside a is = grind (arith, nat_tests)

board_is : IsBoard two_boxes.board
board_is = record {
  flash = record { power = (5, refl); enough = omega arith; aligned = refl };
  flash_bank = record { within = omega arith; ends = omega arith };
  sram = record { enough = omega arith; base = refl; len = refl };
  sram_bank = record { within = omega arith; ends = omega arith };
  sram_apart = sram_apart;
  peripherals = record { enough = omega arith; base = refl; len = refl };
  peripherals_bank = record { within = omega arith; ends = omega arith };
  peripherals_apart = peripherals_apart;
  peripherals_beside = peripherals_beside;
  secret = tt;
  words = tt;
  words_once = tt;
  heap = record {
    power = (5, refl);
    least_page = omega arith;
    greatest_page = omega arith;
    eights = refl;
    least_count = omega arith;
    greatest_count = omega arith;
    aligned = refl;
    low = omega arith;
    high = omega arith;
  };
}

boxes_are : AllByRecursion (IsBox two_boxes.board (common_range two_boxes.board two_boxes.boxes)) two_boxes.boxes
boxes_are = (
  record {
    name = refl;
    items = refl;
    grants = (record { tiled = record { enough = omega arith; base = refl; len = refl }; rights = inr (inl refl); placed = inr (omega arith, omega arith) }, tt);
    grants_apart = (tt, tt);
    few_grants = omega arith;
    lines = (omega arith, tt);
  },
  (
    record {
      name = refl;
      items = refl;
      grants = (record { tiled = record { enough = omega arith; base = refl; len = refl }; rights = inr (inl refl); placed = inr (omega arith, omega arith) }, tt);
      grants_apart = (tt, tt);
      few_grants = omega arith;
      lines = tt;
    },
    tt,
  ),
)

two : AllByRecursion IsThread two_boxes.threads
two = (
  record {
    some_step = omega arith;
    few_steps = omega arith;
    short = omega arith;
    valid = (
      (omega arith, omega arith),
      (
        (omega arith, omega arith),
        (
          (omega arith, omega arith),
          (
            (omega arith, omega arith, omega arith),
            (
              (omega arith, omega arith),
              (
                (omega arith, omega arith),
                ((omega arith, omega arith), ((omega arith, omega arith), ((omega arith, omega arith), (omega arith, (tt, (tt, tt)))))),
              ),
            ),
          ),
        ),
      ),
    );
  },
  (
    record {
      some_step = omega arith;
      few_steps = omega arith;
      short = omega arith;
      valid = (tt, ((omega arith, omega arith), (omega arith, ((omega arith, omega arith), ((omega arith, omega arith, omega arith), ((omega arith, omega arith), (tt, tt)))))));
    },
    tt,
  ),
)

pub two_boxes-sound : IsSound two_boxes
two_boxes-sound = record {
  limits = limits;
  board = board_is;
  names_once = (refl, (refl, tt));
  boxes = boxes_are;
  numbered = (refl, omega arith, omega arith, omega arith, (refl, omega arith, omega arith, omega arith, tt));
  homes = refl;
  threads = two;
  placed = (
    record { power = (8, refl); enough = omega arith; aligned = refl; not_below = omega arith; least = omega arith },
    (record { power = (8, refl); enough = omega arith; aligned = refl; not_below = omega arith; least = omega arith }, tt),
  );
  room = omega arith;
  one_owner = omega arith;
  lines_once = (refl, tt);
  registers = (record { aligned = refl; placed = refl }, (record { aligned = refl; placed = refl }, tt));
  gateways = (omega arith, tt);
  devices = tt;
  script = (omega arith, (omega arith, (omega arith, (omega arith, (omega arith, (omega arith, (omega arith, (omega arith, (omega arith, (omega arith, (omega arith, (omega arith, (omega arith, (omega arith, (omega arith, (omega arith, (refl, (omega arith, (omega arith, (omega arith, tt))))))))))))))))))));
}
