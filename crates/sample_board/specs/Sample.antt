-- For tests alone: one board, and boxes side by side on it.
use Rattle.std.specs.Prelude.{ℕ, ◌+◌, ◌*◌, false, Option, Some, None, List, [], ◌∷◌}
use Rattle.addr_base.specs.declared.ranges.Range.{Range}
use Rattle.addr_base.specs.Rights.{read_execute, read_write}
use Rattle.flat_model.specs.declared.boards.Board.{Board}
use Rattle.flat_model.specs.declared.boards.HeapPart.{HeapPart}
use Rattle.flat_model.specs.declared.instructions.Instr.{Instr}
use Rattle.flat_model.specs.declared.instructions.Instr.TheVariants as instr
use Rattle.flat_model.specs.declared.parts.BoxPart.{BoxPart}
use Rattle.flat_model.specs.declared.parts.Config.{Config}
use Rattle.flat_model.specs.declared.parts.DevicePart.{DevicePart}
use Rattle.flat_model.specs.declared.parts.IrqPart.{IrqPart}
use Rattle.flat_model.specs.declared.parts.Item.{Item}
use Rattle.flat_model.specs.declared.parts.RpcGate.{RpcGate}
use Rattle.flat_model.specs.declared.parts.ThreadPart.{ThreadPart}

-- a board with so many bytes of SRAM and this heap, whose secret range is the end of flash
abbrev pub board : ℕ → Option HeapPart → Board
board sram heap = record {
  flash = record { base = 0; len = 0x100000 };
  sram = record { base = 0x20000000; len = sram };
  peripherals = record { base = 0x40000000; len = 0x100000 };
  secret = Some (record { base = 0xF0000; len = 0x10000 });
  words = [];
  heap = heap;
}

-- seven blocks of 32 bytes of the peripherals, which every box holds
abbrev pub grant : Item
grant = record { range = record { base = 0x40000020; len = 0xE0 }; rights = read_write }

-- the 256 bytes of SRAM of a box's own
abbrev pub own : ℕ → Range
own number = record { base = 0x20000000 + 256 * number; len = 256 }

-- the box of a number, named a letter: its first thread, which is its server, how many it has, and its lines
abbrev pub part : ℕ → ℕ → ℕ → List IrqPart → BoxPart
part number first threads irqs = record {
  name = (97 + number) ∷ [];
  own = own number;
  secret = false;
  first = first;
  threads = threads;
  server = record { 0 = first };
  items = record { range = record { base = 0; len = 0xF0000 }; rights = read_execute }
      ∷ record { range = own number; rights = read_write } ∷ grant ∷ [];
  grants = grant ∷ [];
  irqs = irqs;
}

-- how many threads a box has, and its lines
pub record Share : Type 0 where
  pub threads : ℕ
  pub irqs : List IrqPart

-- the boxes with these shares, from a number and a first thread on
abbrev pub parts_from : ℕ → ℕ → List Share → List BoxPart
parts_from number first [] = []
parts_from number first (share ∷ shares) =
    part number first share.threads share.irqs ∷ parts_from (number + 1) (first + share.threads) shares

-- the boxes with these shares, in order
abbrev pub parts : List Share → List BoxPart
parts shares = parts_from 0 0 shares

-- a thread of a box, with its program and how many steps it may take
abbrev pub thread : ℕ → List Instr → ℕ → ThreadPart
thread home program steps = record { home = record { 0 = home }; program = program; steps = steps }

-- a thread of a box that halts at once
abbrev pub halting : ℕ → ThreadPart
halting home = thread home (instr.Halt ∷ []) 10

-- boxes with their threads, gateways for calls and devices on the board without a heap
abbrev pub config : List BoxPart → List ThreadPart → List RpcGate → List DevicePart → Config
config boxes threads gateways devices = record {
  version = 1;
  board = board 0x20000 None;
  boxes = boxes;
  threads = threads;
  registers = [];
  gateways = gateways;
  devices = devices;
  script = [];
}

-- one box with one thread, which halts at once
abbrev pub one_box : Config
one_box = config (parts (record { threads = 1; irqs = [] } ∷ [])) (halting 0 ∷ []) [] []
