-- Inner: no public contract cites this. Runs that are computed over the definitions, line by line.
use Rattle.std.proofs.Common.{◌≡◌, true, false, [], ◌∷◌, Some, None, refl}
use Rattle.std.specs.Prelude.{codes}
use Rattle.flat_model.specs.declared.instructions.Instr.TheVariants as instr
use Rattle.flat_model.specs.declared.parts.Config.{Config}
use Rattle.flat_model.specs.declared.parts.Op.TheVariants as op
use Rattle.flat_model.proofs.RunWords.{at, core_text, is_good, item_of, lines, log_text, ring, thread_of}

-- one box that stores a word in its own memory and loads it
abbrev one_box : Config
one_box = record {
  version = 1;
  board = record {
    flash = record { base = 0; len = 32 };
    sram = record { base = 536870912; len = 256 };
    peripherals = record { base = 1073741824; len = 32 };
    secret = None;
    words = ([]);
    heap = None;
  };
  boxes = (
      record { name = codes "a"; own = record { base = 536870912; len = 256 }; secret = false; first = 0; threads = 1; server = record { 0 = 0 }; items = (item_of 0 32 5 ∷ item_of 536870912 256 3 ∷ []); grants = ([]); irqs = ([]) } ∷ []);
  threads = (
      thread_of 0 100 (instr.Set 0 536870912 ∷ instr.Store32 0 0 4 ∷ instr.Load32 1 0 4 ∷ instr.Halt ∷ []) ∷ []);
  registers = ([]);
  gateways = ([]);
  devices = ([]);
  script = (at 0 ∷ at 0 ∷ at 0 ∷ at 0 ∷ []);
}

one_box-log : log_text one_box ≡ lines (
    codes "unit switch a" ∷
    codes "turn a.0 ok" ∷
    codes "unit access write 4 0x20000004 slot 1" ∷
    codes "turn a.0 ok" ∷
    codes "unit access read 4 0x20000004 slot 1" ∷
    codes "turn a.0 ok 0x20000000" ∷
    codes "turn a.0 halted" ∷
    codes "thread a.0 halted 4 0x20000000 0x20000000 0x00000000 0x00000000 0x00000000 0x00000000 0x00000000 0x00000000" ∷
    [])
unfolding log_text
one_box-log = refl

one_box-good : is_good one_box ≡ true
unfolding is_good
one_box-good = refl

-- a grant of seven blocks of 32 bytes, with an access at each edge
abbrev three_blocks : Config
three_blocks = record {
  version = 1;
  board = record {
    flash = record { base = 0; len = 32 };
    sram = record { base = 536870912; len = 256 };
    peripherals = record { base = 1073741824; len = 256 };
    secret = None;
    words = ([]);
    heap = None;
  };
  boxes = (
      record { name = codes "a"; own = record { base = 536870912; len = 256 }; secret = false; first = 0; threads = 1; server = record { 0 = 0 }; items = (item_of 0 32 5 ∷ item_of 536870912 256 3 ∷ item_of 1073741856 224 3 ∷ []); grants = (item_of 1073741856 224 3 ∷ []); irqs = ([]) } ∷ []);
  threads = (
      thread_of 0 100 (instr.Set 0 1073741856 ∷ instr.Store32 0 0 0 ∷ instr.Load32 1 0 220 ∷ instr.Store8 0 0 95 ∷ instr.Load8 2 0 224 ∷ []) ∷ []);
  registers = ([]);
  gateways = ([]);
  devices = ([]);
  script = (at 0 ∷ at 0 ∷ at 0 ∷ at 0 ∷ at 0 ∷ []);
}

three_blocks-log : log_text three_blocks ≡ lines (
    codes "unit switch a" ∷
    codes "turn a.0 ok" ∷
    codes "unit rotate 2 0x40000020 0x13000009" ∷
    codes "unit access write 4 0x40000020 slot 2" ∷
    codes "turn a.0 ok" ∷
    codes "unit rotate 3 0x40000080 0x1300000D" ∷
    codes "unit access read 4 0x400000FC slot 3" ∷
    codes "turn a.0 ok 0x00000000" ∷
    codes "unit rotate 4 0x40000040 0x1300000B" ∷
    codes "unit access write 1 0x4000007F slot 4" ∷
    codes "turn a.0 ok" ∷
    codes "unit access read 1 0x40000100 denied" ∷
    codes "turn a.0 fault daccviol 0x40000100" ∷
    codes "thread a.0 faulted 5 0x40000020 0x00000000 0x00000000 0x00000000 0x00000000 0x00000000 0x00000000 0x00000000" ∷
    [])
unfolding log_text
three_blocks-log = refl

three_blocks-good : is_good three_blocks ≡ true
unfolding is_good
three_blocks-good = refl

-- two boxes that share a grant and pass a word
abbrev shared_grants : Config
shared_grants = record {
  version = 1;
  board = record {
    flash = record { base = 0; len = 32 };
    sram = record { base = 536870912; len = 512 };
    peripherals = record { base = 1073741824; len = 128 };
    secret = None;
    words = ([]);
    heap = None;
  };
  boxes = (
      record { name = codes "a"; own = record { base = 536870912; len = 256 }; secret = false; first = 0; threads = 1; server = record { 0 = 0 }; items = (item_of 0 32 5 ∷ item_of 536870912 256 3 ∷ item_of 1073741824 128 3 ∷ []); grants = (item_of 1073741824 128 3 ∷ []); irqs = ([]) } ∷
      record { name = codes "b"; own = record { base = 536871168; len = 256 }; secret = false; first = 1; threads = 1; server = record { 0 = 1 }; items = (item_of 0 32 5 ∷ item_of 536871168 256 3 ∷ item_of 1073741920 32 3 ∷ []); grants = (item_of 1073741920 32 3 ∷ []); irqs = ([]) } ∷ []);
  threads = (
      thread_of 0 100 (instr.Set 0 1073741920 ∷ instr.Set 1 90 ∷ instr.Store32 1 0 0 ∷ []) ∷
      thread_of 1 100 (instr.Set 0 1073741920 ∷ instr.Load32 1 0 0 ∷ []) ∷ []);
  registers = ([]);
  gateways = ([]);
  devices = ([]);
  script = (at 0 ∷ at 0 ∷ at 0 ∷ at 1 ∷ at 1 ∷ []);
}

shared_grants-log : log_text shared_grants ≡ lines (
    codes "unit switch a" ∷
    codes "turn a.0 ok" ∷
    codes "turn a.0 ok" ∷
    codes "unit rotate 2 0x40000000 0x1300000D" ∷
    codes "unit access write 4 0x40000060 slot 2" ∷
    codes "turn a.0 ok" ∷
    codes "unit switch b" ∷
    codes "turn b.0 ok" ∷
    codes "unit rotate 2 0x40000060 0x13000009" ∷
    codes "unit access read 4 0x40000060 slot 2" ∷
    codes "turn b.0 ok 0x0000005A" ∷
    codes "thread a.0 ready 3 0x40000060 0x0000005A 0x00000000 0x00000000 0x00000000 0x00000000 0x00000000 0x00000000" ∷
    codes "thread b.0 ready 2 0x40000060 0x0000005A 0x00000000 0x00000000 0x00000000 0x00000000 0x00000000 0x00000000" ∷
    [])
unfolding log_text
shared_grants-log = refl

shared_grants-good : is_good shared_grants ≡ true
unfolding is_good
shared_grants-good = refl

-- pages that are taken, used and freed
abbrev pages : Config
pages = record {
  version = 1;
  board = record {
    flash = record { base = 0; len = 32 };
    sram = record { base = 536870912; len = 512 };
    peripherals = record { base = 1073741824; len = 32 };
    secret = None;
    words = ([]);
    heap = Some (record { base = 536871168; page = 32; count = 8 });
  };
  boxes = (
      record { name = codes "a"; own = record { base = 536870912; len = 256 }; secret = false; first = 0; threads = 1; server = record { 0 = 0 }; items = (item_of 0 32 5 ∷ item_of 536870912 256 3 ∷ []); grants = ([]); irqs = ([]) } ∷ []);
  threads = (
      thread_of 0 100 (instr.Set 0 3 ∷ instr.Set 1 536870912 ∷ instr.PagesAlloc 0 1 ∷ instr.Load32 2 1 4 ∷ instr.PageFree 2 ∷ instr.Load32 3 1 0 ∷ instr.Store32 0 3 0 ∷ instr.PageFree 3 ∷ instr.Load32 4 3 64 ∷ instr.Load32 4 3 0 ∷ []) ∷ []);
  registers = ([]);
  gateways = ([]);
  devices = ([]);
  script = (at 0 ∷ at 0 ∷ at 0 ∷ at 0 ∷ at 0 ∷ at 0 ∷ at 0 ∷ at 0 ∷ at 0 ∷ at 0 ∷ []);
}

pages-log : log_text pages ≡ lines (
    codes "unit switch a" ∷
    codes "turn a.0 ok" ∷
    codes "turn a.0 ok" ∷
    codes "unit flush" ∷
    codes "turn a.0 frames 0 1 2" ∷
    codes "unit access read 4 0x20000004 slot 1" ∷
    codes "turn a.0 ok 0x20000120" ∷
    codes "unit flush" ∷
    codes "turn a.0 ok" ∷
    codes "unit access read 4 0x20000000 slot 1" ∷
    codes "turn a.0 ok 0x20000100" ∷
    codes "unit rotate 2 0x20000100 0x1300FA0F" ∷
    codes "unit access write 4 0x20000100 slot 2" ∷
    codes "turn a.0 ok" ∷
    codes "unit flush" ∷
    codes "turn a.0 ok" ∷
    codes "unit rotate 2 0x20000100 0x1300FB0F" ∷
    codes "unit access read 4 0x20000140 slot 2" ∷
    codes "turn a.0 ok 0x00000000" ∷
    codes "unit access read 4 0x20000100 denied" ∷
    codes "turn a.0 fault daccviol 0x20000100" ∷
    codes "thread a.0 faulted 10 0x00000003 0x20000000 0x20000120 0x20000100 0x00000000 0x00000000 0x00000000 0x00000000" ∷
    [])
unfolding log_text
pages-log = refl

pages-good : is_good pages ≡ true
unfolding is_good
pages-good = refl

-- a server and two callers
abbrev two_callers : Config
two_callers = record {
  version = 1;
  board = record {
    flash = record { base = 0; len = 32 };
    sram = record { base = 536870912; len = 768 };
    peripherals = record { base = 1073741824; len = 32 };
    secret = None;
    words = ([]);
    heap = None;
  };
  boxes = (
      record { name = codes "s"; own = record { base = 536870912; len = 256 }; secret = false; first = 0; threads = 1; server = record { 0 = 0 }; items = (item_of 0 32 5 ∷ item_of 536870912 256 3 ∷ []); grants = ([]); irqs = ([]) } ∷
      record { name = codes "p"; own = record { base = 536871168; len = 256 }; secret = false; first = 1; threads = 1; server = record { 0 = 1 }; items = (item_of 0 32 5 ∷ item_of 536871168 256 3 ∷ []); grants = ([]); irqs = ([]) } ∷
      record { name = codes "q"; own = record { base = 536871424; len = 256 }; secret = false; first = 2; threads = 1; server = record { 0 = 2 }; items = (item_of 0 32 5 ∷ item_of 536871424 256 3 ∷ []); grants = ([]); irqs = ([]) } ∷ []);
  threads = (
      thread_of 0 100 (instr.RpcTake ∷ instr.Add 0 0 0 ∷ instr.RpcReturn 0 ∷ instr.Jump 0 ∷ []) ∷
      thread_of 1 100 (instr.Set 0 10 ∷ instr.RpcCall 1 0 ∷ instr.RpcCall 2 0 ∷ instr.RpcResult 3 1 ∷ instr.RpcResult 3 1 ∷ []) ∷
      thread_of 2 100 (instr.Set 0 20 ∷ instr.RpcCall 1 0 ∷ instr.RpcResult 3 1 ∷ instr.Jump 2 ∷ []) ∷ []);
  registers = ([]);
  gateways = (record { target = record { 0 = 0 }; function = 7; callers = 6 } ∷ []);
  devices = ([]);
  script = (at 1 ∷ at 1 ∷ at 2 ∷ at 2 ∷ at 1 ∷ at 0 ∷ at 0 ∷ at 0 ∷ at 1 ∷ at 2 ∷ at 0 ∷ at 0 ∷ at 0 ∷ at 0 ∷ at 2 ∷ at 2 ∷ at 1 ∷ []);
}

two_callers-core : core_text two_callers ≡ lines (
    codes "turn p.0 ok" ∷
    codes "turn p.0 posted 1" ∷
    codes "turn q.0 ok" ∷
    codes "turn q.0 posted 1" ∷
    codes "turn p.0 posted 2" ∷
    codes "start s.0 p.0#1 ok 0x00000007 0x0000000A 0x00000000 0x00000000 0x00000000" ∷
    codes "turn s.0 ok" ∷
    codes "turn s.0 ok" ∷
    codes "turn p.0 ok 0x00000014" ∷
    codes "turn q.0 status 1" ∷
    codes "turn s.0 ok" ∷
    codes "start s.0 q.0#1 ok 0x00000007 0x00000014 0x00000000 0x00000000 0x00000000" ∷
    codes "turn s.0 ok" ∷
    codes "turn s.0 ok" ∷
    codes "turn q.0 ok" ∷
    codes "turn q.0 ok 0x00000028" ∷
    codes "turn p.0 status 4" ∷
    [])
unfolding core_text
two_callers-core = refl

two_callers-good : is_good two_callers ≡ true
unfolding is_good
two_callers-good = refl

-- two rings that are one interrupt
abbrev interrupt : Config
interrupt = record {
  version = 1;
  board = record {
    flash = record { base = 0; len = 32 };
    sram = record { base = 536870912; len = 256 };
    peripherals = record { base = 1073741824; len = 32 };
    secret = None;
    words = ([]);
    heap = None;
  };
  boxes = (
      record { name = codes "a"; own = record { base = 536870912; len = 256 }; secret = false; first = 0; threads = 1; server = record { 0 = 0 }; items = (item_of 0 32 5 ∷ item_of 536870912 256 3 ∷ []); grants = ([]); irqs = (record { line = record { 0 = 5 }; handler = 3 } ∷ []) } ∷ []);
  threads = (
      thread_of 0 100 (instr.IrqOn 5 ∷ instr.IrqOn 6 ∷ instr.Halt ∷ instr.Set 2 9 ∷ instr.IrqReturn ∷ []) ∷ []);
  registers = ([]);
  gateways = ([]);
  devices = ([]);
  script = (ring 5 ∷ ring 5 ∷ at 0 ∷ at 0 ∷ at 0 ∷ at 0 ∷ at 0 ∷ at 0 ∷ []);
}

interrupt-log : log_text interrupt ≡ lines (
    codes "ring 5 by 0" ∷
    codes "ring 5 by 0" ∷
    codes "unit switch a" ∷
    codes "turn a.0 ok" ∷
    codes "turn a.0 irq 5" ∷
    codes "turn a.0 ok" ∷
    codes "turn a.0 ok" ∷
    codes "turn a.0 status 9" ∷
    codes "turn a.0 halted" ∷
    codes "thread a.0 halted 6 0x00000000 0x00000000 0x00000000 0x00000000 0x00000000 0x00000000 0x00000000 0x00000009" ∷
    [])
unfolding log_text
interrupt-log = refl

interrupt-good : is_good interrupt ≡ true
unfolding is_good
interrupt-good = refl

-- a register gateway that replaces a field, and one that reads
abbrev register_gateways : Config
register_gateways = record {
  version = 1;
  board = record {
    flash = record { base = 0; len = 32 };
    sram = record { base = 536870912; len = 512 };
    peripherals = record { base = 1073741824; len = 288 };
    secret = None;
    words = (record { at = 1073742080; value = 305419896 } ∷ []);
    heap = None;
  };
  boxes = (
      record { name = codes "a"; own = record { base = 536870912; len = 256 }; secret = false; first = 0; threads = 1; server = record { 0 = 0 }; items = (item_of 0 32 5 ∷ item_of 536870912 256 3 ∷ []); grants = ([]); irqs = ([]) } ∷
      record { name = codes "b"; own = record { base = 536871168; len = 256 }; secret = false; first = 1; threads = 1; server = record { 0 = 1 }; items = (item_of 0 32 5 ∷ item_of 536871168 256 3 ∷ []); grants = ([]); irqs = ([]) } ∷ []);
  threads = (
      thread_of 0 100 (instr.Set 0 2882382797 ∷ instr.GwWrite 0 0 ∷ instr.GwRead 1 1 ∷ instr.GwRead 1 0 ∷ []) ∷
      thread_of 1 100 (instr.GwRead 1 1 ∷ []) ∷ []);
  registers = (record { at = 1073742080; op = op.Replace; mask = 65280; boxes = 1 } ∷ record { at = 1073742080; op = op.Read; mask = 4294967295; boxes = 1 } ∷ []);
  gateways = ([]);
  devices = ([]);
  script = (at 0 ∷ at 0 ∷ at 0 ∷ at 0 ∷ at 1 ∷ []);
}

register_gateways-core : core_text register_gateways ≡ lines (
    codes "turn a.0 ok" ∷
    codes "turn a.0 ok" ∷
    codes "turn a.0 ok 0x1234AB78" ∷
    codes "turn a.0 status 9" ∷
    codes "turn b.0 status 9" ∷
    [])
unfolding core_text
register_gateways-core = refl

register_gateways-good : is_good register_gateways ≡ true
unfolding is_good
register_gateways-good = refl

-- a call that is waited for in vain
abbrev waiting_call : Config
waiting_call = record {
  version = 1;
  board = record {
    flash = record { base = 0; len = 32 };
    sram = record { base = 536870912; len = 512 };
    peripherals = record { base = 1073741824; len = 32 };
    secret = None;
    words = ([]);
    heap = None;
  };
  boxes = (
      record { name = codes "s"; own = record { base = 536870912; len = 256 }; secret = false; first = 0; threads = 1; server = record { 0 = 0 }; items = (item_of 0 32 5 ∷ item_of 536870912 256 3 ∷ []); grants = ([]); irqs = ([]) } ∷
      record { name = codes "p"; own = record { base = 536871168; len = 256 }; secret = false; first = 1; threads = 1; server = record { 0 = 1 }; items = (item_of 0 32 5 ∷ item_of 536871168 256 3 ∷ []); grants = ([]); irqs = ([]) } ∷ []);
  threads = (
      thread_of 0 100 (instr.Halt ∷ []) ∷
      thread_of 1 100 (instr.RpcSync 0 2 ∷ instr.Halt ∷ []) ∷ []);
  registers = ([]);
  gateways = (record { target = record { 0 = 0 }; function = 1; callers = 2 } ∷ []);
  devices = ([]);
  script = (at 1 ∷ at 1 ∷ at 1 ∷ at 1 ∷ []);
}

waiting_call-log : log_text waiting_call ≡ lines (
    codes "unit switch p" ∷
    codes "turn p.0 posted 1" ∷
    codes "turn p.0 waiting" ∷
    codes "turn p.0 status 1" ∷
    codes "turn p.0 halted" ∷
    codes "thread s.0 ready 0 0x00000000 0x00000000 0x00000000 0x00000000 0x00000000 0x00000000 0x00000000 0x00000000" ∷
    codes "thread p.0 halted 4 0x00000001 0x00000000 0x00000000 0x00000000 0x00000000 0x00000000 0x00000000 0x00000001" ∷
    [])
unfolding log_text
waiting_call-log = refl

waiting_call-good : is_good waiting_call ≡ true
unfolding is_good
waiting_call-good = refl
