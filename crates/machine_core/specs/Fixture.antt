-- Inner: no public contract cites this. The boxes that the tests run, on the sample board.
use Rattle.std.specs.Prelude.{ℕ, List, [], ◌∷◌}
use Rattle.flat_model.specs.declared.instructions.Instr.TheVariants as instr
use Rattle.flat_model.specs.declared.parts.Config.{Config}
use Rattle.flat_model.specs.declared.parts.DevicePart.{DevicePart}
use Rattle.flat_model.specs.declared.parts.IrqPart.{IrqPart}
use Rattle.flat_model.specs.declared.parts.RpcGate.{RpcGate}
use Rattle.flat_model.specs.declared.parts.ThreadPart.{ThreadPart}
use Rattle.sample_board.specs.Sample.{Share, config, parts, thread}

-- line 5, with the first place as its handler
abbrev pub irq : IrqPart
irq = record { line = record { 0 = 5 }; handler = 0 }

-- two boxes of two threads, the first with that line
abbrev pub shares : List Share
shares = record { threads = 2; irqs = irq ∷ [] } ∷ record { threads = 2; irqs = [] } ∷ []

-- a gateway to the second box, for these callers
abbrev pub gate : ℕ → RpcGate
gate callers = record { target = record { 0 = 1 }; function = 7; callers = callers }

-- threads that store and load, use the grant and call, read what is not theirs, and turn
abbrev pub threads : List ThreadPart
threads =
    thread 0 (instr.Set 0 0x20000000 ∷ instr.Store32 0 0 4 ∷ instr.Load32 1 0 4 ∷ instr.Halt ∷ []) 100
    ∷ thread 0 (instr.Set 0 0x40000020 ∷ instr.Load32 3 0 0xDC ∷ instr.RpcCall 1 0 ∷ []) 100
    ∷ thread 1 (instr.Set 0 0x20000000 ∷ instr.Load32 1 0 0 ∷ []) 100
    ∷ thread 1 (instr.Set 1 1 ∷ instr.Jump 0 ∷ []) 2 ∷ []

-- the two boxes with these threads, of which the first may call the second
abbrev pub two_boxes : Config
two_boxes = config (parts shares) threads (gate 1 ∷ []) []

-- two threads that turn for ever, a server that takes calls, and a thread that calls
abbrev pub callers : List ThreadPart
callers =
    thread 0 (instr.Jump 0 ∷ []) 5000
    ∷ thread 0 (instr.Jump 0 ∷ []) 5000
    ∷ thread 1 (instr.RpcTake ∷ instr.Jump 0 ∷ []) 100
    ∷ thread 1 (instr.RpcCall 1 0 ∷ instr.Jump 0 ∷ []) 100 ∷ []

-- a device that rings line 5
abbrev pub device : DevicePart
device = record { rings = record { 0 = 5 } ∷ [] }

-- the two boxes with these threads and that device, of which each may call the second
abbrev pub calling : Config
calling = config (parts shares) callers (gate 3 ∷ []) (device ∷ [])
