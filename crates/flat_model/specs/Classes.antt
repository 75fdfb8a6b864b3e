-- The class of an instruction: a change of its thread alone, an access to memory, or a kernel call.
use Rattle.std.specs.Prelude.{ℕ, ◌<◌, ◌≤◌, ⊤}
use Rattle.addr_base.specs.declared.rights.Kind.TheVariants.{Read, Write, Fetch}
use Rattle.flat_model.specs.declared.classes.InstrClass.{InstrClass}
use Rattle.flat_model.specs.declared.classes.InstrClass.TheVariants.{Local, Memory, Kernel}
use Rattle.flat_model.specs.declared.classes.KernelCall.TheVariants as call
use Rattle.flat_model.specs.declared.classes.LocalInstr.TheVariants as local
use Rattle.flat_model.specs.declared.instructions.Instr.{Instr}
use Rattle.flat_model.specs.declared.instructions.Instr.TheVariants as instr

-- a load of so many bytes into a register
abbrev pub load : ℕ → ℕ → ℕ → ℕ → InstrClass
load size d a w = Memory (record { kind = Read; size = size; register = d; base = a; offset = w })

-- a store of so many bytes out of a register
abbrev pub store : ℕ → ℕ → ℕ → ℕ → InstrClass
store size s a w = Memory (record { kind = Write; size = size; register = s; base = a; offset = w })

-- a fetch of two bytes, into no register
abbrev pub fetch : ℕ → ℕ → InstrClass
fetch a w = Memory (record { kind = Fetch; size = 2; register = 0; base = a; offset = w })

-- the class of an instruction
abbrev pub class_of : Instr → InstrClass
class_of (instr.Set d w) = Local (local.Set d w)
class_of (instr.Mov d s) = Local (local.Mov d s)
class_of (instr.Add d a b) = Local (local.Add d a b)
class_of (instr.Sub d a b) = Local (local.Sub d a b)
class_of (instr.And d a b) = Local (local.And d a b)
class_of (instr.Orr d a b) = Local (local.Orr d a b)
class_of (instr.Eor d a b) = Local (local.Eor d a b)
class_of (instr.Load8 d a w) = load 1 d a w
class_of (instr.Load16 d a w) = load 2 d a w
class_of (instr.Load32 d a w) = load 4 d a w
class_of (instr.Store8 s a w) = store 1 s a w
class_of (instr.Store16 s a w) = store 2 s a w
class_of (instr.Store32 s a w) = store 4 s a w
class_of (instr.Exec a w) = fetch a w
class_of (instr.Jump n) = Local (local.Jump n)
class_of (instr.Jz a n) = Local (local.Jz a n)
class_of (instr.Jnz a n) = Local (local.Jnz a n)
class_of (instr.BoxId d) = Local (local.BoxId d)
class_of (instr.PagesAlloc n t) = Kernel (call.PagesAlloc n t)
class_of (instr.PageFree a) = Kernel (call.PageFree a)
class_of (instr.IrqOn n) = Kernel (call.IrqOn n)
class_of (instr.IrqOff n) = Kernel (call.IrqOff n)
class_of instr.IrqReturn = Kernel call.IrqReturn
class_of (instr.GwRead d n) = Kernel (call.GwRead d n)
class_of (instr.GwWrite s n) = Kernel (call.GwWrite s n)
class_of (instr.RpcCall d n) = Kernel (call.RpcCall d n)
class_of (instr.RpcSync n looks) = Kernel (call.RpcSync n looks)
class_of instr.RpcTake = Kernel call.RpcTake
class_of (instr.RpcReturn s) = Kernel (call.RpcReturn s)
class_of (instr.RpcResult d s) = Kernel (call.RpcResult d s)
class_of instr.Halt = Local local.Halt

-- a load, a store or a fetch is of one to four bytes
abbrev pub IsSizedClass : InstrClass → Type 0
IsSizedClass (Local i) = ⊤
IsSizedClass (Memory i) = (0 < i.size) × (i.size ≤ 4)
IsSizedClass (Kernel c) = ⊤
