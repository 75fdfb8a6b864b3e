-- Which operands the instructions of a program text have.
use Rattle.std.specs.Prelude.{ℕ, ◌^◌, ◌<◌, ◌≤◌}
use Rattle.flat_model.specs.declared.instructions.Instr.{Instr}
use Rattle.flat_model.specs.declared.instructions.Instr.TheVariants as instr

-- the number is one of the registers r0 to r7
abbrev pub IsRegister : ℕ → Type 0
IsRegister n = n < 8

-- the number is a word
abbrev pub IsWord : ℕ → Type 0
IsWord n = n < 2 ^ 32

-- the number is a small number
abbrev pub IsSmall : ℕ → Type 0
IsSmall n = n < 65536

-- the number is a count of looks, which a thread that waits has left
abbrev pub IsLookCount : ℕ → Type 0
IsLookCount n = (1 ≤ n) × (n < 65536)

-- each operand of the instruction is one that a program text can give it
abbrev pub IsValidInstr : Instr → Type 0
IsValidInstr (instr.Set d w) = IsRegister d × IsWord w
IsValidInstr (instr.Mov d s) = IsRegister d × IsRegister s
IsValidInstr (instr.Add d a b) = IsRegister d × IsRegister a × IsRegister b
IsValidInstr (instr.Sub d a b) = IsRegister d × IsRegister a × IsRegister b
IsValidInstr (instr.And d a b) = IsRegister d × IsRegister a × IsRegister b
IsValidInstr (instr.Orr d a b) = IsRegister d × IsRegister a × IsRegister b
IsValidInstr (instr.Eor d a b) = IsRegister d × IsRegister a × IsRegister b
IsValidInstr (instr.Load8 d a w) = IsRegister d × IsRegister a × IsWord w
IsValidInstr (instr.Load16 d a w) = IsRegister d × IsRegister a × IsWord w
IsValidInstr (instr.Load32 d a w) = IsRegister d × IsRegister a × IsWord w
IsValidInstr (instr.Store8 s a w) = IsRegister s × IsRegister a × IsWord w
IsValidInstr (instr.Store16 s a w) = IsRegister s × IsRegister a × IsWord w
IsValidInstr (instr.Store32 s a w) = IsRegister s × IsRegister a × IsWord w
IsValidInstr (instr.Exec a w) = IsRegister a × IsWord w
IsValidInstr (instr.Jump n) = IsSmall n
IsValidInstr (instr.Jz a n) = IsRegister a × IsSmall n
IsValidInstr (instr.Jnz a n) = IsRegister a × IsSmall n
IsValidInstr (instr.BoxId d) = IsRegister d
IsValidInstr (instr.PagesAlloc n t) = IsRegister n × IsRegister t
IsValidInstr (instr.PageFree a) = IsRegister a
IsValidInstr (instr.IrqOn n) = IsSmall n
IsValidInstr (instr.IrqOff n) = IsSmall n
IsValidInstr instr.IrqReturn = Unit {0}
IsValidInstr (instr.GwRead d n) = IsRegister d × IsSmall n
IsValidInstr (instr.GwWrite s n) = IsRegister s × IsSmall n
IsValidInstr (instr.RpcCall d n) = IsRegister d × IsSmall n
IsValidInstr (instr.RpcSync n m) = IsSmall n × IsLookCount m
IsValidInstr instr.RpcTake = Unit {0}
IsValidInstr (instr.RpcReturn s) = IsRegister s
IsValidInstr (instr.RpcResult d s) = IsRegister d × IsRegister s
IsValidInstr instr.Halt = Unit {0}
