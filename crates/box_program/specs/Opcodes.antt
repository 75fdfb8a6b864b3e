-- The table of instruction words.
use Rattle.std.specs.Prelude.{ℕ, Bool, List, [], ◌∷◌, Option, codes, find}
use Rattle.std.specs.Str.{bytes_eq}
use Rattle.flat_model.specs.declared.instructions.Instr.{Instr}
use Rattle.flat_model.specs.declared.instructions.Instr.TheVariants as instr
use Rattle.box_program.specs.declared.opcodes.Opcode.{Opcode}
use Rattle.box_program.specs.declared.opcodes.Opcode.TheVariants as op
use Rattle.box_program.specs.declared.opcodes.Parts.{Parts}
use Rattle.box_program.specs.declared.opcodes.Operand.{Operand}
use Rattle.box_program.specs.declared.opcodes.Operand.TheVariants.{Register, Word, Small, Looks}

-- a row of the table: an instruction's word, its operands, and the instruction of three numbers, of which it has as many as it has operands
pub record Row : Type 0 where
  pub word : List ℕ
  pub operands : List Operand
  pub make : ℕ → ℕ → ℕ → Instr

-- the row of each kind of instruction
unfoldable pub row : Opcode → Row
row op.Set = record { word = codes "set"; operands = Register ∷ Word ∷ []; make = λ d w _. instr.Set d w }
row op.Mov = record { word = codes "mov"; operands = Register ∷ Register ∷ []; make = λ d s _. instr.Mov d s }
row op.Add = record { word = codes "add"; operands = Register ∷ Register ∷ Register ∷ []; make = λ d a b. instr.Add d a b }
row op.Sub = record { word = codes "sub"; operands = Register ∷ Register ∷ Register ∷ []; make = λ d a b. instr.Sub d a b }
row op.And = record { word = codes "and"; operands = Register ∷ Register ∷ Register ∷ []; make = λ d a b. instr.And d a b }
row op.Orr = record { word = codes "orr"; operands = Register ∷ Register ∷ Register ∷ []; make = λ d a b. instr.Orr d a b }
row op.Eor = record { word = codes "eor"; operands = Register ∷ Register ∷ Register ∷ []; make = λ d a b. instr.Eor d a b }
row op.Load8 = record { word = codes "load8"; operands = Register ∷ Register ∷ Word ∷ []; make = λ d a w. instr.Load8 d a w }
row op.Load16 = record { word = codes "load16"; operands = Register ∷ Register ∷ Word ∷ []; make = λ d a w. instr.Load16 d a w }
row op.Load32 = record { word = codes "load32"; operands = Register ∷ Register ∷ Word ∷ []; make = λ d a w. instr.Load32 d a w }
row op.Store8 = record { word = codes "store8"; operands = Register ∷ Register ∷ Word ∷ []; make = λ s a w. instr.Store8 s a w }
row op.Store16 = record { word = codes "store16"; operands = Register ∷ Register ∷ Word ∷ []; make = λ s a w. instr.Store16 s a w }
row op.Store32 = record { word = codes "store32"; operands = Register ∷ Register ∷ Word ∷ []; make = λ s a w. instr.Store32 s a w }
row op.Exec = record { word = codes "exec"; operands = Register ∷ Word ∷ []; make = λ a w _. instr.Exec a w }
row op.Jump = record { word = codes "jump"; operands = Small ∷ []; make = λ n _ _. instr.Jump n }
row op.Jz = record { word = codes "jz"; operands = Register ∷ Small ∷ []; make = λ a n _. instr.Jz a n }
row op.Jnz = record { word = codes "jnz"; operands = Register ∷ Small ∷ []; make = λ a n _. instr.Jnz a n }
row op.BoxId = record { word = codes "box_id"; operands = Register ∷ []; make = λ d _ _. instr.BoxId d }
row op.PagesAlloc = record { word = codes "pages_alloc"; operands = Register ∷ Register ∷ []; make = λ n t _. instr.PagesAlloc n t }
row op.PageFree = record { word = codes "page_free"; operands = Register ∷ []; make = λ a _ _. instr.PageFree a }
row op.IrqOn = record { word = codes "irq_on"; operands = Small ∷ []; make = λ n _ _. instr.IrqOn n }
row op.IrqOff = record { word = codes "irq_off"; operands = Small ∷ []; make = λ n _ _. instr.IrqOff n }
row op.IrqReturn = record { word = codes "irq_return"; operands = []; make = λ _ _ _. instr.IrqReturn }
row op.GwRead = record { word = codes "gw_read"; operands = Register ∷ Small ∷ []; make = λ d n _. instr.GwRead d n }
row op.GwWrite = record { word = codes "gw_write"; operands = Register ∷ Small ∷ []; make = λ s n _. instr.GwWrite s n }
row op.RpcCall = record { word = codes "rpc_call"; operands = Register ∷ Small ∷ []; make = λ d n _. instr.RpcCall d n }
row op.RpcSync = record { word = codes "rpc_sync"; operands = Small ∷ Looks ∷ []; make = λ n m _. instr.RpcSync n m }
row op.RpcTake = record { word = codes "rpc_take"; operands = []; make = λ _ _ _. instr.RpcTake }
row op.RpcReturn = record { word = codes "rpc_return"; operands = Register ∷ []; make = λ s _ _. instr.RpcReturn s }
row op.RpcResult = record { word = codes "rpc_result"; operands = Register ∷ Register ∷ []; make = λ d s _. instr.RpcResult d s }
row op.Halt = record { word = codes "halt"; operands = []; make = λ _ _ _. instr.Halt }

-- every kind of instruction, in the order of the table
unfoldable pub opcodes : List Opcode
opcodes =
    op.Set ∷ op.Mov ∷ op.Add ∷ op.Sub ∷ op.And ∷ op.Orr ∷ op.Eor ∷ op.Load8 ∷ op.Load16 ∷
    op.Load32 ∷ op.Store8 ∷ op.Store16 ∷ op.Store32 ∷ op.Exec ∷ op.Jump ∷ op.Jz ∷ op.Jnz ∷
    op.BoxId ∷ op.PagesAlloc ∷ op.PageFree ∷ op.IrqOn ∷ op.IrqOff ∷ op.IrqReturn ∷ op.GwRead ∷
    op.GwWrite ∷ op.RpcCall ∷ op.RpcSync ∷ op.RpcTake ∷ op.RpcReturn ∷ op.RpcResult ∷ op.Halt ∷
    []

-- whether the word names the kind of instruction
unfoldable pub is_named : Opcode → List ℕ → Bool
is_named opcode word = bytes_eq (row opcode).word word

-- the kind of instruction that a word names
unfoldable pub opcode_of : List ℕ → Option Opcode
opcode_of word = find (λ opcode. is_named opcode word) opcodes

-- an instruction taken apart, where three numbers are its operands and 0 past them
abbrev pub parts : Opcode → ℕ → ℕ → ℕ → Parts
parts o a b c = record { opcode = o; first = a; second = b; third = c }

-- an instruction taken apart
unfoldable pub parts_of : Instr → Parts
parts_of (instr.Set d w) = parts op.Set d w 0
parts_of (instr.Mov d s) = parts op.Mov d s 0
parts_of (instr.Add d a b) = parts op.Add d a b
parts_of (instr.Sub d a b) = parts op.Sub d a b
parts_of (instr.And d a b) = parts op.And d a b
parts_of (instr.Orr d a b) = parts op.Orr d a b
parts_of (instr.Eor d a b) = parts op.Eor d a b
parts_of (instr.Load8 d a w) = parts op.Load8 d a w
parts_of (instr.Load16 d a w) = parts op.Load16 d a w
parts_of (instr.Load32 d a w) = parts op.Load32 d a w
parts_of (instr.Store8 s a w) = parts op.Store8 s a w
parts_of (instr.Store16 s a w) = parts op.Store16 s a w
parts_of (instr.Store32 s a w) = parts op.Store32 s a w
parts_of (instr.Exec a w) = parts op.Exec a w 0
parts_of (instr.Jump n) = parts op.Jump n 0 0
parts_of (instr.Jz a n) = parts op.Jz a n 0
parts_of (instr.Jnz a n) = parts op.Jnz a n 0
parts_of (instr.BoxId d) = parts op.BoxId d 0 0
parts_of (instr.PagesAlloc n t) = parts op.PagesAlloc n t 0
parts_of (instr.PageFree a) = parts op.PageFree a 0 0
parts_of (instr.IrqOn n) = parts op.IrqOn n 0 0
parts_of (instr.IrqOff n) = parts op.IrqOff n 0 0
parts_of instr.IrqReturn = parts op.IrqReturn 0 0 0
parts_of (instr.GwRead d n) = parts op.GwRead d n 0
parts_of (instr.GwWrite s n) = parts op.GwWrite s n 0
parts_of (instr.RpcCall d n) = parts op.RpcCall d n 0
parts_of (instr.RpcSync n m) = parts op.RpcSync n m 0
parts_of instr.RpcTake = parts op.RpcTake 0 0 0
parts_of (instr.RpcReturn s) = parts op.RpcReturn s 0 0
parts_of (instr.RpcResult d s) = parts op.RpcResult d s 0
parts_of instr.Halt = parts op.Halt 0 0 0
