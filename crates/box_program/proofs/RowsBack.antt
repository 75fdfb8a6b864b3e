-- Each row of the table of instruction words: its word is shown and named as it is, and an instruction is made again of its parts.
use Rattle.std.proofs.Common.{◌≡◌, ℕ, Bool, true, false, not, ◌&&◌, nat_le, List, [], ◌∷◌, Some, refl}
use Rattle.std.specs.Prelude.{nat_eq}
use Rattle.std.specs.List.{list_all}
use Rattle.std.proofs.lemmas.Bool.{leb-true}
use Rattle.flat_model.specs.Operands.{IsValidInstr}
use Rattle.flat_model.specs.declared.instructions.Instr.{Instr}
use Rattle.flat_model.specs.declared.instructions.Instr.TheVariants as instr
use Rattle.box_program.specs.declared.opcodes.Opcode.{Opcode}
use Rattle.box_program.specs.declared.opcodes.Opcode.TheVariants as op
use Rattle.box_program.specs.declared.opcodes.Operand.{Operand}
use Rattle.box_program.specs.Opcodes.{row, opcodes, is_named, opcode_of, parts_of}
use Rattle.box_program.specs.Words.{has_bytes}
use Rattle.box_program.proofs.ValidLemmas.{IsOperand}
use Rattle.box_program.proofs.WordsBack.{AllSolid, IsShownWord}

both : (a b : Bool) → (a && b) ≡ true → (a ≡ true) × (b ≡ true)
both true b h = (refl, h)
both false b h = cc

false_from_not : (b : Bool) → not b ≡ true → b ≡ false
false_from_not true h = cc
false_from_not false h = refl

AllSolid-from_test : (bs : List ℕ) → list_all (λ b. nat_le 48 b && not (nat_eq b 59)) bs ≡ true → AllSolid bs
AllSolid-from_test [] h = tt
AllSolid-from_test (b ∷ bs) h =
    let first = both (nat_le 48 b && not (nat_eq b 59)) _ h in
    let byte = both (nat_le 48 b) _ first.0 in
    ((leb-true 48 b byte.0, false_from_not (nat_eq b 59) byte.1), AllSolid-from_test bs first.1)

word_test : (o : Opcode) → (has_bytes (row o).word && list_all (λ b. nat_le 48 b && not (nat_eq b 59)) (row o).word) ≡ true
unfolding row has_bytes
word_test op.Set = refl
word_test op.Mov = refl
word_test op.Add = refl
word_test op.Sub = refl
word_test op.And = refl
word_test op.Orr = refl
word_test op.Eor = refl
word_test op.Load8 = refl
word_test op.Load16 = refl
word_test op.Load32 = refl
word_test op.Store8 = refl
word_test op.Store16 = refl
word_test op.Store32 = refl
word_test op.Exec = refl
word_test op.Jump = refl
word_test op.Jz = refl
word_test op.Jnz = refl
word_test op.BoxId = refl
word_test op.PagesAlloc = refl
word_test op.PageFree = refl
word_test op.IrqOn = refl
word_test op.IrqOff = refl
word_test op.IrqReturn = refl
word_test op.GwRead = refl
word_test op.GwWrite = refl
word_test op.RpcCall = refl
word_test op.RpcSync = refl
word_test op.RpcTake = refl
word_test op.RpcReturn = refl
word_test op.RpcResult = refl
word_test op.Halt = refl

-- the word of each row is one that can be shown
pub word_shown : (o : Opcode) → IsShownWord (row o).word
word_shown o = let tests = both _ _ (word_test o) in record { solid = AllSolid-from_test (row o).word tests.1; some = tests.0 }

-- the word of each row names it
pub opcode_of_word : (o : Opcode) → opcode_of (row o).word ≡ Some o
unfolding row opcodes is_named opcode_of
opcode_of_word op.Set = refl
opcode_of_word op.Mov = refl
opcode_of_word op.Add = refl
opcode_of_word op.Sub = refl
opcode_of_word op.And = refl
opcode_of_word op.Orr = refl
opcode_of_word op.Eor = refl
opcode_of_word op.Load8 = refl
opcode_of_word op.Load16 = refl
opcode_of_word op.Load32 = refl
opcode_of_word op.Store8 = refl
opcode_of_word op.Store16 = refl
opcode_of_word op.Store32 = refl
opcode_of_word op.Exec = refl
opcode_of_word op.Jump = refl
opcode_of_word op.Jz = refl
opcode_of_word op.Jnz = refl
opcode_of_word op.BoxId = refl
opcode_of_word op.PagesAlloc = refl
opcode_of_word op.PageFree = refl
opcode_of_word op.IrqOn = refl
opcode_of_word op.IrqOff = refl
opcode_of_word op.IrqReturn = refl
opcode_of_word op.GwRead = refl
opcode_of_word op.GwWrite = refl
opcode_of_word op.RpcCall = refl
opcode_of_word op.RpcSync = refl
opcode_of_word op.RpcTake = refl
opcode_of_word op.RpcReturn = refl
opcode_of_word op.RpcResult = refl
opcode_of_word op.Halt = refl

-- the numbers are operands, and 0 past them
abbrev pub Fits : List Operand → ℕ → ℕ → ℕ → Type 0
Fits [] a b c = (a ≡ 0) × (b ≡ 0) × (c ≡ 0)
Fits (o ∷ []) a b c = IsOperand o a × (b ≡ 0) × (c ≡ 0)
Fits (o ∷ p ∷ []) a b c = IsOperand o a × IsOperand p b × (c ≡ 0)
Fits (o ∷ p ∷ q ∷ []) a b c = IsOperand o a × IsOperand p b × IsOperand q c
Fits (o ∷ p ∷ q ∷ _ ∷ _) a b c = ⊥

-- the parts of a valid instruction are operands of its kind
pub parts_fit : (i : Instr) → IsValidInstr i → Fits (row (parts_of i).opcode).operands (parts_of i).first (parts_of i).second (parts_of i).third
unfolding row parts_of
parts_fit (instr.Set d w) h = (h.0, h.1, refl)
parts_fit (instr.Mov d s) h = (h.0, h.1, refl)
parts_fit (instr.Add d a b) h = h
parts_fit (instr.Sub d a b) h = h
parts_fit (instr.And d a b) h = h
parts_fit (instr.Orr d a b) h = h
parts_fit (instr.Eor d a b) h = h
parts_fit (instr.Load8 d a w) h = h
parts_fit (instr.Load16 d a w) h = h
parts_fit (instr.Load32 d a w) h = h
parts_fit (instr.Store8 s a w) h = h
parts_fit (instr.Store16 s a w) h = h
parts_fit (instr.Store32 s a w) h = h
parts_fit (instr.Exec a w) h = (h.0, h.1, refl)
parts_fit (instr.Jump n) h = (h, refl, refl)
parts_fit (instr.Jz a n) h = (h.0, h.1, refl)
parts_fit (instr.Jnz a n) h = (h.0, h.1, refl)
parts_fit (instr.BoxId d) h = (h, refl, refl)
parts_fit (instr.PagesAlloc n t) h = (h.0, h.1, refl)
parts_fit (instr.PageFree a) h = (h, refl, refl)
parts_fit (instr.IrqOn n) h = (h, refl, refl)
parts_fit (instr.IrqOff n) h = (h, refl, refl)
parts_fit instr.IrqReturn h = (refl, refl, refl)
parts_fit (instr.GwRead d n) h = (h.0, h.1, refl)
parts_fit (instr.GwWrite s n) h = (h.0, h.1, refl)
parts_fit (instr.RpcCall d n) h = (h.0, h.1, refl)
parts_fit (instr.RpcSync n m) h = (h.0, h.1, refl)
parts_fit instr.RpcTake h = (refl, refl, refl)
parts_fit (instr.RpcReturn s) h = (h, refl, refl)
parts_fit (instr.RpcResult d s) h = (h.0, h.1, refl)
parts_fit instr.Halt h = (refl, refl, refl)

-- an instruction is made again of its parts
pub made_of_parts : (i : Instr) → (row (parts_of i).opcode).make (parts_of i).first (parts_of i).second (parts_of i).third ≡ i
unfolding row parts_of
made_of_parts (instr.Set d w) = refl
made_of_parts (instr.Mov d s) = refl
made_of_parts (instr.Add d a b) = refl
made_of_parts (instr.Sub d a b) = refl
made_of_parts (instr.And d a b) = refl
made_of_parts (instr.Orr d a b) = refl
made_of_parts (instr.Eor d a b) = refl
made_of_parts (instr.Load8 d a w) = refl
made_of_parts (instr.Load16 d a w) = refl
made_of_parts (instr.Load32 d a w) = refl
made_of_parts (instr.Store8 s a w) = refl
made_of_parts (instr.Store16 s a w) = refl
made_of_parts (instr.Store32 s a w) = refl
made_of_parts (instr.Exec a w) = refl
made_of_parts (instr.Jump n) = refl
made_of_parts (instr.Jz a n) = refl
made_of_parts (instr.Jnz a n) = refl
made_of_parts (instr.BoxId d) = refl
made_of_parts (instr.PagesAlloc n t) = refl
made_of_parts (instr.PageFree a) = refl
made_of_parts (instr.IrqOn n) = refl
made_of_parts (instr.IrqOff n) = refl
made_of_parts instr.IrqReturn = refl
made_of_parts (instr.GwRead d n) = refl
made_of_parts (instr.GwWrite s n) = refl
made_of_parts (instr.RpcCall d n) = refl
made_of_parts (instr.RpcSync n m) = refl
made_of_parts instr.RpcTake = refl
made_of_parts (instr.RpcReturn s) = refl
made_of_parts (instr.RpcResult d s) = refl
made_of_parts instr.Halt = refl
