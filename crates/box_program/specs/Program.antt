-- The program of a text, or its first bad line and why that line is refused.
use Rattle.std.specs.Prelude.{◌≡◌, ℕ, ◌+◌, ◌-◌, min, Bool, ◌==◌, ◌&&◌, not, nat_le, List, [], ◌∷◌, length, map, filter, slice_get, slice_index, Option, Some, None, option_and_then, Result, Ok, Err, if◌then◌else◌, Vec}
use Rattle.std.specs.List.{enumerate_from}
use Rattle.std.specs.Option.{ok_or, option_map_or}
use Rattle.flat_model.specs.declared.instructions.Instr.{Instr}
use Rattle.flat_model.specs.declared.instructions.BadLine.{BadLine}
use Rattle.flat_model.specs.declared.instructions.AssembleErr.{AssembleErr}
use Rattle.flat_model.specs.declared.instructions.AssembleErr.TheVariants.{Bad, Memory}
use Rattle.flat_model.specs.declared.instructions.Why.{Why}
use Rattle.flat_model.specs.declared.instructions.Why.TheVariants as why
use Rattle.box_program.specs.declared.opcodes.Opcode.{Opcode}
use Rattle.box_program.specs.declared.opcodes.Operand.{Operand}
use Rattle.box_program.specs.declared.opcodes.Operand.TheVariants.{Register, Word, Small, Looks}
use Rattle.box_program.specs.Numbers.{number}
use Rattle.box_program.specs.Opcodes.{row, opcode_of}
use Rattle.box_program.specs.Words.{lines, words}

infixl 10 ◌>>=◌
-- what follows from an answer's value, or its error
abbrev pub ◌>>=◌ : {A B E : Type 0} → Result A E → (A → Result B E) → Result B E
(Ok a) >>= f = f a
(Err e) >>= f = Err e

-- the register that a word names: `r` and a digit from 0 to 7
unfoldable pub register : List ℕ → Option ℕ
register word = if length word == 2 && slice_index word 0 == 114 && nat_le 48 (slice_index word 1) && nat_le (slice_index word 1) 55 then Some (slice_index word 1 - 48) else None

-- the number, where it is between two bounds
unfoldable pub number_within : ℕ → ℕ → Option ℕ → Option ℕ
number_within low high n = option_and_then (λ m. if nat_le low m && nat_le m high then Some m else None) n

-- the value of a word as an operand
unfoldable pub operand : Operand → List ℕ → Result ℕ Why
operand Register word = ok_or (register word) why.Register
operand Word word = ok_or (number_within 0 4294967295 (number word)) why.Number
operand Small word = ok_or (number_within 0 65535 (number word)) why.Number
operand Looks word = ok_or (number_within 1 65535 (number word)) why.Number

-- the value of the operand at a place, and 0 past the operands
unfoldable pub operand_at : List Operand → List (List ℕ) → ℕ → Result ℕ Why
operand_at operands line place =
    option_map_or (λ o. ok_or (slice_get line (place + 1)) why.Count >>= operand o) (slice_get operands place) (Ok 0)

-- the instruction of a kind that a line's words give: its operands are read from the left
unfoldable pub instruction_with : Opcode → List (List ℕ) → Result Instr Why
instruction_with opcode line = do
  a ← operand_at (row opcode).operands line 0
  b ← operand_at (row opcode).operands line 1
  c ← operand_at (row opcode).operands line 2
  Ok ((row opcode).make a b c)

-- the instruction that a line's words give
unfoldable pub instruction : List (List ℕ) → Result Instr Why
instruction line = do
  word ← ok_or (slice_get line 0) why.Word
  opcode ← ok_or (opcode_of word) why.Word
  if length line == length (row opcode).operands + 1 then instruction_with opcode line else Err why.Count

-- a line that has words, and its number
pub record Statement : Type 0 where
  pub line : ℕ
  pub words : List (List ℕ)

-- a numbered line
abbrev pub statement : ℕ × List ℕ → Statement
statement numbered = record { line = numbered.0; words = words numbered.1 }

-- whether the line has words
abbrev pub has_words : Statement → Bool
has_words s = not (length s.words == 0)

-- those of these lines that have words, where the first line's number is given
unfoldable pub statements : ℕ → List (List ℕ) → List Statement
statements first ls = filter has_words (map statement (enumerate_from first ls))

-- a bad line: a number that no `u32` has is the greatest one
unfoldable pub bad_line : ℕ → Why → BadLine
bad_line line cause = record { line = min line 4294967295; why = cause }

-- the instruction of a statement
unfoldable pub instruction_at : Statement → Result Instr BadLine
instruction_at s = elim (instruction s.words) [ Ok i ↦ Ok i | Err cause ↦ Err (bad_line s.line cause) ]

-- the instructions of statements that stand after others, of which there are `before`: a program has at most 256
unfoldable pub instructions : ℕ → List Statement → Result (List Instr) BadLine
instructions before [] = Ok []
instructions before (s ∷ ss) = if nat_le 256 before then Err (bad_line s.line why.TooMany) else (do
  i ← instruction_at s
  is ← instructions (before + 1) ss
  Ok (i ∷ is))

-- the program of a text, or its first bad line
unfoldable pub program : List ℕ → Result (List Instr) BadLine
program text = instructions 0 (statements 1 (lines text))

-- the answer is what is wanted; want of memory says nothing
abbrev pub Assembles : {Z : Type 0} → Result (List Instr) BadLine → Result (Vec Instr Z) AssembleErr → Type 0
Assembles want (Ok v) = want ≡ Ok v.items
Assembles want (Err (Bad b)) = want ≡ Err b
Assembles want (Err Memory) = Unit {0}
