-- The one spelling of an instruction.
use Rattle.std.specs.Prelude.{ℕ, zero, suc, ◌/◌, ◌%◌, true, List, [], ◌∷◌, ◌++◌, slice_get, codes}
use Rattle.std.specs.Fmt.{decimal, digit_glyph}
use Rattle.std.specs.Option.{option_map_or}
use Rattle.flat_model.specs.declared.instructions.Instr.{Instr}
use Rattle.box_program.specs.declared.opcodes.Operand.{Operand}
use Rattle.box_program.specs.declared.opcodes.Operand.TheVariants.{Register, Word, Small, Looks}
use Rattle.box_program.specs.declared.opcodes.Parts.{Parts}
use Rattle.box_program.specs.Opcodes.{row, parts_of}

-- so many hexadecimal digits of a number in upper case, the lowest last
unfoldable pub hexadecimal_digits : ℕ → ℕ → List ℕ
hexadecimal_digits zero n = []
hexadecimal_digits (suc k) n = hexadecimal_digits k (n / 16) ++ digit_glyph true (n % 16) ∷ []

-- an operand as it is shown: a word has eight hexadecimal digits, and a small number is decimal
unfoldable pub operand_text : Operand → ℕ → List ℕ
operand_text Register n = codes "r" ++ decimal n
operand_text Word n = codes "0x" ++ hexadecimal_digits 8 n
operand_text Small n = decimal n
operand_text Looks n = decimal n

-- a space and the operand at a place, where there is one
unfoldable pub operand_text_at : List Operand → ℕ → ℕ → List ℕ
operand_text_at operands place n = option_map_or (λ o. 32 ∷ operand_text o n) (slice_get operands place) []

-- the words of parts, separated by one space
unfoldable pub text_of_parts : Parts → List ℕ
text_of_parts p =
    let operands = (row p.opcode).operands in
    (row p.opcode).word ++ operand_text_at operands 0 p.first ++ operand_text_at operands 1 p.second ++ operand_text_at operands 2 p.third

-- an instruction as it is shown
unfoldable pub text_of_instruction : Instr → List ℕ
text_of_instruction i = text_of_parts (parts_of i)
