-- What is shown of an instruction is read as that instruction.
use Rattle.std.proofs.Common.{◌≡◌, ℕ, zero, suc, ◌+◌, ◌/◌, ◌%◌, ◌^◌, ◌<◌, true, false, List, [], ◌∷◌, ◌++◌, length, Ok, Err, Result, refl, ap, inl, inr, lit≤, ◌∙◌, arith, append-nil, append_assoc}
use Rattle.std.specs.Prelude.{nat_eq, nat_lt}
use Rattle.std.specs.Fmt.{decimal, digit_glyph}
use Rattle.std.proofs.lemmas.Bool.{ne_eqb, eq-eqb, lt-ltb, cases_lt}
use Rattle.std.proofs.lemmas.Bool.Decides.{nat_tests}
use Rattle.std.proofs.lemmas.Fmt.{decimal_by_steps, decimal_nonempty}
use Rattle.flat_model.specs.Operands.{IsValidInstr}
use Rattle.flat_model.specs.declared.instructions.Instr.{Instr}
use Rattle.flat_model.specs.declared.instructions.BadLine.{BadLine}
use Rattle.flat_model.specs.declared.instructions.Why.{Why}
use Rattle.box_program.specs.declared.opcodes.Opcode.{Opcode}
use Rattle.box_program.specs.declared.opcodes.Operand.{Operand}
use Rattle.box_program.specs.declared.opcodes.Operand.TheVariants.{Register, Word, Small, Looks}
use Rattle.box_program.specs.Opcodes.{row, parts_of}
use Rattle.box_program.specs.Program.{◌>>=◌, Statement, bad_line, operand_at, instruction_with, instruction, instruction_at, instructions, statements, program}
use Rattle.box_program.specs.Shown.{hexadecimal_digits, operand_text, operand_text_at, text_of_parts, text_of_instruction}
use Rattle.box_program.specs.Words.{has_bytes}
use Rattle.box_program.proofs.ValidLemmas.{IsOperand}
use Rattle.box_program.proofs.NumbersBack.{operand_back}
use Rattle.box_program.proofs.WordsBack.{IsSolid, AllSolid, AllSolid-append, IsShownWord, AreShownWords, spaced, words_spaced, lines_spaced}
use Rattle.box_program.proofs.RowsBack.{word_shown, opcode_of_word, Fits, parts_fit, made_of_parts}

has_bytes-from_long : (bs : List ℕ) → 0 < length bs → has_bytes bs ≡ true
unfolding has_bytes
has_bytes-from_long bs h = let some : nat_eq (length bs) 0 ≡ false = ne_eqb (length bs) 0 (λ e. absurd (omega (arith, e))) in rw some

digit_solid : (n : ℕ) → n < 10 → IsSolid (48 + n)
digit_solid n h = (omega arith, ne_eqb (48 + n) 59 (λ e. absurd (omega (arith, e))))

decimal_solid : (n : ℕ) → n < 2 ^ 32 → AllSolid (decimal n)
decimal_solid n h =
    decimal_by_steps (λ _ ds. AllSolid ds) (λ m small. (digit_solid m small, tt))
    (λ m ds _ front. AllSolid-append ds ((48 + m % 10) ∷ []) front (digit_solid (m % 10) (omega arith), tt)) n (omega arith)

glyph_solid : (d : ℕ) → d < 16 → IsSolid (digit_glyph true d)
glyph_solid d h =
    elim (cases_lt d 10) as (λ _. IsSolid (digit_glyph true d)) [
      | inl low ↦ let test : nat_lt d 10 ≡ true = lt-ltb d 10 low in rw test (digit_solid d low)
      | inr high ↦
          let test : nat_lt d 10 ≡ false = grind (arith, nat_tests) in
          rw test (omega arith, ne_eqb (55 + d) 59 (λ e. absurd (omega (arith, e))))
    ]

hexadecimal_solid : (k n : ℕ) → AllSolid (hexadecimal_digits k n)
unfolding hexadecimal_digits
hexadecimal_solid zero n = tt
hexadecimal_solid (suc k) n =
    AllSolid-append (hexadecimal_digits k (n / 16)) (digit_glyph true (n % 16) ∷ []) (hexadecimal_solid k (n / 16)) (glyph_solid (n % 16) (omega arith), tt)

-- an operand is shown as a word
operand_shown : (o : Operand) (n : ℕ) → IsOperand o n → IsShownWord (operand_text o n)
unfolding operand_text
operand_shown Register n h = record { solid = ((lit≤ tt, refl), decimal_solid n (omega arith)); some = has_bytes-from_long _ (omega arith) }
operand_shown Word n h = record { solid = ((lit≤ tt, refl), ((lit≤ tt, refl), hexadecimal_solid 8 n)); some = has_bytes-from_long _ (omega arith) }
operand_shown Small n h = record { solid = decimal_solid n (omega arith); some = has_bytes-from_long _ (decimal_nonempty n (omega arith)) }
operand_shown Looks n h = record { solid = decimal_solid n (omega arith); some = has_bytes-from_long _ (decimal_nonempty n (omega arith)) }

-- the operands' words
abbrev texts : List Operand → ℕ → ℕ → ℕ → List (List ℕ)
texts [] a b c = []
texts (o ∷ []) a b c = operand_text o a ∷ []
texts (o ∷ p ∷ []) a b c = operand_text o a ∷ operand_text p b ∷ []
texts (o ∷ p ∷ q ∷ _) a b c = operand_text o a ∷ operand_text p b ∷ operand_text q c ∷ []

texts_shown : (os : List Operand) (a b c : ℕ) → Fits os a b c → AreShownWords (texts os a b c)
texts_shown [] a b c h = tt
texts_shown (o ∷ []) a b c h = (operand_shown o a h.0, tt)
texts_shown (o ∷ p ∷ []) a b c h = (operand_shown o a h.0, (operand_shown p b h.1, tt))
texts_shown (o ∷ p ∷ q ∷ []) a b c h = (operand_shown o a h.0, (operand_shown p b h.1, (operand_shown q c h.2, tt)))
texts_shown (o ∷ p ∷ q ∷ r ∷ os) a b c h = absurd h

length-texts : (os : List Operand) (a b c : ℕ) → Fits os a b c → length (texts os a b c) ≡ length os
length-texts [] a b c h = refl
length-texts (o ∷ []) a b c h = refl
length-texts (o ∷ p ∷ []) a b c h = refl
length-texts (o ∷ p ∷ q ∷ []) a b c h = refl
length-texts (o ∷ p ∷ q ∷ r ∷ os) a b c h = absurd h

text_spaced : (w : List ℕ) (os : List Operand) (a b c : ℕ) → Fits os a b c
    → w ++ operand_text_at os 0 a ++ operand_text_at os 1 b ++ operand_text_at os 2 c ≡ w ++ spaced (texts os a b c)
unfolding operand_text_at
text_spaced w [] a b c h = simp append-nil
text_spaced w (o ∷ []) a b c h = simp append-nil
text_spaced w (o ∷ p ∷ []) a b c h = simp (append-nil, append_assoc)
text_spaced w (o ∷ p ∷ q ∷ []) a b c h = simp (append-nil, append_assoc)
text_spaced w (o ∷ p ∷ q ∷ r ∷ os) a b c h = absurd h

operands_read : (make : ℕ → ℕ → ℕ → Instr) (w : List ℕ) (os : List Operand) (a b c : ℕ) → Fits os a b c
    → (operand_at os (w ∷ texts os a b c) 0 >>= (λ x. operand_at os (w ∷ texts os a b c) 1 >>= (λ y. operand_at os (w ∷ texts os a b c) 2 >>= (λ z. Ok (make x y z))))) ≡ Ok (make a b c)
unfolding operand_at
operands_read make w [] a b c h = rw (h.0, h.1, h.2)
operands_read make w (o ∷ []) a b c h = rw (operand_back o a h.0, h.1, h.2)
operands_read make w (o ∷ p ∷ []) a b c h = rw (operand_back o a h.0, operand_back p b h.1, h.2)
operands_read make w (o ∷ p ∷ q ∷ []) a b c h = rw (operand_back o a h.0, operand_back p b h.1, operand_back q c h.2)
operands_read make w (o ∷ p ∷ q ∷ r ∷ os) a b c h = absurd h

instruction_read : (o : Opcode) (a b c : ℕ) → Fits (row o).operands a b c
    → instruction ((row o).word ∷ texts (row o).operands a b c) ≡ Ok ((row o).make a b c)
unfolding instruction instruction_with
instruction_read o a b c h =
    let os = (row o).operands in
    let count : nat_eq (suc (length os)) (length os + 1) ≡ true = eq-eqb _ _ (omega arith) in
    rw (opcode_of_word o, length-texts os a b c h, count) (operands_read (row o).make (row o).word os a b c h)

answered : (n : ℕ) (r : Result Instr Why) (i : Instr) → r ≡ Ok i → elim r as (λ _. Result Instr BadLine) [ Ok j ↦ Ok j | Err cause ↦ Err (bad_line n cause) ] ≡ Ok i
answered n (Ok j) i h = cc
answered n (Err cause) i h = cc

instruction_at_read : (s : Statement) (i : Instr) → instruction s.words ≡ Ok i → instruction_at s ≡ Ok i
unfolding instruction_at
instruction_at_read s i h = answered s.line (instruction s.words) i h

program_spaced : (w : List ℕ) (ws : List (List ℕ)) (i : Instr) → IsShownWord w → AreShownWords ws → instruction (w ∷ ws) ≡ Ok i → program (w ++ spaced ws) ≡ Ok (i ∷ [])
unfolding program statements instructions
program_spaced w ws i shown all_shown read =
    let some : nat_eq (suc (length ws)) 0 ≡ false = ne_eqb (suc (length ws)) 0 (λ e. absurd (omega (arith, e))) in
    rw (lines_spaced w ws shown all_shown, words_spaced w ws shown all_shown, some, instruction_at_read (record { line = 1; words = w ∷ ws }) i read)

-- what is shown of an instruction is read as that instruction
pub program_of_shown : (i : Instr) → IsValidInstr i → program (text_of_instruction i) ≡ Ok (i ∷ [])
unfolding text_of_instruction text_of_parts
program_of_shown i valid =
    let p = parts_of i in
    let o = row p.opcode in
    let fit = parts_fit i valid in
    let read = instruction_read p.opcode p.first p.second p.third fit ∙ ap Ok (made_of_parts i) in
    rw (text_spaced o.word o.operands p.first p.second p.third fit)
    (program_spaced o.word (texts o.operands p.first p.second p.third) i (word_shown p.opcode) (texts_shown o.operands p.first p.second p.third fit) read)
