-- Inner: no public contract cites this. What one more line does to a program.
use Rattle.std.specs.Prelude.{◌≡◌, ℕ, nat_le, List, [], ◌∷◌, ◌++◌, length, Result, Ok, Err, if◌then◌else◌}
use Rattle.flat_model.specs.declared.instructions.Instr.{Instr}
use Rattle.flat_model.specs.declared.instructions.BadLine.{BadLine}
use Rattle.flat_model.specs.declared.instructions.AssembleErr.{AssembleErr}
use Rattle.flat_model.specs.declared.instructions.AssembleErr.TheVariants.{Bad, Memory}
use Rattle.flat_model.specs.declared.instructions.Why.TheVariants as why
use Rattle.box_program.specs.Program.{◌>>=◌, Statement, statement, has_words, bad_line, instruction_at}

-- instructions and those that follow them
unfoldable pub followed_by : List Instr → Result (List Instr) BadLine → Result (List Instr) BadLine
followed_by done rest = rest >>= (λ is. Ok (done ++ is))

-- the instructions and that of one more statement
unfoldable pub with_statement : List Instr → Statement → Result (List Instr) BadLine
with_statement done s = if nat_le 256 (length done) then Err (bad_line s.line why.TooMany) else (instruction_at s >>= (λ i. Ok (done ++ i ∷ [])))

-- the instructions and that of one more line, if it has words
unfoldable pub with_line : List Instr → ℕ → List ℕ → Result (List Instr) BadLine
with_line done line bytes = if has_words (statement (line, bytes)) then with_statement done (statement (line, bytes)) else Ok done

-- the new instructions are what is wanted; want of memory says nothing
abbrev pub Pushes : Result (List Instr) BadLine → List Instr → Result (Unit {0}) AssembleErr → Type 0
Pushes want new (Ok _) = want ≡ Ok new
Pushes want new (Err (Bad b)) = want ≡ Err b
Pushes want new (Err Memory) = Unit {0}
