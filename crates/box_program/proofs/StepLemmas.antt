-- A program read line by line is the program of its text.
use Rattle.std.proofs.Common.{◌≡◌, ℕ, ◌+◌, min, Bool, true, false, nat_le, cond, List, [], ◌∷◌, ◌++◌, length, get_or, drop, Result, Ok, Err, refl, sym, ◌∙◌, ap, arith, append_assoc, append-nil, length-append, ◌<◌}
use Rattle.std.specs.Prelude.{if◌then◌else◌}
use Rattle.flat_model.specs.declared.instructions.Instr.{Instr}
use Rattle.flat_model.specs.declared.instructions.BadLine.{BadLine}
use Rattle.flat_model.specs.declared.instructions.AssembleErr.{AssembleErr}
use Rattle.flat_model.specs.declared.instructions.AssembleErr.TheVariants.{Bad, Memory}
use Rattle.flat_model.specs.declared.instructions.Why.{Why}
use Rattle.flat_model.specs.declared.instructions.Why.TheVariants as why
use Rattle.box_program.specs.Program.{◌>>=◌, Statement, statement, has_words, statements, bad_line, instruction, instruction_at, instructions, Assembles}
use Rattle.std.proofs.lemmas.List.{at_drop_more}
use Rattle.box_program.specs.Words.{words}
use Rattle.box_program.specs.Steps.{followed_by, with_statement, with_line, Pushes}

-- what follows a program, given how many instructions it has
abbrev Goes : List Instr → List Statement → List Instr → Result (List Instr) BadLine
Goes done ss more = followed_by more (instructions (length more) ss)

joined : (done : List Instr) (i : Instr) (ss : List Statement) (rest : Result (List Instr) BadLine)
    → followed_by done (rest >>= (λ is. Ok (i ∷ is))) ≡ followed_by (done ++ i ∷ []) rest
unfolding followed_by
joined done i ss (Err e) = refl
joined done i ss (Ok is) = rw append_assoc

one_more : (done : List Instr) (ss : List Statement) (r : Result Instr BadLine)
    → followed_by done (r >>= (λ i. instructions (length done + 1) ss >>= (λ is. Ok (i ∷ is))))
    ≡ ((r >>= (λ i. Ok (done ++ i ∷ []))) >>= (λ more. followed_by more (instructions (length more) ss)))
unfolding followed_by
one_more done ss (Err e) = refl
one_more done ss (Ok i) =
    let long : length (done ++ i ∷ []) ≡ length done + 1 = length-append done (i ∷ []) in
    joined done i ss (instructions (length done + 1) ss) ∙ ap (λ n. followed_by (done ++ i ∷ []) (instructions n ss)) (sym long)

allowed : (done : List Instr) (ss : List Statement) (r : Result Instr BadLine) (b : BadLine) (full : Bool)
    → followed_by done (if full then Err b else (r >>= (λ i. instructions (length done + 1) ss >>= (λ is. Ok (i ∷ is)))))
    ≡ ((if full then Err b else (r >>= (λ i. Ok (done ++ i ∷ [])))) >>= (λ more. followed_by more (instructions (length more) ss)))
unfolding followed_by
allowed done ss r b true = refl
allowed done ss r b false = one_more done ss r

next_statement : (done : List Instr) (s : Statement) (ss : List Statement)
    → followed_by done (instructions (length done) (s ∷ ss)) ≡ (with_statement done s >>= (λ more. followed_by more (instructions (length more) ss)))
unfolding instructions with_statement
next_statement done s ss = allowed done ss (instruction_at s) (bad_line s.line why.TooMany) (nat_le 256 (length done))

kept : (done : List Instr) (s : Statement) (ss : List Statement) (has : Bool)
    → followed_by done (instructions (length done) (cond has (s ∷ ss) ss))
    ≡ ((if has then with_statement done s else Ok done) >>= (λ more. followed_by more (instructions (length more) ss)))
kept done s ss true = next_statement done s ss
kept done s ss false = refl

-- what one more line leaves to be read
pub next_line : (done : List Instr) (n : ℕ) (line : List ℕ) (ls : List (List ℕ))
    → followed_by done (instructions (length done) (statements n (line ∷ ls)))
    ≡ (with_line done n line >>= (λ more. followed_by more (instructions (length more) (statements (n + 1) ls))))
unfolding with_line statements
next_line done n line ls = kept done (statement (n, line)) (statements (n + 1) ls) (has_words (statement (n, line)))

bad_capped : (n : ℕ) (cause : Why) → bad_line (min n 4294967295) cause ≡ bad_line n cause
unfolding bad_line
bad_capped n cause = let e : min (min n 4294967295) 4294967295 ≡ min n 4294967295 = omega arith in rw e

answered_capped : (n : ℕ) (r : Result Instr Why)
    → elim r as (λ _. Result Instr BadLine) [ Ok i ↦ Ok i | Err cause ↦ Err (bad_line (min n 4294967295) cause) ]
    ≡ elim r as (λ _. Result Instr BadLine) [ Ok i ↦ Ok i | Err cause ↦ Err (bad_line n cause) ]
answered_capped n (Ok i) = refl
answered_capped n (Err cause) = ap Err (bad_capped n cause)

-- a number that no `u32` has can as well be the greatest one
pub with_line_capped : (done : List Instr) (n : ℕ) (line : List ℕ) → with_line done (min n 4294967295) line ≡ with_line done n line
unfolding with_line with_statement instruction_at
with_line_capped done n line =
    let refused = bad_capped n why.TooMany in
    let answered = answered_capped n (instruction (words line)) in
    simp (refused, answered)

-- where a line is read, and what is left to be read gives what all of it gave
pub line_read : (done new : List Instr) (ls : List (List ℕ)) (i : ℕ) (line : List ℕ) (want : Result (List Instr) BadLine)
    → i < length ls → line ≡ get_or ls i line
    → followed_by done (instructions (length done) (statements (i + 1) (drop i ls))) ≡ want
    → with_line done (min (i + 1) 4294967295) line ≡ Ok new
    → followed_by new (instructions (length new) (statements (i + 1 + 1) (drop (i + 1) ls))) ≡ want
line_read done new ls i line want lt is before read =
    let step = next_line done (i + 1) line (drop (i + 1) ls) in
    let pushed : with_line done (i + 1) line ≡ Ok new = sym (with_line_capped done (i + 1) line) ∙ read in
    let more = rw pushed at step in
    let here : drop i ls ≡ line ∷ drop (i + 1) ls = at_drop_more (λ xs. xs) ls i line lt ∙ ap (λ x. x ∷ drop (i + 1) ls) (sym is) in
    sym more ∙ ap (λ xs. followed_by done (instructions (length done) (statements (i + 1) xs))) (sym here) ∙ before

-- where a line is refused, all of it is
pub line_refused : (done : List Instr) (ls : List (List ℕ)) (i : ℕ) (line : List ℕ) (want : Result (List Instr) BadLine) (b : BadLine)
    → i < length ls → line ≡ get_or ls i line
    → followed_by done (instructions (length done) (statements (i + 1) (drop i ls))) ≡ want
    → with_line done (min (i + 1) 4294967295) line ≡ Err b
    → want ≡ Err b
line_refused done ls i line want b lt is before read =
    let step = next_line done (i + 1) line (drop (i + 1) ls) in
    let refused : with_line done (i + 1) line ≡ Err b = sym (with_line_capped done (i + 1) line) ∙ read in
    let more = rw refused at step in
    let here : drop i ls ≡ line ∷ drop (i + 1) ls = at_drop_more (λ xs. xs) ls i line lt ∙ ap (λ x. x ∷ drop (i + 1) ls) (sym is) in
    sym before ∙ ap (λ xs. followed_by done (instructions (length done) (statements (i + 1) xs))) here ∙ more

-- where no line is left, the program is what was read
pub all_read : (done : List Instr) (n : ℕ) (ls : List (List ℕ)) (want : Result (List Instr) BadLine)
    → followed_by done (instructions (length done) (statements n ls)) ≡ want → ls ≡ [] → want ≡ Ok done
unfolding followed_by instructions statements
all_read done n ls want before none =
    let empty = rw none at before in
    sym empty ∙ ap Ok (append-nil done)

-- what follows no instructions is the whole
pub none_read : (rest : Result (List Instr) BadLine) → followed_by [] rest ≡ rest
unfolding followed_by
none_read (Ok is) = refl
none_read (Err b) = refl

-- where a line is not added, the answer is that of `assemble`
pub not_added : (Z : Type 0) (done new : List Instr) (ls : List (List ℕ)) (i number : ℕ) (line : List ℕ) (want : Result (List Instr) BadLine) (e : AssembleErr)
    → i < length ls → line ≡ get_or ls i line
    → followed_by done (instructions (length done) (statements (i + 1) (drop i ls))) ≡ want
    → number ≡ min (i + 1) 4294967295
    → Pushes (with_line done number line) new (Err e)
    → Assembles {Z = Z} want (Err e)
not_added Z done new ls i number line want (Bad b) lt is before counted read =
    line_refused done ls i line want b lt is before (rw counted at read)
not_added Z done new ls i number line want Memory lt is before counted read = tt
