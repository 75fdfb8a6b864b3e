-- What is known of a run of a command that makes its input.
use Rattle.std.proofs.Common.{◌≡◌, ℕ, ◌≤◌, ◌≢◌, Bool, true, false, List, [], ◌∷◌, Option, Some, None, Result, Ok, Err, refl, sym, ◌∙◌, ap, subst, arith, inl, inr}
use Rattle.std.specs.Prelude.{◌⊎◌, nat_eq}
use Rattle.std.specs.Io.KnownBytes.{append_known}
use Rattle.std.proofs.lemmas.Bool.Decides.{nat_tests}
use Rattle.flat_model.specs.declared.logs.Log.{Log}
use Rattle.flat_model.specs.declared.parts.Config.{Config}
use Rattle.flat_model.specs.declared.refusals.Refused.{Refused}
use Rattle.flat_model.specs.Legal.{IsLegal}
use Rattle.flat_model.specs.Log.{choices_of}
use Rattle.flat_model.specs.OneLog.{script_log}
use Rattle.flat_model.specs.Script.{script_choices}
use Rattle.flat_model.specs.Sound.{IsSound}
use Rattle.box_isolation.proofs.WholeIsolation.{isolated}
use Rattle.io_edge.specs.Counts.{Rose}
use Rattle.uvisor_run.specs.declared.commands.Command.{Command}
use Rattle.uvisor_run.specs.declared.commands.Making.{Making}
use Rattle.uvisor_run.specs.declared.commands.Making.TheVariants.{Make, Tally}
use Rattle.uvisor_run.specs.Accept.{config_of}
use Rattle.uvisor_run.specs.Headline.{HasConfig, IsDone, IsMakingRun, IsTallied, IsTold, IsToldInMemory}
use Rattle.uvisor_run.specs.Output.{Output, command_of, counts_output, make_output, making_of, output_of_making, refused_output, tally_by, tally_output}
use Rattle.uvisor_run.proofs.Runs.{one_script_log, script_chosen, script_legal}
use Rattle.uvisor_run.proofs.Told.{told_in_memory}
use Rattle.workload.specs.MadeInput.{made_input}
use Rattle.workload.specs.Tally.{tally_line}

-- ---- what is due

-- the text of a made input was told
pub make_told : (n : ℕ) (text : List ℕ) (written now : Option (List ℕ)) (before after status : ℕ) → text ≡ made_input n → IsTold (record { status = 0; text = text }) written now before after status → IsToldInMemory (make_output n) written now before after status
make_told n text written now before after status is told =
    told_in_memory (make_output n) written now before after status (omega arith)
    (subst (λ (t : List ℕ). IsTold (record { status = 0; text = t }) written now before after status) is told)

-- the counts of the log of a run of the script were told
pub counts_told : (n : ℕ) (cfg : Config) (log : Log) (written now : Option (List ℕ)) (before after status : ℕ) → IsLegal cfg log → choices_of log.items ≡ script_choices cfg → IsTold (record { status = 0; text = tally_line n log }) written now before after status → IsToldInMemory (counts_output n cfg) written now before after status
counts_told n cfg log written now before after status legal chosen told =
    told_in_memory (counts_output n cfg) written now before after status (omega arith)
    (subst (λ (l : Log). IsTold (record { status = 0; text = tally_line n l }) written now before after status) (one_script_log cfg log legal chosen) told)

-- the made input was accepted
pub made_told : (n : ℕ) (bytes : List ℕ) (cfg : Config) (written now : Option (List ℕ)) (before after status : ℕ) → bytes ≡ made_input n → config_of bytes ≡ Ok cfg → IsToldInMemory (counts_output n cfg) written now before after status → IsToldInMemory (tally_output n) written now before after status
unfolding tally_output
made_told n bytes cfg written now before after status is accepted told =
    subst (λ r. IsToldInMemory (tally_by n r) written now before after status) (sym accepted ∙ ap config_of is) told

-- the made input was refused
pub made_refused : (n : ℕ) (bytes : List ℕ) (refusal : Refused) (written now : Option (List ℕ)) (before after status : ℕ) → bytes ≡ made_input n → config_of bytes ≡ Err refusal → IsTold (refused_output refusal) written now before after status → IsToldInMemory (tally_output n) written now before after status
unfolding tally_output
made_refused n bytes refusal written now before after status is refuses told =
    subst (λ r. IsToldInMemory (tally_by n r) written now before after status) (sym refuses ∙ ap config_of is)
    (told_in_memory (refused_output refusal) written now before after status (omega arith) told)

-- the made input has a configuration
pub made_config : (n : ℕ) (bytes : List ℕ) (cfg : Config) → bytes ≡ made_input n → config_of bytes ≡ Ok cfg → IsSound cfg → HasConfig (made_input n)
made_config n bytes cfg is accepted sound = record {
  config = cfg;
  accepted = sym (ap config_of is) ∙ accepted;
  sound = sound;
}

-- a refusal does not end with status 0
pub refused_other : (n : ℕ) (refusal : Refused) (written now : Option (List ℕ)) (before after status : ℕ) → IsTold (refused_output refusal) written now before after status → status ≡ 0 → HasConfig (made_input n)
refused_other n refusal written now before after status told zero =
    absurd (omega (arith, zero, (told.done (λ four. omega (arith, zero, four))).status_due))

-- ---- the run

tally_low : (n : ℕ) → (tally_output n).status ≤ 1
unfolding tally_output
tally_low n = by_answer (config_of (made_input n))
  where
    by_answer : (r : Result Config Refused) → (tally_by n r).status ≤ 1
    by_answer (Ok cfg) = omega arith
    by_answer (Err refusal) = omega arith

making_low : (making : Making) → (output_of_making making).status ≤ 1
making_low (Make n) = omega arith
making_low (Tally n) = tally_low n

-- what is told is done, or a write failed, or memory was refused
pub making_known : (making : Making) (written now : Option (List ℕ)) (before after status : ℕ) → IsToldInMemory (output_of_making making) written now before after status → (status ≤ 1) ⊎ ((status ≡ 4) ⊎ (status ≡ 5))
making_known making written now before after status told = by_tests (nat_eq status 4) (nat_eq status 5) refl refl
  where
    by_tests : (b c : Bool) → nat_eq status 4 ≡ b → nat_eq status 5 ≡ c → (status ≤ 1) ⊎ ((status ≡ 4) ⊎ (status ≡ 5))
    by_tests true c is five = inr (inl (grind (arith, nat_tests)))
    by_tests false true is five = inr (inr (grind (arith, nat_tests)))
    by_tests false false is five =
        let unfailed : status ≢ 4 = grind (arith, nat_tests) in
        let unrefused : status ≢ 5 = grind (arith, nat_tests) in
        inl (omega (arith, making_low making, (told.done unfailed unrefused).status_due))

-- the counts of the one log were written
pub tallied_of : (n : ℕ) (written now : Option (List ℕ)) (before after status : ℕ) → (status ≡ 0 → HasConfig (made_input n)) → IsToldInMemory (tally_output n) written now before after status → status ≡ 0 → IsTallied n written now
unfolding tally_output
tallied_of n written now before after status had told zero =
    let has : HasConfig (made_input n) = had zero in
    let cfg : Config = has.config in
    let due : tally_output n ≡ counts_output n cfg = ap (tally_by n) has.accepted in
    let done = told.done (λ four. omega (arith, zero, four)) (λ five. omega (arith, zero, five)) in
    let legal : IsLegal cfg (script_log cfg) = script_legal cfg has.sound in
    record {
      config = cfg;
      log = script_log cfg;
      accepted = has.accepted;
      choices = script_chosen cfg;
      legal = legal;
      isolation = isolated cfg (script_log cfg) has.sound legal;
      text = done.text_due ∙ ap (λ (o : Output). append_known written o.text) due;
    }

-- two numbers of one command are the same
same_number : (m n : ℕ) → Tally m ≡ Tally n → m ≡ n
same_number m n same = cc

-- the same where the command says the number
pub tallied_same : (m n : ℕ) (written now : Option (List ℕ)) (before after status : ℕ) → Tally m ≡ Tally n → (status ≡ 0 → HasConfig (made_input m)) → IsToldInMemory (tally_output m) written now before after status → status ≡ 0 → IsTallied n written now
tallied_same m n written now before after status same had told zero =
    subst (λ k. IsTallied k written now) (same_number m n same) (tallied_of m written now before after status had told zero)

-- a command that writes a made input tallies none
pub no_tally : (m n : ℕ) (written now : Option (List ℕ)) → Make m ≡ Tally n → IsTallied n written now
no_tally m n written now same = absurd (cc)

-- nothing was read, and what is due was told
pub making_run : (making : Making) (left : Option (List ℕ)) (reads : ℕ) (written now : Option (List ℕ)) (writes writes_now status : ℕ) → (status ≤ 1) ⊎ ((status ≡ 4) ⊎ (status ≡ 5)) → IsToldInMemory (output_of_making making) written now writes writes_now status → (status ≡ 0 → (n : ℕ) → making ≡ Tally n → IsTallied n written now) → IsMakingRun making left left reads reads written now writes writes_now status
making_run making left reads written now writes writes_now status known told tallied = record {
  known = known;
  told = told;
  tallied = tallied;
  nothing_taken = refl;
  nothing_failed = refl;
}

-- where the sink's count did not rise and memory sufficed, what was due was done
pub making_done : (due : Output) (written now : Option (List ℕ)) (before after status : ℕ) → IsToldInMemory due written now before after status → (Rose before after → ⊥) → status ≢ 5 → IsDone due written now status
making_done due written now before after status told no_write memory =
    told.done (λ four. no_write (omega (arith, told.faults.rose four))) memory

-- one word is no command that makes its input
pub no_making : (words : List (List ℕ)) (command : Command) → command_of words ≡ Some command → making_of words ≡ None
no_making [] command is = refl
no_making (word ∷ []) command is = refl
no_making (word ∷ number ∷ []) command is = absurd (cc)
no_making (word ∷ number ∷ more ∷ rest) command is = refl
