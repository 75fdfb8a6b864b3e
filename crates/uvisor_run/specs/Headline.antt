-- What is known of a run of the program, sentence by sentence.
use Rattle.std.specs.Prelude.{◌≡◌, ◌≢◌, ◌≤◌, ◌⊎◌, ℕ, IfSome, Option, List, Ok}
use Rattle.std.specs.Io.KnownBytes.{IsAtEnd, append_known}
use Rattle.box_isolation.specs.Isolation.{Isolated}
use Rattle.io_edge.specs.Counts.{IsCounted}
use Rattle.io_edge.specs.Written.{WrotePart}
use Rattle.flat_model.specs.declared.logs.Log.{Log}
use Rattle.flat_model.specs.declared.parts.Config.{Config}
use Rattle.flat_model.specs.Legal.{IsAgreed, IsFlatRun, IsLegal, IsUnitRun}
use Rattle.flat_model.specs.Log.{choices_of}
use Rattle.flat_model.specs.Script.{script_choices}
use Rattle.flat_model.specs.Sound.{IsSound}
use Rattle.flat_model.specs.Text.{text_of}
use Rattle.uvisor_run.specs.declared.commands.Command.{Command}
use Rattle.uvisor_run.specs.declared.commands.Command.TheVariants.{Script}
use Rattle.uvisor_run.specs.declared.commands.Making.{Making}
use Rattle.uvisor_run.specs.declared.commands.Making.TheVariants.{Tally}
use Rattle.uvisor_run.specs.Accept.{config_of}
use Rattle.uvisor_run.specs.Output.{Output, output_of, output_of_making, usage_output}
use Rattle.workload.specs.MadeInput.{made_input}
use Rattle.workload.specs.Tally.{tally_line}

-- these are the bytes that the source had left, where it tells them
abbrev pub WereLeft : Option (List ℕ) → List ℕ → Type 0
WereLeft left bytes = IfSome left (λ told. told ≡ bytes)

-- nothing is left, where the source tells what is
abbrev pub IsReadToEnd : Option (List ℕ) → Type 0
IsReadToEnd left = IsAtEnd left

-- What was due was done: the status is the due one, and the due text was written whole.
pub record IsDone (due : Output) (written now : Option (List ℕ)) (status : ℕ) : Type 0 where
  pub status_due : status ≡ due.status
  pub text_due : now ≡ append_known written due.text

-- What is due was told: it was done, or a write failed, which is counted once, and a front was written and a rest was not.
pub record IsTold (due : Output) (written now : Option (List ℕ)) (before after status : ℕ) : Type 0 where
  pub done : status ≢ 4 → IsDone due written now status
  pub part : status ≡ 4 → WrotePart written now due.text
  pub faults : IsCounted (status ≡ 4) before after

-- What is due was told, or memory was refused before the first byte was written.
pub record IsToldInMemory (due : Output) (written now : Option (List ℕ)) (before after status : ℕ) : Type 0 where
  pub done : status ≢ 4 → status ≢ 5 → IsDone due written now status
  pub part : status ≡ 4 → WrotePart written now due.text
  pub memory : status ≡ 5 → now ≡ written
  pub faults : IsCounted (status ≡ 4) before after

-- what was due of some bytes that the source had left was done
pub record IsAnswered (command : Command) (left written now : Option (List ℕ)) (status : ℕ) : Type 0 where
  pub bytes : List ℕ
  pub were_left : WereLeft left bytes
  pub done : IsDone (output_of command bytes) written now status

-- of what was due of some bytes that the source had left a front was written and a rest was not
pub record IsBroken (command : Command) (left written now : Option (List ℕ)) : Type 0 where
  pub bytes : List ℕ
  pub were_left : WereLeft left bytes
  pub part : WrotePart written now (output_of command bytes).text

-- an input was accepted, and all of it was read
pub record IsAccepted (left left_now : Option (List ℕ)) : Type 0 where
  pub bytes : List ℕ
  pub were_left : WereLeft left bytes
  pub to_the_end : IsReadToEnd left_now
  pub config : Config
  pub accepted : config_of bytes ≡ Ok config

-- The script of an accepted input was run: what was written is the text of its one log, and each answer that a box got is
-- a function of its own part and of what reached it.
pub record IsScriptRun (left left_now written written_now : Option (List ℕ)) : Type 0 where
  pub bytes : List ℕ
  pub config : Config
  pub log : Log
  pub were_left : WereLeft left bytes
  pub to_the_end : IsReadToEnd left_now
  pub accepted : config_of bytes ≡ Ok config
  pub choices : choices_of log.items ≡ script_choices config
  pub flat_run : IsFlatRun config log
  pub unit_run : IsUnitRun config log
  pub grants : IsAgreed log
  pub isolation : Isolated config log
  pub text : written_now ≡ append_known written (text_of config log)

-- the bytes are those of a sound configuration
pub record HasConfig (bytes : List ℕ) : Type 0 where
  pub config : Config
  pub accepted : config_of bytes ≡ Ok config
  pub sound : IsSound config

-- words that are no command: the usage line was told, and nothing was read
pub record IsUsageRun (left left_now : Option (List ℕ)) (failed_reads failed_reads_now : ℕ) (written now : Option (List ℕ)) (failed_writes failed_writes_now status : ℕ) : Type 0 where
  pub told : IsTold usage_output written now failed_writes failed_writes_now status
  pub nothing_taken : left_now ≡ left
  pub nothing_failed : failed_reads_now ≡ failed_reads

-- What is known of a run of a command, by its status. The statuses 3 and 4 say that a read and that a write failed.
pub record IsCommandRun (command : Command) (left left_now : Option (List ℕ)) (failed_reads failed_reads_now : ℕ) (written now : Option (List ℕ)) (failed_writes failed_writes_now status : ℕ) : Type 0 where
  pub known : (status ≤ 1) ⊎ ((status ≡ 3) ⊎ ((status ≡ 4) ⊎ (status ≡ 5)))
  pub answered : status ≤ 1 → IsAnswered command left written now status
  pub accepted : status ≡ 0 → IsAccepted left left_now
  pub script_run : status ≡ 0 → command ≡ Script → IsScriptRun left left_now written now
  pub read_fault : status ≡ 3 → now ≡ written
  pub broken : status ≡ 4 → IsBroken command left written now
  pub memory : status ≡ 5 → now ≡ written
  pub reads : IsCounted (status ≡ 3) failed_reads failed_reads_now
  pub writes : IsCounted (status ≡ 4) failed_writes failed_writes_now

-- The script of the input that is made from this number was run: what was written is the line of the counts of its one
-- log, which is a run of both machines and isolates each box.
pub record IsTallied (n : ℕ) (written now : Option (List ℕ)) : Type 0 where
  pub config : Config
  pub log : Log
  pub accepted : config_of (made_input n) ≡ Ok config
  pub choices : choices_of log.items ≡ script_choices config
  pub legal : IsLegal config log
  pub isolation : Isolated config log
  pub text : now ≡ append_known written (tally_line n log)

-- What is known of a run of a command that makes its input, by its status. Nothing is read.
pub record IsMakingRun (making : Making) (left left_now : Option (List ℕ)) (failed_reads failed_reads_now : ℕ) (written now : Option (List ℕ)) (failed_writes failed_writes_now status : ℕ) : Type 0 where
  pub known : (status ≤ 1) ⊎ ((status ≡ 4) ⊎ (status ≡ 5))
  pub told : IsToldInMemory (output_of_making making) written now failed_writes failed_writes_now status
  pub tallied : status ≡ 0 → (n : ℕ) → making ≡ Tally n → IsTallied n written now
  pub nothing_taken : left_now ≡ left
  pub nothing_failed : failed_reads_now ≡ failed_reads
