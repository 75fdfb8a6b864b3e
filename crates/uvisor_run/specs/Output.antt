-- What is due for the words of a command line and the bytes of an input: a status and a text.
use Rattle.std.specs.Prelude.{ℕ, Option, Some, None, List, [], ◌∷◌, ◌++◌, codes, Result, Ok, Err, if◌then◌else◌}
use Rattle.std.specs.Option.{option_and_then}
use Rattle.std.specs.Str.{bytes_eq}
use Rattle.flat_model.specs.declared.logs.Log.{Log}
use Rattle.flat_model.specs.declared.parts.Config.{Config}
use Rattle.flat_model.specs.declared.refusals.Refused.{Refused}
use Rattle.flat_model.specs.OneLog.{script_log}
use Rattle.flat_model.specs.Text.{text_of}
use Rattle.uvisor_run.specs.declared.commands.Command.{Command}
use Rattle.uvisor_run.specs.declared.commands.Command.TheVariants.{Check, Script}
use Rattle.uvisor_run.specs.declared.commands.Making.{Making}
use Rattle.uvisor_run.specs.declared.commands.Making.TheVariants.{Make, Tally}
use Rattle.uvisor_run.specs.Accept.{config_of}
use Rattle.uvisor_run.specs.CheckText.{check_text}
use Rattle.uvisor_run.specs.RefusalText.{refusal_line}
use Rattle.workload.specs.InputNumber.{input_number}
use Rattle.workload.specs.MadeInput.{made_input}
use Rattle.workload.specs.Tally.{tally_line}

-- the command of one word, where it is one
abbrev pub command_named : List ℕ → Option Command
command_named word =
    if bytes_eq word (codes "script") then Some Script
    else (if bytes_eq word (codes "check") then Some Check else None)

-- the command that the words after the program's name are, where they are one
abbrev pub command_of : List (List ℕ) → Option Command
command_of (word ∷ []) = command_named word
command_of _ = None

-- the command of this word and this number that makes its input, where they are one
abbrev pub making_named : List ℕ → ℕ → Option Making
making_named word n =
    if bytes_eq word (codes "make") then Some (Make n)
    else (if bytes_eq word (codes "tally") then Some (Tally n) else None)

-- the command that makes its input that the words after the program's name are, where they are one
abbrev pub making_of : List (List ℕ) → Option Making
making_of (word ∷ number ∷ []) = option_and_then (making_named word) (input_number number)
making_of _ = None

-- the line that tells how the program is called
unfoldable pub usage_line : List ℕ
usage_line = codes "usage: uvisor script | threads | check | make N | tally N" ++ 10 ∷ []

-- a status and a text
pub record Output : Type 0 where
  pub status : ℕ
  pub text : List ℕ

-- what is due for words that are no command
abbrev pub usage_output : Output
usage_output = record { status = 2; text = usage_line }

-- what is due for a log
abbrev pub log_output : Config → Log → Output
log_output cfg log = record { status = 0; text = text_of cfg log }

-- what is due for an input that is refused
abbrev pub refused_output : Refused → Output
refused_output refusal = record { status = 1; text = refusal_line refusal }

-- what a command is due to write of a configuration
abbrev pub output_for : Command → Config → Output
output_for Check cfg = record { status = 0; text = check_text cfg }
output_for Script cfg = log_output cfg (script_log cfg)

-- what a command is due to write of an input with this answer
abbrev pub output_by : Command → Result Config Refused → Output
output_by command (Ok cfg) = output_for command cfg
output_by command (Err refusal) = refused_output refusal

-- what a command is due to write of the bytes of an input
unfoldable pub output_of : Command → List ℕ → Output
output_of command bytes = output_by command (config_of bytes)

-- what is due for the counts of a configuration's script, which was made from this number
abbrev pub counts_output : ℕ → Config → Output
counts_output n cfg = record { status = 0; text = tally_line n (script_log cfg) }

-- what is due for the counts of an input with this answer
abbrev pub tally_by : ℕ → Result Config Refused → Output
tally_by n (Ok cfg) = counts_output n cfg
tally_by n (Err refusal) = refused_output refusal

-- what is due for the counts of the input that is made from this number
unfoldable pub tally_output : ℕ → Output
tally_output n = tally_by n (config_of (made_input n))

-- what is due for the text of the input that is made from this number
abbrev pub make_output : ℕ → Output
make_output n = record { status = 0; text = made_input n }

-- what a command that makes its input is due to write
abbrev pub output_of_making : Making → Output
output_of_making (Make n) = make_output n
output_of_making (Tally n) = tally_output n
