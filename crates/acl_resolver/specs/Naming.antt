-- What names stand for: boxes, and the words of a script.
use Rattle.std.specs.Prelude.{ℕ, ◌+◌, ◌%◌, ◌^◌, Bool, ◌&&◌, not, nat_eq, is_none, is_some, Option, List, [], ◌∷◌, ◌++◌, map, length, codes, find, if◌then◌else◌}
use Rattle.std.specs.Fmt.{decimal}
use Rattle.std.specs.List.{list_all, list_any, position_from}
use Rattle.std.specs.Option.{option_map, option_or}
use Rattle.std.specs.Str.{bytes_eq}
use Rattle.addr_base.specs.Range.{holds_bytes}
use Rattle.addr_base.specs.declared.identity.Line.{Line}
use Rattle.flat_model.specs.declared.boards.Board.{Board}
use Rattle.flat_model.specs.declared.parts.DevicePart.{DevicePart}
use Rattle.flat_model.specs.declared.parts.IrqPart.{IrqPart}
use Rattle.flat_model.specs.declared.parts.ScriptWord.{ScriptWord}
use Rattle.flat_model.specs.declared.parts.ScriptWord.TheVariants as word
use Rattle.flat_model.specs.declared.refusals.Refused.{Refused}
use Rattle.flat_model.specs.declared.refusals.Refused.TheVariants as refused
use Rattle.flat_model.specs.declared.refusals.Spot.TheVariants as spot
use Rattle.flat_model.specs.declared.texts.BoxText.{BoxText}
use Rattle.flat_model.specs.declared.texts.GateTexts.{GateTexts}
use Rattle.flat_model.specs.declared.texts.RegText.{RegText}
use Rattle.flat_model.specs.declared.texts.RpcText.{RpcText}
use Rattle.flat_model.specs.declared.texts.ThreadText.{ThreadText}
use Rattle.flat_model.specs.First.{refuse_if}
use Rattle.acl_resolver.specs.declared.spelling.Spelled.{Spelled}
use Rattle.acl_resolver.specs.Refusals.{first_numbered, is_line_of_some}

-- whether the box has this name
abbrev pub has_name : List ℕ → BoxText → Bool
has_name name b = bytes_eq b.name name

-- the number of the box with this name
abbrev pub box_named : List BoxText → List ℕ → Option ℕ
box_named boxes name = position_from (has_name name) 0 boxes

-- whether the name is a box's
abbrev pub is_named : List BoxText → List ℕ → Bool
is_named boxes name = is_some (box_named boxes name)

-- whether each of the names is a box's
abbrev pub all_named : List BoxText → List (List ℕ) → Bool
all_named boxes names = list_all (is_named boxes) names

-- the set of the boxes, from the number i on, whose names are among these: bit i for box i
abbrev pub set_of_names : ℕ → List BoxText → List (List ℕ) → ℕ
set_of_names i [] names = 0
set_of_names i (b ∷ boxes) names =
    (if list_any (bytes_eq b.name) names then 2 ^ i else 0) + set_of_names (i + 1) boxes names

-- whether the register gateway is at a multiple of 4 inside the peripherals
abbrev pub is_register_address : Board → ℕ → Bool
is_register_address board at = nat_eq (at % 4) 0 && holds_bytes board.peripherals at 4

-- the register gateway, where it is at a wrong address or has a name that is no box's
abbrev pub bad_register_at : Board → List BoxText → ℕ → RegText → Option Refused
bad_register_at board boxes k gate =
    refuse_if (not (is_register_address board gate.at && all_named boxes gate.boxes)) (refused.BadGateway (spot.Register k))

-- a register gateway at a wrong address, or with a name that is no box's
abbrev pub bad_register : Board → List BoxText → List RegText → Option Refused
bad_register board boxes registers = first_numbered (bad_register_at board boxes) 0 registers

-- the gateway for calls, where it has a caller that is no box
abbrev pub bad_callers_at : List BoxText → ℕ → RpcText → Option Refused
bad_callers_at boxes k gate = refuse_if (not (all_named boxes gate.callers)) (refused.BadGateway (spot.Gateway k))

-- a gateway for calls with a caller that is no box
abbrev pub bad_callers : List BoxText → List RpcText → Option Refused
bad_callers boxes gateways = first_numbered (bad_callers_at boxes) 0 gateways

-- a gateway of either kind that is bad, the registers first
abbrev pub bad_gateway : Board → List BoxText → GateTexts → Option Refused
bad_gateway board boxes gates = option_or (bad_register board boxes gates.registers) (bad_callers boxes gates.gateways)

-- the gateway, where its target is no box
abbrev pub no_server_at : List BoxText → ℕ → RpcText → Option Refused
no_server_at boxes k gate = refuse_if (not (is_named boxes gate.target)) (refused.NoServer k)

-- a gateway whose target is no box
abbrev pub no_server : List BoxText → List RpcText → Option Refused
no_server boxes gateways = first_numbered (no_server_at boxes) 0 gateways

-- whether one of the boxes owns the line
abbrev pub is_owned : List BoxText → Line → Bool
is_owned boxes line = is_line_of_some boxes line.0

-- the device, where it rings a line that no box owns
abbrev pub bad_device_at : List BoxText → ℕ → DevicePart → Option Refused
bad_device_at boxes d device = refuse_if (not (list_all (is_owned boxes) device.rings)) (refused.BadDevice d)

-- a device that rings a line that no box owns
abbrev pub bad_device : List BoxText → List DevicePart → Option Refused
bad_device boxes devices = first_numbered (bad_device_at boxes) 0 devices

-- the word of thread k of a box with this name, whose number is t
abbrev pub thread_word : List ℕ → ℕ → ℕ → Spelled
thread_word name k t = record { text = name ++ codes "." ++ decimal k; word = word.Thread (record { 0 = t }) }

-- the words of threads of a box with this name, the first with index k in the box and number t
abbrev pub thread_words : List ℕ → ℕ → ℕ → List ThreadText → List Spelled
thread_words name k t [] = []
thread_words name k t (thread ∷ threads) = thread_word name k t ∷ thread_words name (k + 1) (t + 1) threads

-- the words of the threads of boxes, numbered from t on
abbrev pub threads_words : ℕ → List BoxText → List Spelled
threads_words t [] = []
threads_words t (b ∷ boxes) = thread_words b.name 0 t b.threads ++ threads_words (t + length b.threads) boxes

-- the word that rings an interrupt line
abbrev pub ring_word : IrqPart → Spelled
ring_word irq = record { text = codes "ring " ++ decimal irq.line.0; word = word.Ring irq.line }

-- the words that ring the lines of boxes
abbrev pub rings_words : List BoxText → List Spelled
rings_words [] = []
rings_words (b ∷ boxes) = map ring_word b.irqs ++ rings_words boxes

-- the words that a script may have: those of threads, and those of lines that boxes own
unfoldable pub script_words : List BoxText → List Spelled
script_words boxes = threads_words 0 boxes ++ rings_words boxes

-- whether this is how the word is spelled
abbrev pub is_spelled : List ℕ → Spelled → Bool
is_spelled text spelled = bytes_eq spelled.text text

-- what a word of a script stands for, where these are the words that it may have
abbrev pub word_of_text : List Spelled → List ℕ → Option ScriptWord
word_of_text table text = option_map (λ s. s.word) (find (is_spelled text) table)

-- the script word, where it stands for nothing
abbrev pub bad_word_at : List Spelled → ℕ → List ℕ → Option Refused
bad_word_at table at text = refuse_if (is_none (word_of_text table text)) (refused.BadScript at)

-- a script word that stands for nothing
abbrev pub bad_script : List BoxText → List (List ℕ) → Option Refused
bad_script boxes script = first_numbered (bad_word_at (script_words boxes)) 0 script
