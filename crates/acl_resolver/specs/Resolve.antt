-- The configuration that a firmware's parts are resolved to, or the first refusal.
use Rattle.std.specs.Prelude.{⊤, ◌≡◌, ℕ, ◌+◌, Bool, unwrap_or, length, Option, Some, None, List, [], ◌∷◌, ◌++◌, map, Result, Ok, Err}
use Rattle.std.specs.List.{filter_map}
use Rattle.std.specs.Option.{option_or}
use Rattle.addr_base.specs.declared.ranges.Range.{Range}
use Rattle.addr_base.specs.Range.{end_of}
use Rattle.box_program.specs.Program.{program}
use Rattle.addr_base.specs.Rights.{read_write}
use Rattle.flat_model.specs.declared.boards.Board.{Board}
use Rattle.flat_model.specs.declared.instructions.BadLine.{BadLine}
use Rattle.flat_model.specs.declared.instructions.Instr.{Instr}
use Rattle.flat_model.specs.declared.parts.BoxPart.{BoxPart}
use Rattle.flat_model.specs.declared.parts.Config.{Config}
use Rattle.flat_model.specs.declared.parts.DevicePart.{DevicePart}
use Rattle.flat_model.specs.declared.parts.Item.{Item}
use Rattle.flat_model.specs.declared.parts.RegGate.{RegGate}
use Rattle.flat_model.specs.declared.parts.RpcGate.{RpcGate}
use Rattle.flat_model.specs.declared.parts.ScriptWord.{ScriptWord}
use Rattle.flat_model.specs.declared.parts.ThreadPart.{ThreadPart}
use Rattle.flat_model.specs.declared.refusals.ConfigErr.{ConfigErr}
use Rattle.flat_model.specs.declared.refusals.ConfigErr.TheVariants as config_err
use Rattle.flat_model.specs.declared.refusals.Refused.{Refused}
use Rattle.flat_model.specs.declared.refusals.Refused.TheVariants as refused
use Rattle.flat_model.specs.declared.texts.BoxText.{BoxText}
use Rattle.flat_model.specs.declared.texts.GateTexts.{GateTexts}
use Rattle.flat_model.specs.declared.texts.GrantText.{GrantText}
use Rattle.flat_model.specs.declared.texts.RegText.{RegText}
use Rattle.flat_model.specs.declared.texts.RpcText.{RpcText}
use Rattle.flat_model.specs.declared.texts.ThreadText.{ThreadText}
use Rattle.flat_model.specs.Items.{flash_items}
use Rattle.flat_model.specs.Placing.{limit_of}
use Rattle.acl_resolver.specs.Naming.{bad_device, bad_gateway, bad_script, box_named, no_server, script_words, set_of_names, word_of_text}
use Rattle.acl_resolver.specs.Refusals.{bad_grant, clash, first_numbered, grant_outside, line_taken, no_room, own_after, rounded_range, self_overlap}

-- the refusal of a program with this answer, or none
abbrev pub refusal_of_program : ℕ → ℕ → Result (List Instr) BadLine → Option Refused
refusal_of_program i j (Ok instructions) = None
refusal_of_program i j (Err bad) = Some (refused.BadProgram i j bad.line)

-- the refusal of the program text of a thread, or none
abbrev pub bad_program_at : ℕ → ℕ → ThreadText → Option Refused
bad_program_at i j thread = refusal_of_program i j (program thread.program)

-- a program text of a box that is refused
abbrev pub bad_program_of : ℕ → BoxText → Option Refused
bad_program_of i b = first_numbered (bad_program_at i) 0 b.threads

-- a program text that is refused
abbrev pub bad_program : List BoxText → Option Refused
bad_program boxes = first_numbered bad_program_of 0 boxes

-- the parts of a firmware as they are written
pub record Parts : Type 0 where
  pub board : Board
  pub boxes : List BoxText
  pub gates : GateTexts
  pub devices : List DevicePart
  pub script : List (List ℕ)

-- the parts with this board, these boxes, gateways, devices and words
abbrev pub parts_of : Board → List BoxText → GateTexts → List DevicePart → List (List ℕ) → Parts
parts_of board boxes gates devices script =
    record { board = board; boxes = boxes; gates = gates; devices = devices; script = script }

-- the first refusal of where the boxes and their grants lie
abbrev pub placing_refusal : Board → List BoxText → Option Refused
placing_refusal board boxes =
    option_or (no_room (limit_of board) board.sram.base 0 boxes)
    (option_or (bad_grant boxes)
    (option_or (grant_outside board boxes)
    (option_or (self_overlap boxes)
    (clash boxes))))

-- the first refusal of lines and gateways
abbrev pub naming_refusal : Board → List BoxText → GateTexts → Option Refused
naming_refusal board boxes gates =
    option_or (line_taken boxes)
    (option_or (bad_gateway board boxes gates)
    (no_server boxes gates.gateways))

-- the first refusal of devices and the script
abbrev pub words_refusal : List BoxText → List DevicePart → List (List ℕ) → Option Refused
words_refusal boxes devices script = option_or (bad_device boxes devices) (bad_script boxes script)

-- the first refusal of programs, devices and the script
abbrev pub running_refusal : List BoxText → List DevicePart → List (List ℕ) → Option Refused
running_refusal boxes devices script = option_or (bad_program boxes) (words_refusal boxes devices script)

-- the first refusal of the parts, kind by kind
unfoldable pub refusal_of : Parts → Option Refused
refusal_of parts =
    option_or (placing_refusal parts.board parts.boxes)
    (option_or (naming_refusal parts.board parts.boxes parts.gates)
    (running_refusal parts.boxes parts.devices parts.script))

-- a grant once it is rounded
abbrev pub grant_item : GrantText → Item
grant_item grant = record { range = rounded_range grant; rights = grant.rights }

-- the items of a box with this own memory and these grants
abbrev pub box_items : Board → Range → Bool → List Item → List Item
box_items board own secret grants =
    flash_items board.flash board.secret secret ++ record { range = own; rights = read_write } ∷ grants

-- a box whose own memory is this and whose first thread has the number t
abbrev pub box_part : Board → Range → ℕ → BoxText → BoxPart
box_part board own t b = record {
  name = b.name;
  own = own;
  secret = b.secret;
  first = t;
  threads = length b.threads;
  server = record { 0 = t + b.server };
  items = box_items board own b.secret (map grant_item b.grants);
  grants = map grant_item b.grants;
  irqs = b.irqs;
}

-- the boxes, placed one after another from an address on, with threads numbered from t on
abbrev pub box_parts : Board → ℕ → ℕ → List BoxText → List BoxPart
box_parts board start t [] = []
box_parts board start t (b ∷ boxes) =
    box_part board (own_after start b.size) t b
    ∷ box_parts board (end_of (own_after start b.size)) (t + length b.threads) boxes

-- the instructions of a program text, none where it is refused
abbrev pub instructions_of : Result (List Instr) BadLine → List Instr
instructions_of (Ok instructions) = instructions
instructions_of (Err bad) = []

-- a thread of the box with this number
abbrev pub thread_part : ℕ → ThreadText → ThreadPart
thread_part i thread = record {
  home = record { 0 = i };
  program = instructions_of (program thread.program);
  steps = thread.steps;
}

-- the threads of boxes, the first of which has the number i
abbrev pub thread_parts : ℕ → List BoxText → List ThreadPart
thread_parts i [] = []
thread_parts i (b ∷ boxes) = map (thread_part i) b.threads ++ thread_parts (i + 1) boxes

-- a register gateway, with its names as a set of boxes
abbrev pub register_gate : List BoxText → RegText → RegGate
register_gate boxes gate = record { at = gate.at; op = gate.op; mask = gate.mask; boxes = set_of_names 0 boxes gate.boxes }

-- a gateway for calls, with its names as a box and a set of boxes
abbrev pub call_gate : List BoxText → RpcText → RpcGate
call_gate boxes gate = record {
  target = record { 0 = unwrap_or (box_named boxes gate.target) 0 };
  function = gate.function;
  callers = set_of_names 0 boxes gate.callers;
}

-- what the words of a script stand for
abbrev pub words_of : List BoxText → List (List ℕ) → List ScriptWord
words_of boxes script = filter_map (word_of_text (script_words boxes)) script

-- the configuration of parts that are not refused
unfoldable pub configuration_of : Parts → Config
configuration_of parts = record {
  version = 1;
  board = parts.board;
  boxes = box_parts parts.board parts.board.sram.base 0 parts.boxes;
  threads = thread_parts 0 parts.boxes;
  registers = map (register_gate parts.boxes) parts.gates.registers;
  gateways = map (call_gate parts.boxes) parts.gates.gateways;
  devices = parts.devices;
  script = words_of parts.boxes parts.script;
}

-- the first refusal where there is one, else the configuration
abbrev pub configured : Parts → Option Refused → Result Config Refused
configured parts (Some refusal) = Err refusal
configured parts None = Ok (configuration_of parts)

-- the configuration that parts are resolved to, or their first refusal
abbrev pub resolution_of : Parts → Result Config Refused
resolution_of parts = configured parts (refusal_of parts)

-- an error is the refusal that is due, or want of memory
abbrev pub IsDue : Option Refused → ConfigErr → Type 0
IsDue due (config_err.Refused refused) = due ≡ Some refused
IsDue due config_err.Memory = ⊤
