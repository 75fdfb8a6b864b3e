-- The boxes, gateways, devices and script that a document describes, as they are written.
use Rattle.std.specs.Prelude.{ℕ, ◌-◌, false, List, [], ◌∷◌, ◌++◌, length, option_map, option_and_then, option_to_list, unwrap_or}
use Rattle.addr_base.specs.Rights.{read_only}
use Rattle.addr_base.specs.declared.identity.Line.{Line}
use Rattle.addr_base.specs.declared.rights.Rights.{Rights}
use Rattle.flat_model.specs.First.{number}
use Rattle.flat_model.specs.declared.parts.DevicePart.{DevicePart}
use Rattle.flat_model.specs.declared.parts.IrqPart.{IrqPart}
use Rattle.flat_model.specs.declared.parts.Op.{Op}
use Rattle.flat_model.specs.declared.parts.Op.TheVariants as op
use Rattle.flat_model.specs.declared.refusals.Key.{Key}
use Rattle.flat_model.specs.declared.refusals.Key.TheVariants as key
use Rattle.flat_model.specs.declared.texts.BoxText.{BoxText}
use Rattle.flat_model.specs.declared.texts.GateTexts.{GateTexts}
use Rattle.flat_model.specs.declared.texts.GrantText.{GrantText}
use Rattle.flat_model.specs.declared.texts.RegText.{RegText}
use Rattle.flat_model.specs.declared.texts.Round.{Round}
use Rattle.flat_model.specs.declared.texts.Round.TheVariants as round
use Rattle.flat_model.specs.declared.texts.RpcText.{RpcText}
use Rattle.flat_model.specs.declared.texts.ThreadText.{ThreadText}
use Rattle.toml.specs.Data.{Items, no_items, item, Members, as_str, as_table}
use Rattle.board_map.specs.Tree.{bounded, flag_at, integer_at, items_at, natural_of, text_at, value_at}
use Rattle.board_map.specs.Values.{owns, steps_of}
use Rattle.board_map.specs.Words.{op_of, rights_of, round_of}

-- what the tables of an array stand for, in order
abbrev pub from_tables : {T : Type 0} → (Members → T) → Items → List T
from_tables f no_items = []
from_tables f (item d ds) = option_to_list (option_map f (as_table d)) ++ from_tables f ds

-- the strings of an array, in order
abbrev pub strings_of : Items → List (List ℕ)
strings_of no_items = []
strings_of (item d ds) = option_to_list (as_str d) ++ strings_of ds

-- the text at a key, or the empty one
abbrev pub text_or_empty : Key → Members → List ℕ
text_or_empty k ms = unwrap_or (text_at k ms) []

-- the word at a key
abbrev pub word_at : Key → ℕ → Members → ℕ
word_at k default ms = integer_at 0 4294967295 default k ms

-- the rights that a grant names
abbrev pub rights_at : Members → Rights
rights_at ms = unwrap_or (option_and_then rights_of (text_at key.Rights ms)) read_only

-- the rounding that a grant names
abbrev pub round_at : Members → Round
round_at ms = unwrap_or (option_and_then round_of (text_at key.Round ms)) round.Plain

-- the operation that a register gateway names
abbrev pub op_at : Members → Op
op_at ms = unwrap_or (option_and_then op_of (text_at key.Op ms)) op.Read

-- a thread
unfoldable pub thread_text : Members → ThreadText
thread_text ms = record { program = text_or_empty key.Program ms; steps = steps_of ms }

-- a grant
unfoldable pub grant_text : Members → GrantText
grant_text ms = record {
  base = word_at key.Base 0 ms;
  len = word_at key.Len 0 ms;
  rights = rights_at ms;
  round = round_at ms;
  shared = unwrap_or (flag_at key.Shared ms) false;
}

-- the interrupt line of a number
abbrev pub line_of : ℕ → Line
line_of n = record { 0 = n }

-- an interrupt line of a box
unfoldable pub irq_part : Members → IrqPart
irq_part ms = record {
  line = line_of (integer_at 0 63 0 key.Line ms);
  handler = integer_at 0 65535 0 key.Handler ms;
}

-- the place of the server among that many threads; 0 where there is none such
abbrev pub server_among : ℕ → Members → ℕ
server_among threads ms = bounded 0 (number (threads - 1)) 0 (option_and_then natural_of (value_at key.Server ms))

-- the threads of a box
abbrev pub threads_of : Members → List ThreadText
threads_of ms = from_tables thread_text (items_at key.Thread ms)

-- a box
unfoldable pub box_text : Members → BoxText
box_text ms = record {
  name = text_or_empty key.Name ms;
  size = integer_at 1 1048576 1 key.Size ms;
  secret = owns ms;
  server = server_among (length (threads_of ms)) ms;
  threads = threads_of ms;
  grants = from_tables grant_text (items_at key.Grant ms);
  irqs = from_tables irq_part (items_at key.Irq ms);
}

-- a register gateway
unfoldable pub reg_text : Members → RegText
reg_text ms = record {
  at = word_at key.At 0 ms;
  op = op_at ms;
  mask = word_at key.Mask 4294967295 ms;
  boxes = strings_of (items_at key.Boxes ms);
}

-- a gateway for remote calls
unfoldable pub rpc_text : Members → RpcText
rpc_text ms = record {
  target = text_or_empty key.AtBox ms;
  function = word_at key.Function 0 ms;
  callers = strings_of (items_at key.Callers ms);
}

-- the gateways of a document
unfoldable pub gates_of : Members → GateTexts
gates_of doc = record {
  registers = from_tables reg_text (items_at key.Register doc);
  gateways = from_tables rpc_text (items_at key.Gateway doc);
}

-- the lines of an array of integers
abbrev pub lines_of : Items → List Line
lines_of no_items = []
lines_of (item d ds) = line_of (bounded 0 63 0 (natural_of d)) ∷ lines_of ds

-- a device
unfoldable pub device_part : Members → DevicePart
device_part ms = record { rings = lines_of (items_at key.Rings ms) }

-- the devices of a document
unfoldable pub devices_of : Members → List DevicePart
devices_of doc = from_tables device_part (items_at key.Device doc)

-- the script words of a document
unfoldable pub script_of : Members → List (List ℕ)
script_of doc = strings_of (items_at key.Script doc)

-- the boxes of a document
unfoldable pub boxes_of : Members → List BoxText
boxes_of doc = from_tables box_text (items_at key.AtBox doc)
