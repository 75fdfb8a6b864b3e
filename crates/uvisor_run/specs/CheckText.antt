-- What `check` prints of a configuration (docs/LOG.md).
use Rattle.std.specs.Prelude.{ℕ, ◌+◌, ◌-◌, Bool, List, [], ◌∷◌, ◌++◌, codes, take, drop, if◌then◌else◌}
use Rattle.std.specs.Fmt.{decimal}
use Rattle.std.specs.List.{flat_map}
use Rattle.addr_base.specs.declared.rights.Rights.{Rights}
use Rattle.addr_base.specs.Rights.{may_execute, may_read, may_write}
use Rattle.box_program.specs.Shown.{text_of_instruction}
use Rattle.flat_model.specs.declared.instructions.Instr.{Instr}
use Rattle.flat_model.specs.declared.parts.BoxPart.{BoxPart}
use Rattle.flat_model.specs.declared.parts.Config.{Config}
use Rattle.flat_model.specs.declared.parts.IrqPart.{IrqPart}
use Rattle.flat_model.specs.declared.parts.Item.{Item}
use Rattle.flat_model.specs.declared.parts.ThreadPart.{ThreadPart}
use Rattle.flat_model.specs.Text.{hex_word, line_of}

-- a letter where the right is there
abbrev pub letter : Bool → List ℕ → List ℕ
letter is_there text = if is_there then text else []

-- a set of rights by its letters
abbrev pub rights_text : Rights → List ℕ
rights_text rights =
    letter (may_read rights) (codes "r") ++ letter (may_write rights) (codes "w") ++ letter (may_execute rights) (codes "x")

-- the line of an item: its rights, its base and its length
abbrev pub item_text : Item → List ℕ
item_text item = line_of (codes "item" ∷ rights_text item.rights ∷ hex_word item.range.base ∷ hex_word item.range.len ∷ [])

-- the line of an interrupt line and the place of its handler
abbrev pub irq_text : IrqPart → List ℕ
irq_text irq = line_of (codes "line" ∷ decimal irq.line.0 ∷ codes "handler" ∷ decimal irq.handler ∷ [])

-- the line of an instruction at a place
abbrev pub instruction_line : ℕ → Instr → List ℕ
instruction_line n i = line_of (decimal n ∷ text_of_instruction i ∷ [])

-- the lines of instructions, the first of which has the place n
abbrev pub program_text : ℕ → List Instr → List ℕ
program_text n [] = []
program_text n (i ∷ is) = instruction_line n i ++ program_text (n + 1) is

-- the name of a box's thread with this index
abbrev pub indexed_name : List ℕ → ℕ → List ℕ
indexed_name name k = name ++ codes "." ++ decimal k

-- the line of a box's thread with this index and this budget
abbrev pub thread_line : List ℕ → ℕ → ℕ → List ℕ
thread_line name k steps = line_of (codes "thread" ∷ indexed_name name k ∷ codes "steps" ∷ decimal steps ∷ [])

-- the lines of a box's thread with this index: its steps and its program
abbrev pub thread_text : List ℕ → ℕ → ThreadPart → List ℕ
thread_text name k thread = thread_line name k thread.steps ++ program_text 0 thread.program

-- the lines of a box's threads, the first of which has the index k
abbrev pub threads_text : List ℕ → ℕ → List ThreadPart → List ℕ
threads_text name k [] = []
threads_text name k (thread ∷ threads) = thread_text name k thread ++ threads_text name (k + 1) threads

-- the threads of a box
abbrev pub threads_of_box : Config → BoxPart → List ThreadPart
threads_of_box cfg part = take part.threads (drop part.first cfg.threads)

-- the line of a box's name
abbrev pub box_line : List ℕ → List ℕ
box_line name = line_of (codes "box" ∷ name ∷ [])

-- the line of the index of a box's server
abbrev pub server_line : ℕ → List ℕ
server_line k = line_of (codes "server" ∷ decimal k ∷ [])

-- the lines of a box's name and of its items
abbrev pub holdings_text : BoxPart → List ℕ
holdings_text part = box_line part.name ++ flat_map item_text part.items

-- the lines of a box's name, of its items and of its interrupt lines
abbrev pub head_text : BoxPart → List ℕ
head_text part = holdings_text part ++ flat_map irq_text part.irqs

-- the lines of a box's server and of its threads
abbrev pub tail_text : Config → BoxPart → List ℕ
tail_text cfg part = server_line (part.server.0 - part.first) ++ threads_text part.name 0 (threads_of_box cfg part)

-- the lines of a box: its name, its items, its interrupt lines, its server and its threads
abbrev pub box_text : Config → BoxPart → List ℕ
box_text cfg part = head_text part ++ tail_text cfg part

-- what `check` prints
unfoldable pub check_text : Config → List ℕ
check_text cfg = flat_map (box_text cfg) cfg.boxes
