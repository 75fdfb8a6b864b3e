-- What a box has of its own, and what reaches it: data alone. What they hold in a run, Part and Reach say.
use Rattle.std.specs.Prelude.{ℕ, Bool, Option, Some, None, List}
use Rattle.flat_model.specs.declared.boards.HeapPart.{HeapPart}
use Rattle.flat_model.specs.declared.events.Frames.{Frames}
use Rattle.flat_model.specs.declared.events.Started.{Started}
use Rattle.flat_model.specs.declared.instructions.Instr.{Instr}
use Rattle.flat_model.specs.declared.parts.IrqPart.{IrqPart}
use Rattle.flat_model.specs.declared.parts.Item.{Item}
use Rattle.flat_model.specs.Cells.{Cell}

-- a thread's program, and how many steps it may take
pub record Program : Type 0 where
  pub instructions : List Instr
  pub steps : ℕ

-- What a box has of its own. Threads are told by their index in the box, gateways by their number.
pub record Part : Type 0 where
  pub index : ℕ
  pub items : List Item
  pub bytes : List Cell
  pub heap : Option HeapPart
  pub programs : List Program
  pub server : ℕ
  pub irqs : List IrqPart
  pub reads : List ℕ
  pub writes : List ℕ
  pub calls : List ℕ

-- what an event of the box is: a turn with or without room, the start of a call, or an idle look
pub data Deed : Type 0 where
  turn : Bool → Deed
  start : Deed
  idle : Deed

-- What the kernel supplied at an event: frames, that none were left, a call's result, a register's word,
-- a call to serve, that the call was not next, or nothing.
pub data Supply : Type 0 where
  given : Frames → Supply
  none_left : Supply
  result : ℕ → Supply
  word : ℕ → Supply
  begun : Started → Supply
  not_next : Supply
  nothing : Supply

-- what reaches a box: an event of the thread with this index, bytes of its items that changed, a ring of its line
pub data Arrival : Type 0 where
  event : ℕ → Deed → Supply → Arrival
  bytes : List Cell → Arrival
  rung : ℕ → Arrival

-- the frames that were supplied, if any were
abbrev pub supplied_frames : Supply → Option Frames
supplied_frames (given frames) = Some frames
supplied_frames none_left = None
supplied_frames (result value) = None
supplied_frames (word value) = None
supplied_frames (begun started) = None
supplied_frames not_next = None
supplied_frames nothing = None

-- the result that was supplied, if one was
abbrev pub supplied_result : Supply → Option ℕ
supplied_result (given frames) = None
supplied_result none_left = None
supplied_result (result value) = Some value
supplied_result (word value) = None
supplied_result (begun started) = None
supplied_result not_next = None
supplied_result nothing = None

-- the word that was supplied, if one was
abbrev pub supplied_word : Supply → Option ℕ
supplied_word (given frames) = None
supplied_word none_left = None
supplied_word (result value) = None
supplied_word (word value) = Some value
supplied_word (begun started) = None
supplied_word not_next = None
supplied_word nothing = None

-- the call that was supplied, if one was
abbrev pub supplied_call : Supply → Option Started
supplied_call (given frames) = None
supplied_call none_left = None
supplied_call (result value) = None
supplied_call (word value) = None
supplied_call (begun started) = Some started
supplied_call not_next = None
supplied_call nothing = None
