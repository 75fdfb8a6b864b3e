-- The instructions that read and change one thread alone.
use Rattle.std.specs.Prelude.{ℕ, Bool, ◌==◌, not, if◌then◌else◌, bit_and, bit_or, bit_xor}
use Rattle.flat_model.specs.declared.classes.LocalInstr.{LocalInstr}
use Rattle.flat_model.specs.declared.classes.LocalInstr.TheVariants as local
use Rattle.flat_model.specs.declared.events.Mode.TheVariants as mode
use Rattle.flat_model.specs.declared.events.Reply.{Reply}
use Rattle.flat_model.specs.declared.events.Reply.TheVariants as reply
use Rattle.flat_model.specs.declared.states.ThreadState.{ThreadState}
use Rattle.flat_model.specs.Thread.{difference32, moved, register, sum32, with_register, with_result}

-- a value goes into a register
abbrev pub assigned_row : ThreadState → ℕ → ℕ → ThreadState × Reply
assigned_row th r value = (moved (with_register th r value), reply.Done)

-- the next place is this one
abbrev pub jump_row : ThreadState → ℕ → ThreadState × Reply
jump_row th place = (record th { pc = place }, reply.Done)

-- the next place is this one where the test holds
abbrev pub branch_row : ThreadState → Bool → ℕ → ThreadState × Reply
branch_row th test place = (if test then record th { pc = place } else moved th, reply.Done)

-- the number of the thread's box goes into a register
abbrev pub box_id_row : ThreadState → ℕ → ℕ → ThreadState × Reply
box_id_row th r home = (with_result th r home, reply.Value home)

-- the thread halts at its place
abbrev pub halt_row : ThreadState → ThreadState × Reply
halt_row th = (record th { mode = mode.Halted }, reply.Halted)

-- what the instruction does to a thread of the box with this number
abbrev pub local_row : ThreadState → ℕ → LocalInstr → ThreadState × Reply
local_row th home (local.Set d w) = assigned_row th d w
local_row th home (local.Mov d s) = assigned_row th d (register th s)
local_row th home (local.Add d a b) = assigned_row th d (sum32 (register th a) (register th b))
local_row th home (local.Sub d a b) = assigned_row th d (difference32 (register th a) (register th b))
local_row th home (local.And d a b) = assigned_row th d (bit_and (register th a) (register th b))
local_row th home (local.Orr d a b) = assigned_row th d (bit_or (register th a) (register th b))
local_row th home (local.Eor d a b) = assigned_row th d (bit_xor (register th a) (register th b))
local_row th home (local.Jump n) = jump_row th n
local_row th home (local.Jz a n) = branch_row th (register th a == 0) n
local_row th home (local.Jnz a n) = branch_row th (not (register th a == 0)) n
local_row th home (local.BoxId d) = box_id_row th d home
local_row th home local.Halt = halt_row th
