-- The lone machine's state: a box by itself. It has no other box, no owners of pages and no calls of others.
-- Of the flat machine it takes the words of one thread, bytes and data types alone, and no step, no run and no memory of
-- others.
use Rattle.std.specs.Prelude.{ℕ, Bool, false, nat_eq, unwrap_or, Option, List, [], ◌∷◌, if◌then◌else◌, slice_get}
use Rattle.std.specs.List.{list_any}
use Rattle.flat_model.specs.declared.events.Flaw.{Flaw}
use Rattle.flat_model.specs.declared.events.Reply.{Reply}
use Rattle.flat_model.specs.declared.events.Reply.TheVariants as reply
use Rattle.flat_model.specs.declared.states.Context.{Context}
use Rattle.flat_model.specs.declared.states.ThreadState.{ThreadState}
use Rattle.flat_model.specs.Cells.{Cell}
use Rattle.flat_model.specs.Thread.{faulted, with_result, with_status}

-- a call of the box that was not collected: its thread's index in the box, and its number
pub record OpenCall : Type 0 where
  pub thread : ℕ
  pub seq : ℕ

-- the box's calls that were not collected, in the order in which they were made, and whether its server serves a call
pub record LoneCalls : Type 0 where
  pub open_calls : List OpenCall
  pub serves : Bool

-- which lines are latched and enabled, by their number, and what the box saved at a delivery
pub record LoneLines : Type 0 where
  pub latched : List Bool
  pub enabled : List Bool
  pub saved : Option Context

-- what the box's threads share: bytes, the last noted first, which pages are its own, its calls, its lines
pub record Kept : Type 0 where
  pub cells : List Cell
  pub pages : List Bool
  pub calls : LoneCalls
  pub lines : LoneLines

-- a box by itself
pub record Lone : Type 0 where
  pub kept : Kept
  pub threads : List ThreadState

-- what a row leaves: what the threads share, the thread, and the reply
pub record Left : Type 0 where
  pub kept : Kept
  pub thread : ThreadState
  pub reply : Reply

-- the byte that was noted last at an address, or 0
abbrev pub byte_in : List Cell → ℕ → ℕ
byte_in [] a = 0
byte_in (cell ∷ cells) a = if nat_eq cell.at a then cell.value else byte_in cells a

-- the bytes with more noted, in order
abbrev pub noted : List Cell → List Cell → List Cell
noted [] cells = cells
noted (cell ∷ more) cells = noted more (cell ∷ cells)

-- the same of what the threads share
abbrev pub kept_noting : List Cell → Kept → Kept
kept_noting more k = record k { cells = noted more k.cells }

-- whether the flag at this number is set
abbrev pub flag_at : List Bool → ℕ → Bool
flag_at flags n = unwrap_or (slice_get flags n) false

-- whether the number is one of these
abbrev pub has_number : ℕ → List ℕ → Bool
has_number n numbers = list_any (λ m. nat_eq m n) numbers

-- a thread and its reply, with nothing shared anew
abbrev pub alone_by_itself : Kept → ThreadState × Reply → Left
alone_by_itself k row = record { kept = k; thread = row.0; reply = row.1 }

-- a kernel call that gives a status and changes nothing else
abbrev pub alone_refused : Kept → ThreadState → ℕ → Left
alone_refused k th status = record { kept = k; thread = with_status th status; reply = reply.Status status }

-- a kernel call that was done
abbrev pub alone_done : Kept → ThreadState → Left
alone_done k th = record { kept = k; thread = with_status th 0; reply = reply.Done }

-- a kernel call that gives a value into a register
abbrev pub alone_value : Kept → ThreadState → ℕ → ℕ → Left
alone_value k th r value = record { kept = k; thread = with_result th r value; reply = reply.Value value }

-- a fault: no register and nothing shared changes
abbrev pub alone_fault : Kept → ThreadState → Flaw → ℕ → Left
alone_fault k th why at = record { kept = k; thread = faulted th; reply = reply.Fault why at }
