-- What a contract sees of a kernel: the configuration that it is of, and what the threads share.
use Rattle.std.specs.Prelude.{ℕ, Bool, true, false, Option, Some, None, List, Result, Ok, Err, slice_set}
use Rattle.addr_base.specs.declared.identity.BoxId.{BoxId}
use Rattle.addr_base.specs.declared.identity.Ticket.{Ticket}
use Rattle.flat_model.specs.declared.boards.Board.{Board}
use Rattle.flat_model.specs.declared.boards.Word.{Word}
use Rattle.flat_model.specs.declared.events.Collected.{Collected}
use Rattle.flat_model.specs.declared.events.Frames.{Frames}
use Rattle.flat_model.specs.declared.events.Reply.{Reply}
use Rattle.flat_model.specs.declared.parts.BoxPart.{BoxPart}
use Rattle.flat_model.specs.declared.parts.Config.{Config}
use Rattle.flat_model.specs.declared.states.Context.{Context}
use Rattle.flat_model.specs.declared.states.Lines.{Lines}
use Rattle.flat_model.specs.declared.states.Memory.{Memory}
use Rattle.flat_model.specs.declared.states.Shared.{Shared}
use Rattle.flat_model.specs.declared.states.ThreadState.{ThreadState}
use Rattle.flat_model.specs.Access.{owned_by}
use Rattle.flat_model.specs.Calls.{after_asking}
use Rattle.flat_model.specs.Interrupts.{with_delivered, with_enabled, with_latched, with_returned}
use Rattle.flat_model.specs.Memory.{put_word, word_at}
use Rattle.flat_model.specs.Outcome.{Outcome}
use Rattle.flat_model.specs.PageRows.{with_frames}
use Rattle.flat_model.specs.Pages.{allocation, frames_of, freeing, may_write_words}
use Rattle.flat_model.specs.RegisterRows.{with_gateway_word}
use Rattle.flat_model.specs.Registers.{register_read, register_write}

-- the configuration, and what its threads share
pub record KernelState : Type 0 where
  pub config : Config
  pub shared : Shared

-- the kernel with something else shared
abbrev pub with_shared : KernelState → Shared → KernelState
with_shared k shared = record k { shared = shared }

-- the word of n bytes at an address
abbrev pub word_in : KernelState → ℕ → ℕ → ℕ
word_in k at n = word_at k.config.board k.shared.memory at n

-- the kernel after a word was written
abbrev pub after_store : KernelState → ℕ → ℕ → ℕ → KernelState
after_store k at n value =
    with_shared k (record k.shared { memory = put_word k.config.board k.shared.memory at n value })

-- the kernel after a ring of a line
abbrev pub after_ring : KernelState → ℕ → KernelState
after_ring k line = with_shared k (record k.shared { lines = with_latched k.shared.lines line })

-- the kernel after a line was delivered to a box
abbrev pub after_delivery : KernelState → ℕ → ℕ → Context → KernelState
after_delivery k b line context =
    with_shared k (record k.shared { lines = with_delivered k.shared.lines line b context })

-- the kernel after a caller asked for a ticket's result and got this
abbrev pub after_asked : KernelState → Ticket → Collected → KernelState
after_asked k ticket answer = with_shared k (record k.shared { calls = after_asking ticket answer k.shared.calls })

-- what n pages with a table at an address come to, for the box with this number and part
abbrev pub allocation_in : KernelState → BoxPart → ℕ → ℕ → ℕ → Result (List ℕ) ℕ
allocation_in k part b n table =
    allocation k.config.board.heap
    (may_write_words (owned_by b) part.items k.config.board.heap k.shared.owners table n) n k.shared.owners

-- an allocation as its answer tells it
abbrev pub told : Result (List ℕ) ℕ → Result Frames ℕ
told (Err status) = Err status
told (Ok frames) = Ok (frames_of frames)

-- what is shared after an allocation that came to this
abbrev pub allocated : Board → ℕ → ℕ → Shared → Result (List ℕ) ℕ → Shared
allocated board b table m (Err status) = m
allocated board b table m (Ok frames) = with_frames board b table frames m

-- the kernel after an allocation that came to this
abbrev pub after_allocation : KernelState → ℕ → ℕ → Result (List ℕ) ℕ → KernelState
after_allocation k b table answer = with_shared k (allocated k.config.board b table k.shared answer)

-- what the box with this number finds at an address that it gives back
abbrev pub freeing_in : KernelState → ℕ → ℕ → Result ℕ ℕ
freeing_in k b a = freeing k.config.board.heap k.shared.owners b a

-- the owners after a page was given back, or not
abbrev pub freed : List (Option BoxId) → Result ℕ ℕ → List (Option BoxId)
freed owners (Err status) = owners
freed owners (Ok frame) = slice_set owners frame None

-- the kernel after a page was given back, or not
abbrev pub after_freeing : KernelState → Result ℕ ℕ → KernelState
after_freeing k answer = with_shared k (record k.shared { owners = freed k.shared.owners answer })

-- the lines after one was enabled or disabled, where it is the box's own
abbrev pub lines_enabled : Lines → ℕ → Bool → Bool → Lines
lines_enabled lines line on true = with_enabled lines line on
lines_enabled lines line on false = lines

-- the kernel after a line was enabled or disabled, where it is the box's own
abbrev pub after_enabling : KernelState → ℕ → Bool → Bool → KernelState
after_enabling k line on own = with_shared k (record k.shared { lines = lines_enabled k.shared.lines line on own })

-- the lines after the box returned from its handler, where it was in one
abbrev pub lines_returned : Lines → ℕ → Option Context → Lines
lines_returned lines b None = lines
lines_returned lines b (Some context) = with_returned lines b

-- the kernel after the box returned from its handler, where it was in one
abbrev pub after_return : KernelState → ℕ → Option Context → KernelState
after_return k b context = with_shared k (record k.shared { lines = lines_returned k.shared.lines b context })

-- what the box with this number reads by register gateway n, if it may
abbrev pub read_in : KernelState → ℕ → ℕ → Option ℕ
read_in k b n = register_read k.config.registers k.config.board k.shared.memory b n

-- the word that the box with this number writes with a value by register gateway n, if it may
abbrev pub written_in : KernelState → ℕ → ℕ → ℕ → Option Word
written_in k b n value = register_write k.config.registers k.config.board k.shared.memory b n value

-- memory after a gateway's word was written, or none
abbrev pub memory_written : Board → Memory → Option Word → Memory
memory_written board memory None = memory
memory_written board memory (Some word) = with_gateway_word board memory word

-- the kernel after a gateway's word was written, or none
abbrev pub after_writing : KernelState → Option Word → KernelState
after_writing k word = with_shared k (record k.shared { memory = memory_written k.config.board k.shared.memory word })

-- what a row gave: what the kernel keeps then, the thread, and the reply
abbrev pub outcome_of : KernelState → ThreadState → Reply → Outcome
outcome_of k th r = record { shared = k.shared; thread = th; reply = r }
