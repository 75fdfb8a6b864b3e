-- The entries of a machine's log by number: those of each thread, and behind the threads the rings of each device.
use Rattle.std.specs.Prelude.{◌≡◌, ◌≢◌, ℕ, ◌+◌, ◌-◌, true, eqb, Option, Some, None, List, [], ◌∷◌, ◌++◌, filter, length, take, slice_get, if◌then◌else◌}
use Rattle.std.specs.Option.{option_map}
use Rattle.addr_base.specs.declared.identity.BoxId.{BoxId}
use Rattle.addr_base.specs.declared.identity.ThreadId.{ThreadId}
use Rattle.addr_base.specs.declared.identity.Ticket.{Ticket}
use Rattle.flat_model.specs.declared.events.Choice.{Choice}
use Rattle.flat_model.specs.declared.events.Choice.TheVariants as choice
use Rattle.flat_model.specs.declared.events.Drive.{Drive}
use Rattle.flat_model.specs.declared.events.Drive.TheVariants.{Script, Threads}
use Rattle.flat_model.specs.declared.events.Entry.{Entry}
use Rattle.flat_model.specs.declared.events.Logged.{Logged}
use Rattle.flat_model.specs.declared.events.Noted.{Noted}
use Rattle.flat_model.specs.declared.events.Reply.{Reply}
use Rattle.flat_model.specs.declared.events.Reply.TheVariants as reply
use Rattle.flat_model.specs.declared.parts.Config.{Config}
use Rattle.flat_model.specs.declared.states.Call.{Call}
use Rattle.flat_model.specs.declared.states.Flat.{Flat}
use Rattle.flat_model.specs.Log.{entries_of}
use Rattle.flat_model.specs.Run.{opening_state}
use Rattle.flat_model.specs.Step.{reply_to, state_after}
use Rattle.machine_core.specs.declared.stepping.MachineFixed.{MachineFixed}
use Rattle.machine_core.specs.View.{MachineView, world_of}

-- the number of a choice: that of its thread, or for a ring that of its device, counted behind the threads
abbrev pub number_of : Config → Choice → ℕ
number_of cfg (choice.Turn t room) = t.0
number_of cfg (choice.Start t ticket) = t.0
number_of cfg (choice.Idle t) = t.0
number_of cfg (choice.Ring line by) = length cfg.threads + by

-- the call that was made last
abbrev pub last_call : List Call → Option Call
last_call calls = slice_get calls (length calls - 1)

-- the call that an event with this reply posted, which is the last one of the state after it
abbrev pub call_posted : Flat → Reply → Option Call
call_posted f reply.Ended = None
call_posted f reply.Done = None
call_posted f (reply.Value value) = None
call_posted f (reply.Status status) = None
call_posted f (reply.Posted seq) = last_call f.shared.calls
call_posted f reply.Waiting = None
call_posted f (reply.Irq line) = None
call_posted f (reply.Given frames) = None
call_posted f (reply.Fault why at) = None
call_posted f reply.Halted = None
call_posted f (reply.Begun started) = None

-- the entry that was made in this state, with the target of the call that it posted
abbrev pub noted_entry : Config → Flat → Entry → Noted
noted_entry cfg f e = record {
  entry = e;
  target = option_map (λ call. call.target) (call_posted (state_after cfg f e.choice) e.reply);
}

-- entries that were made one after another from this state on
abbrev pub noted_from : Config → Flat → List Entry → List Noted
noted_from cfg f [] = []
noted_from cfg f (e ∷ es) = noted_entry cfg f e ∷ noted_from cfg (state_after cfg f e.choice) es

-- the entries of a log
abbrev pub noted_of : Config → List Logged → List Noted
noted_of cfg items = noted_from cfg (opening_state cfg) (entries_of items)

-- the entries of a machine's log that have this number
abbrev pub numbered_entries : MachineView → ℕ → List Noted
numbered_entries v k = filter (λ note. eqb (number_of v.config note.entry.choice) k) (noted_of v.config v.items)

-- the entry of the event of a choice
abbrev pub entry_now : MachineView → Choice → Entry
entry_now v c = record { choice = c; reply = reply_to v.config (world_of v).flat c }

-- and with the target of the call that it posts
abbrev pub noted_now : MachineView → Choice → Noted
noted_now v c = noted_entry v.config (world_of v).flat (entry_now v c)

-- the ticket of the call that the event of a choice posts
abbrev pub ticket_posted : MachineView → Choice → Option Ticket
ticket_posted v c =
    option_map (λ call. call.ticket)
    (call_posted (state_after v.config (world_of v).flat c) (reply_to v.config (world_of v).flat c))

-- the extra that never falls: that of running threads
abbrev pub fixed_extra : Drive → ℕ → Option ℕ
fixed_extra Script extra = None
fixed_extra Threads extra = Some extra

-- what of a machine never changes
abbrev pub fixed_part : MachineView → MachineFixed
fixed_part v = record { config = v.config; drive = v.drive; extra = fixed_extra v.drive v.extra }

-- what never changes is the same, and no entries came but behind those of this number
pub record HasGrown (old new : MachineView) (number : ℕ) : Type 0 where
  pub fixed : fixed_part new ≡ fixed_part old
  pub others : (k : ℕ) → k ≢ number → numbered_entries new k ≡ numbered_entries old k
  pub grew : take (length (numbered_entries old number)) (numbered_entries new number) ≡ numbered_entries old number

-- the thread's turn posts a call with this ticket to the box
pub record Posts (v : MachineView) (t : ThreadId) (b : BoxId) (ticket : Ticket) : Type 0 where
  pub thread : ticket.thread ≡ t
  pub call : ticket_posted v (choice.Turn t true) ≡ Some ticket
  pub noted : noted_now v (choice.Turn t true) ≡ record {
    entry = record { choice = choice.Turn t true; reply = reply.Posted ticket.seq };
    target = Some b;
  }
