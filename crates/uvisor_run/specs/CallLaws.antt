-- What the laws on calls say of logs: where a call is posted, where it starts, and where its result is given.
use Rattle.std.specs.Prelude.{◌≡◌, ℕ, ◌<◌, Bool, true, Option, Some, None, take, slice_get}
use Rattle.std.specs.Option.{option_map}
use Rattle.addr_base.specs.declared.identity.BoxId.{BoxId}
use Rattle.addr_base.specs.declared.identity.ThreadId.{ThreadId}
use Rattle.addr_base.specs.declared.identity.Ticket.{Ticket}
use Rattle.flat_model.specs.declared.classes.KernelCall.{KernelCall}
use Rattle.flat_model.specs.declared.classes.KernelCall.TheVariants as call
use Rattle.flat_model.specs.declared.events.Choice.{Choice}
use Rattle.flat_model.specs.declared.events.Choice.TheVariants as choice
use Rattle.flat_model.specs.declared.events.Collected.{Collected}
use Rattle.flat_model.specs.declared.events.Reply.{Reply}
use Rattle.flat_model.specs.declared.events.Reply.TheVariants as reply
use Rattle.flat_model.specs.declared.events.Started.{Started}
use Rattle.flat_model.specs.declared.events.Want.TheVariants as want
use Rattle.flat_model.specs.declared.logs.Log.{Log}
use Rattle.flat_model.specs.declared.next.Next.{Next}
use Rattle.flat_model.specs.declared.next.Next.TheVariants as next
use Rattle.flat_model.specs.declared.parts.Config.{Config}
use Rattle.flat_model.specs.declared.states.Flat.{Flat}
use Rattle.flat_model.specs.declared.states.ThreadState.{ThreadState}
use Rattle.flat_model.specs.Actors.{Actor, actor_of}
use Rattle.flat_model.specs.Calls.{collected_by}
use Rattle.flat_model.specs.Log.{choices_of, entries_of}
use Rattle.flat_model.specs.Next.{next_of_actor}
use Rattle.flat_model.specs.Run.{opening_state, state_after_all}
use Rattle.flat_model.specs.Thread.{register}
use Rattle.flat_model.specs.Want.{want_of}

-- the state before the entry at this place, which the choices of the entries before it reached
abbrev pub state_at : Config → Log → ℕ → Flat
state_at cfg log i = state_after_all cfg (opening_state cfg) (take i (choices_of log.items))

-- the entry at this place is this choice with this reply
abbrev pub IsEntryAt : Log → ℕ → Choice → Reply → Type 0
IsEntryAt log i c r = slice_get (entries_of log.items) i ≡ Some (record { choice = c; reply = r })

-- the thread is the server of the box
abbrev pub IsServerOf : Config → BoxId → ThreadId → Type 0
IsServerOf cfg b t = option_map (λ part. part.server) (slice_get cfg.boxes b.0) ≡ Some t

-- The entry at this place posts the ticket's call: its thread had a turn with room, by a gateway to this box that it
-- may call by, and was told the ticket's number.
pub record PostsAt (cfg : Config) (log : Log) (i : ℕ) (ticket : Ticket) (b : BoxId) : Type 0 where
  pub entry : IsEntryAt log i (choice.Turn ticket.thread true) (reply.Posted ticket.seq)
  pub target : want_of cfg (state_at cfg log i) ticket.thread.0 ≡ want.Room b

-- the ticket's call was posted to this box by an entry before this place
pub record WasPosted (cfg : Config) (log : Log) (i : ℕ) (ticket : Ticket) (b : BoxId) : Type 0 where
  pub place : ℕ
  pub earlier : place < i
  pub posts : PostsAt cfg log place ticket b

-- the entry at this place starts the ticket's call on this thread
pub record StartsAt (log : Log) (i : ℕ) (t : ThreadId) (ticket : Ticket) : Type 0 where
  pub started : Started
  pub entry : IsEntryAt log i (choice.Start t ticket) (reply.Begun started)

-- the number of the call for whose result a kernel call of the thread asks, if it asks for one
abbrev pub asked_by_call : ThreadState → KernelCall → Option ℕ
asked_by_call th (call.PagesAlloc n t) = None
asked_by_call th (call.PageFree a) = None
asked_by_call th (call.IrqOn n) = None
asked_by_call th (call.IrqOff n) = None
asked_by_call th call.IrqReturn = None
asked_by_call th (call.GwRead d n) = None
asked_by_call th (call.GwWrite s n) = None
asked_by_call th (call.RpcCall d n) = None
asked_by_call th (call.RpcSync n looks) = None
asked_by_call th call.RpcTake = None
asked_by_call th (call.RpcReturn s) = None
asked_by_call th (call.RpcResult d s) = Some (register th s)

-- the same of a turn that comes to this: a waiting thread looks for the result of the call that it waits for
abbrev pub asked_in : ThreadState → Next → Option ℕ
asked_in th next.Look = option_map (λ awaited. awaited.seq) th.awaited
asked_in th (next.Deliver irq) = None
asked_in th (next.Local i) = None
asked_in th (next.Access access) = None
asked_in th (next.Unaligned at) = None
asked_in th (next.Kernel c) = asked_by_call th c
asked_in th next.Nowhere = None

-- the same of the next turn of an actor, if there is one
abbrev pub asked_by : Flat → ℕ → Option Actor → Option ℕ
asked_by f t None = None
asked_by f t (Some a) = asked_in a.thread (next_of_actor f.shared.lines a t)

-- the number of the call for whose result the next turn of the thread with this number asks, if it asks for one
abbrev pub asked_of : Config → Flat → ℕ → Option ℕ
asked_of cfg f t = asked_by f t (actor_of cfg f t)

-- the entry at this place gives the ticket's thread this result of the ticket's call, for which its turn asks
pub record GivesAt (cfg : Config) (log : Log) (i : ℕ) (ticket : Ticket) (value : ℕ) : Type 0 where
  pub room : Bool
  pub entry : IsEntryAt log i (choice.Turn ticket.thread room) (reply.Value value)
  pub asked : asked_of cfg (state_at cfg log i) ticket.thread.0 ≡ Some ticket.seq

-- what the caller of the ticket's call can get of it before the entry at this place
abbrev pub result_at : Config → Log → ℕ → Ticket → Collected
result_at cfg log i ticket = collected_by ticket (state_at cfg log i).shared.calls
