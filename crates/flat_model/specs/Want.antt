-- What a thread's next event is, and which choices fit.
use Rattle.std.specs.Prelude.{ℕ, ◌+◌, Bool, true, false, ◌&&◌, not, nat_eq, nat_le, nat_lt, is_none, Option, Some, None, List, [], ◌∷◌, length, if◌then◌else◌, slice_get}
use Rattle.std.specs.List.{list_any}
use Rattle.addr_base.specs.declared.identity.ThreadId.{ThreadId}
use Rattle.flat_model.specs.declared.actors.Who.{Who}
use Rattle.flat_model.specs.declared.classes.KernelCall.{KernelCall}
use Rattle.flat_model.specs.declared.classes.KernelCall.TheVariants as call
use Rattle.flat_model.specs.declared.events.Choice.{Choice}
use Rattle.flat_model.specs.declared.events.Choice.TheVariants as choice
use Rattle.flat_model.specs.declared.events.Want.{Want}
use Rattle.flat_model.specs.declared.events.Want.TheVariants as want
use Rattle.flat_model.specs.declared.next.Next.{Next}
use Rattle.flat_model.specs.declared.next.Next.TheVariants as next
use Rattle.flat_model.specs.declared.parts.BoxPart.{BoxPart}
use Rattle.flat_model.specs.declared.parts.Config.{Config}
use Rattle.flat_model.specs.declared.parts.RpcGate.{RpcGate}
use Rattle.flat_model.specs.declared.parts.ThreadPart.{ThreadPart}
use Rattle.flat_model.specs.declared.states.Flat.{Flat}
use Rattle.flat_model.specs.declared.states.Shared.{Shared}
use Rattle.flat_model.specs.Actors.{Actor, actor_of, who_acts}
use Rattle.flat_model.specs.CallRows.{gateway_for, is_server, served_ticket}
use Rattle.flat_model.specs.Calls.{posted_count}
use Rattle.flat_model.specs.Interrupts.{has_line}
use Rattle.flat_model.specs.Next.{next_of_actor}
use Rattle.flat_model.specs.Registers.{has_box}

-- room in the target of a gateway that the box may call by
abbrev pub want_room : Option RpcGate → Want
want_room None = want.Plain
want_room (Some gate) = want.Room gate.target

-- the next call, for a server that serves none
abbrev pub want_next : Bool → Want
want_next true = want.Next
want_next false = want.Plain

-- what a thread wants whose turn is this kernel call
abbrev pub want_by_call : Config → Who → BoxPart → Shared → KernelCall → Want
want_by_call cfg who part m (call.PagesAlloc n t) = want.Plain
want_by_call cfg who part m (call.PageFree a) = want.Plain
want_by_call cfg who part m (call.IrqOn n) = want.Plain
want_by_call cfg who part m (call.IrqOff n) = want.Plain
want_by_call cfg who part m call.IrqReturn = want.Plain
want_by_call cfg who part m (call.GwRead d n) = want.Plain
want_by_call cfg who part m (call.GwWrite s n) = want.Plain
want_by_call cfg who part m (call.RpcCall d n) = want_room (gateway_for who.home.0 (slice_get cfg.gateways n))
want_by_call cfg who part m (call.RpcSync n looks) = want_room (gateway_for who.home.0 (slice_get cfg.gateways n))
want_by_call cfg who part m call.RpcTake =
    want_next (is_server who part && is_none (served_ticket m.serving who.home.0))
want_by_call cfg who part m (call.RpcReturn s) = want.Plain
want_by_call cfg who part m (call.RpcResult d s) = want.Plain

-- what a thread wants whose turn comes to this
abbrev pub want_by : Config → Who → BoxPart → Shared → Next → Want
want_by cfg who part m next.Look = want.Plain
want_by cfg who part m (next.Deliver irq) = want.Plain
want_by cfg who part m (next.Local i) = want.Plain
want_by cfg who part m (next.Access access) = want.Plain
want_by cfg who part m (next.Unaligned at) = want.Plain
want_by cfg who part m (next.Kernel c) = want_by_call cfg who part m c
want_by cfg who part m next.Nowhere = want.Plain

-- what an actor wants, if there is one
abbrev pub want_of_actor : Config → Shared → ThreadId → Option Actor → Want
want_of_actor cfg m t None = want.Plain
want_of_actor cfg m t (Some a) = want_by cfg (who_acts a t true) a.part m (next_of_actor m.lines a t.0)

-- what the thread with this number wants
abbrev pub want_of : Config → Flat → ℕ → Want
want_of cfg f t = want_of_actor cfg f.shared (record { 0 = t }) (actor_of cfg f t)

-- whether the box with the first number may call the box with the second by some gateway
abbrev pub may_call : Config → ℕ → ℕ → Bool
may_call cfg caller target = list_any (λ gate. nat_eq gate.target.0 target && has_box gate.callers caller) cfg.gateways

-- how many threads from the number k on, other than t, may call the box
abbrev pub callers_from : Config → ℕ → ℕ → ℕ → List ThreadPart → ℕ
callers_from cfg t b k [] = 0
callers_from cfg t b k (thread ∷ threads) =
    (if not (nat_eq k t) && may_call cfg thread.home.0 b then 1 else 0) + callers_from cfg t b (k + 1) threads

-- how many threads other than t may call the box
abbrev pub other_callers : Config → ℕ → ℕ → ℕ
other_callers cfg t b = callers_from cfg t b 0 cfg.threads

-- how many calls the inbox of a box takes
abbrev pub inbox_slots : Config → ℕ
inbox_slots cfg = 8

-- whether the thread is one of the configuration
abbrev pub is_thread : Config → ThreadId → Bool
is_thread cfg t = nat_lt t.0 (length cfg.threads)

-- whether some box owns the line
abbrev pub is_owned_line : Config → ℕ → Bool
is_owned_line cfg line = list_any (λ part. has_line line part.irqs) cfg.boxes

-- whether a turn with room fits what the thread wants
abbrev pub fits_with_room : Want → Bool
fits_with_room want.Plain = true
fits_with_room (want.Room b) = true
fits_with_room want.Next = false

-- whether a turn without room fits what the thread wants
abbrev pub fits_without_room : Config → Flat → ℕ → Want → Bool
fits_without_room cfg f t (want.Room b) =
    nat_le (inbox_slots cfg) (posted_count b.0 f.shared.calls + other_callers cfg t b.0)
fits_without_room cfg f t want.Plain = false
fits_without_room cfg f t want.Next = false

-- whether the start of a call or an idle look fits what the thread wants
abbrev pub wants_next : Want → Bool
wants_next want.Plain = false
wants_next (want.Room b) = false
wants_next want.Next = true

-- whether the choice fits the state
abbrev pub fits : Config → Flat → Choice → Bool
fits cfg f (choice.Turn t room) =
    is_thread cfg t
    && (if room then fits_with_room (want_of cfg f t.0) else fits_without_room cfg f t.0 (want_of cfg f t.0))
fits cfg f (choice.Start t ticket) = is_thread cfg t && is_thread cfg ticket.thread && wants_next (want_of cfg f t.0)
fits cfg f (choice.Idle t) = is_thread cfg t && wants_next (want_of cfg f t.0)
fits cfg f (choice.Ring line by) = is_owned_line cfg line.0
