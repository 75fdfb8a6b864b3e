-- What reaches a box in a run: its own events with what the kernel supplied, bytes of its items that others or its
-- own gateway writes changed, and rings of its lines. Nothing else of another box is here.
use Rattle.std.specs.Prelude.{ℕ, ◌+◌, ◌-◌, Bool, true, false, ◌&&◌, nat_eq, nat_le, nat_lt, Option, Some, None, List, [], ◌∷◌, ◌++◌, if◌then◌else◌}
use Rattle.flat_model.specs.declared.classes.KernelCall.{KernelCall}
use Rattle.flat_model.specs.declared.classes.KernelCall.TheVariants as call
use Rattle.flat_model.specs.declared.events.Choice.{Choice}
use Rattle.flat_model.specs.declared.events.Choice.TheVariants as choice
use Rattle.flat_model.specs.declared.events.Reply.{Reply}
use Rattle.flat_model.specs.declared.logs.Log.{Log}
use Rattle.flat_model.specs.declared.next.Next.{Next}
use Rattle.flat_model.specs.declared.next.Next.TheVariants as next
use Rattle.flat_model.specs.declared.parts.BoxPart.{BoxPart}
use Rattle.flat_model.specs.declared.parts.Config.{Config}
use Rattle.flat_model.specs.declared.states.Flat.{Flat}
use Rattle.flat_model.specs.Actors.{Actor, actor_of}
use Rattle.box_isolation.specs.Arrivals.{Arrival, bytes, event, idle, rung, start, turn}
use Rattle.flat_model.specs.Cells.{Cell}
use Rattle.flat_model.specs.Interrupts.{has_line}
use Rattle.flat_model.specs.Log.{choices_of}
use Rattle.flat_model.specs.Memory.{byte_at}
use Rattle.flat_model.specs.Next.{next_of_actor}
use Rattle.box_isolation.specs.Part.{addresses_of}
use Rattle.flat_model.specs.Run.{opening_state}
use Rattle.flat_model.specs.Step.{reply_to, state_after}
use Rattle.box_isolation.specs.Supplies.{supply_of_idle, supply_of_start, supply_of_turn}

-- whether the thread is one of the box
abbrev pub is_thread_of : BoxPart → ℕ → Bool
is_thread_of box t = nat_le box.first t && nat_lt t (box.first + box.threads)

-- the new bytes at those addresses where old and new differ
abbrev pub changed_cells : (ℕ → ℕ) → (ℕ → ℕ) → List ℕ → List Cell
changed_cells old new [] = []
changed_cells old new (a ∷ addresses) =
    if nat_eq (old a) (new a) then changed_cells old new addresses
    else record { at = a; value = new a } ∷ changed_cells old new addresses

-- an arrival of bytes, where there is one
abbrev pub listed : List Cell → List Arrival
listed [] = []
listed (cell ∷ cells) = bytes (cell ∷ cells) ∷ []

-- the bytes of the box's items that differ between two states
abbrev pub differing : Config → BoxPart → Flat → Flat → List Cell
differing cfg box old new =
    changed_cells (byte_at cfg.board old.shared.memory) (byte_at cfg.board new.shared.memory) (addresses_of box.items)

-- whether the kernel call writes a register
abbrev pub is_register_write : KernelCall → Bool
is_register_write (call.PagesAlloc n t) = false
is_register_write (call.PageFree a) = false
is_register_write (call.IrqOn n) = false
is_register_write (call.IrqOff n) = false
is_register_write call.IrqReturn = false
is_register_write (call.GwRead d n) = false
is_register_write (call.GwWrite s n) = true
is_register_write (call.RpcCall d n) = false
is_register_write (call.RpcSync n looks) = false
is_register_write call.RpcTake = false
is_register_write (call.RpcReturn s) = false
is_register_write (call.RpcResult d s) = false

-- whether a turn that comes to this writes a register
abbrev pub writes_register : Next → Bool
writes_register next.Look = false
writes_register (next.Deliver irq) = false
writes_register (next.Local i) = false
writes_register (next.Access access) = false
writes_register (next.Unaligned at) = false
writes_register (next.Kernel c) = is_register_write c
writes_register next.Nowhere = false

-- the bytes that a turn of the box's own changed, where it is one that writes a register
abbrev pub own_changes : Config → BoxPart → Flat → Flat → Next → List Cell
own_changes cfg box old new n = if writes_register n then differing cfg box old new else []

-- what a turn of the box's thread with this index brings, if it has an actor
abbrev pub turn_arrivals : Config → BoxPart → Flat → Flat → ℕ → Bool → Reply → Option Actor → List Arrival
turn_arrivals cfg box old new t room r None = event (t - box.first) (turn room) (supply_of_turn None r) ∷ []
turn_arrivals cfg box old new t room r (Some a) =
    event (t - box.first) (turn room) (supply_of_turn (Some (next_of_actor old.shared.lines a t)) r)
    ∷ listed (own_changes cfg box old new (next_of_actor old.shared.lines a t))

-- what a choice brings to the box that led from one state to another with this reply
abbrev pub arrivals_by : Config → BoxPart → Flat → Flat → Reply → Choice → List Arrival
arrivals_by cfg box old new r (choice.Turn t room) =
    if is_thread_of box t.0 then turn_arrivals cfg box old new t.0 room r (actor_of cfg old t.0)
    else listed (differing cfg box old new)
arrivals_by cfg box old new r (choice.Start t ticket) =
    if is_thread_of box t.0 then event (t.0 - box.first) start (supply_of_start r) ∷ []
    else listed (differing cfg box old new)
arrivals_by cfg box old new r (choice.Idle t) =
    if is_thread_of box t.0 then event (t.0 - box.first) idle supply_of_idle ∷ []
    else listed (differing cfg box old new)
arrivals_by cfg box old new r (choice.Ring line by) = if has_line line.0 box.irqs then rung line.0 ∷ [] else []

-- what a choice brings to the box
abbrev pub arrivals_of : Config → BoxPart → Flat → Choice → List Arrival
arrivals_of cfg box f c = arrivals_by cfg box f (state_after cfg f c) (reply_to cfg f c) c

-- what choices bring to the box, from a state on
abbrev pub arrivals_from : Config → BoxPart → Flat → List Choice → List Arrival
arrivals_from cfg box f [] = []
arrivals_from cfg box f (c ∷ cs) = arrivals_of cfg box f c ++ arrivals_from cfg box (state_after cfg f c) cs

-- what reaches the box in a log
abbrev pub reach_of : Config → BoxPart → Log → List Arrival
reach_of cfg box log = arrivals_from cfg box (opening_state cfg) (choices_of log.items)
