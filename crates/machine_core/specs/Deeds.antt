-- What an actor does in one event, for the flat machine and for the unit.
use Rattle.std.specs.Prelude.{◌≡◌, ⊤, ℕ, Bool, true, false, ◌&&◌, not, nat_lt, Option, Some, None}
use Rattle.std.specs.Option.{option_map}
use Rattle.addr_base.specs.declared.identity.ThreadId.{ThreadId}
use Rattle.addr_base.specs.declared.identity.Ticket.{Ticket}
use Rattle.flat_model.specs.declared.accesses.Access.{Access}
use Rattle.flat_model.specs.declared.actors.Who.{Who}
use Rattle.flat_model.specs.declared.events.Choice.{Choice}
use Rattle.flat_model.specs.declared.events.Choice.TheVariants as choice
use Rattle.flat_model.specs.declared.events.Reply.{Reply}
use Rattle.flat_model.specs.declared.events.Want.{Want}
use Rattle.flat_model.specs.declared.events.Want.TheVariants as want
use Rattle.flat_model.specs.declared.next.Next.{Next}
use Rattle.flat_model.specs.declared.parts.BoxPart.{BoxPart}
use Rattle.flat_model.specs.declared.parts.Config.{Config}
use Rattle.flat_model.specs.declared.states.Flat.{Flat}
use Rattle.flat_model.specs.declared.states.Shared.{Shared}
use Rattle.flat_model.specs.declared.states.ThreadState.{ThreadState}
use Rattle.flat_model.specs.CallRows.{server_row}
use Rattle.flat_model.specs.Calls.{oldest_posted, posted_count}
use Rattle.flat_model.specs.Next.{is_page_turn, touch_in}
use Rattle.flat_model.specs.Outcome.{Outcome}
use Rattle.flat_model.specs.Step.{is_status}
use Rattle.flat_model.specs.Script.{choice_of_thread}
use Rattle.flat_model.specs.Thread.{counted}
use Rattle.flat_model.specs.Turn.{turn_row, within_budget}
use Rattle.flat_model.specs.Want.{fits, inbox_slots}
use Rattle.machine_core.specs.declared.deeds.Deed.{Deed}
use Rattle.machine_core.specs.declared.deeds.Deed.TheVariants as deed
use Rattle.machine_core.specs.declared.deeds.Order.{Order}
use Rattle.machine_core.specs.declared.deeds.Order.TheVariants as order

-- the choice of a server's event
abbrev pub serve_choice : ThreadId → Option Ticket → Choice
serve_choice t None = choice.Idle t
serve_choice t (Some ticket) = choice.Start t ticket

-- the choice that a thread makes by what it does
abbrev pub choice_by : ThreadId → Deed → Choice
choice_by t (deed.Turn room) = choice.Turn t room
choice_by t (deed.Serve ticket) = serve_choice t ticket

-- what a script's word has a thread of the box with this number do that wants this
abbrev pub deed_by_want : Config → Shared → ℕ → Want → Deed
deed_by_want cfg m b want.Plain = deed.Turn true
deed_by_want cfg m b (want.Room target) = deed.Turn (nat_lt (posted_count target.0 m.calls) (inbox_slots cfg))
deed_by_want cfg m b want.Next = deed.Serve (option_map (λ call. call.ticket) (oldest_posted b m.calls))

-- what an order has a thread of the box with this number do that wants this
abbrev pub deed_by_order : Config → Shared → ℕ → Want → Order → Deed
deed_by_order cfg m b w order.Word = deed_by_want cfg m b w
deed_by_order cfg m b w (order.Given d) = d

-- the choice that an order has a thread make
abbrev pub choice_by_order : Config → Flat → ThreadId → Order → Choice
choice_by_order cfg f t order.Word = choice_of_thread cfg f t
choice_by_order cfg f t (order.Given d) = choice_by t d

-- the choice that it has a thread make that acts no more
abbrev pub idle_choice : ThreadId → Order → Choice
idle_choice t order.Word = choice.Turn t true
idle_choice t (order.Given d) = choice_by t d

-- an order that says what the thread does has it make a choice that fits
abbrev pub IsFitOrder : Config → Flat → ThreadId → Order → Type 0
IsFitOrder cfg f t order.Word = ⊤
IsFitOrder cfg f t (order.Given d) = fits cfg f (choice_by t d) ≡ true

-- the actor's row, whose turn comes to this
abbrev pub deed_row : Config → Who → BoxPart → ℕ → Shared → ThreadState → Bool → Next → Deed → Outcome
deed_row cfg who part budget m th granted n (deed.Turn room) =
    turn_row cfg (record who { room = room }) part budget m th granted n
deed_row cfg who part budget m th granted n (deed.Serve ticket) =
    within_budget budget (server_row cfg who.home.0 m (counted th) ticket)

-- the access that it decides, if it decides one
abbrev pub touch_by_deed : Next → Deed → Option Access
touch_by_deed n (deed.Turn room) = touch_in n
touch_by_deed n (deed.Serve ticket) = None

-- whether it empties the slots of the circle, answered so
abbrev pub empties_by_deed : Next → Reply → Deed → Bool
empties_by_deed n r (deed.Turn room) = is_page_turn n && not (is_status r)
empties_by_deed n r (deed.Serve ticket) = false
