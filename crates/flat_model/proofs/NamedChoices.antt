-- Each choice that fits gives an entry that names what is there.
use Rattle.std.proofs.Common.{◌≡◌, ℕ, ◌<◌, Bool, true, false, List, [], ◌∷◌, Option, Some, None, refl, sym, ◌∙◌, ap, subst, inl, inr}
use Rattle.std.specs.Prelude.{◌&&◌, nat_eq, is_none, find, if◌then◌else◌, slice_get}
use Rattle.std.specs.List.{AllByRecursion, list_any}
use Rattle.std.proofs.lemmas.Bool.{cases_Bool, eq-eqb, eqb-true, false≢true, lt-ltb}
use Rattle.std.proofs.lemmas.List.Elements.{All-contains, All-from_recursion}
use Rattle.std.proofs.lemmas.Option.{get_or_from_slice_get, none-some, same_Some, slice_get_within}
use Rattle.addr_base.specs.declared.identity.BoxId.{BoxId}
use Rattle.addr_base.specs.declared.identity.ThreadId.{ThreadId}
use Rattle.addr_base.specs.declared.identity.Ticket.{Ticket}
use Rattle.flat_model.specs.declared.actors.Who.{Who}
use Rattle.flat_model.specs.declared.classes.KernelCall.{KernelCall}
use Rattle.flat_model.specs.declared.classes.KernelCall.TheVariants as call
use Rattle.flat_model.specs.declared.events.Choice.{Choice}
use Rattle.flat_model.specs.declared.events.Choice.TheVariants as choice
use Rattle.flat_model.specs.declared.events.Reply.TheVariants as reply
use Rattle.flat_model.specs.declared.events.Want.{Want}
use Rattle.flat_model.specs.declared.events.Want.TheVariants as want
use Rattle.flat_model.specs.declared.next.Next.{Next}
use Rattle.flat_model.specs.declared.next.Next.TheVariants as next
use Rattle.flat_model.specs.declared.parts.BoxPart.{BoxPart}
use Rattle.flat_model.specs.declared.parts.Config.{Config}
use Rattle.flat_model.specs.declared.parts.RpcGate.{RpcGate}
use Rattle.flat_model.specs.declared.states.Call.{Call}
use Rattle.flat_model.specs.declared.states.Flat.{Flat}
use Rattle.flat_model.specs.declared.states.Shared.{Shared}
use Rattle.flat_model.specs.declared.states.ThreadState.{ThreadState}
use Rattle.flat_model.specs.Actors.{Actor, actor_of, who_acts}
use Rattle.flat_model.specs.CallRows.{gateway_for, home_of, is_server, rpc_post_row, served_ticket, server_row, start_row}
use Rattle.flat_model.specs.Calls.{call_with, is_posted_to, oldest_posted_by, same_ticket}
use Rattle.flat_model.specs.Interrupts.{has_line}
use Rattle.flat_model.specs.Log.{is_full_reply, is_idle_reply, is_named_choice, is_start_reply, is_turn_reply}
use Rattle.flat_model.specs.Next.{holds_next, next_of_actor}
use Rattle.flat_model.specs.Run.{LINES}
use Rattle.flat_model.specs.Step.{fitting_step, reply_to, serve_by, step, turn_by}
use Rattle.flat_model.specs.Thread.{counted}
use Rattle.flat_model.specs.ThreadEvents.{posted, posted_and_waiting}
use Rattle.flat_model.specs.Turn.{kernel_row, row_of}
use Rattle.flat_model.specs.Want.{fits, fits_with_room, fits_without_room, is_owned_line, is_thread, want_by, want_by_call, want_next, want_of, want_of_actor, want_room, wants_next}
use Rattle.flat_model.proofs.ActorLemmas.{actor-is}
use Rattle.flat_model.proofs.NamedReplies.{HasLines, turn-turned}

-- every line that a box names is one that there is
abbrev pub HasNamedLines : Config → Type 0
HasNamedLines cfg = AllByRecursion (λ part. HasLines part.irqs) cfg.boxes

-- what holds of each element holds of the one at a place
pub at_place : {X : Type 0} (P : X → Type 0) → (xs : List X) (i : ℕ) (x : X) → AllByRecursion P xs → slice_get xs i ≡ Some x → P x
at_place P xs i x all found =
    All-contains P xs x (All-from_recursion P xs all) (i, slice_get_within xs i x found, get_or_from_slice_get xs i x x found)

-- what holds of each element holds of one that passes a test, where one does
from_any : {X : Type 0} (P : X → Type 0) (passes : X → Bool) (Q : Type 0) → ((x : X) → P x → passes x ≡ true → Q) → (xs : List X) → AllByRecursion P xs → list_any passes xs ≡ true → Q
from_any P passes Q each [] all some = absurd (false≢true some)
from_any P passes Q each (x ∷ xs) all some = elim (cases_Bool (passes x)) [
  | inl here ↦ each x all.0 here
  | inr later ↦ from_any P passes Q each xs all.1 (rw later at some)
]

-- a found element passes the test
pub find-passes : {X : Type 0} (passes : X → Bool) → (xs : List X) (x : X) → find passes xs ≡ Some x → passes x ≡ true
find-passes passes [] x found = absurd (none-some x found)
find-passes passes (y ∷ ys) x found = elim (cases_Bool (passes y)) [
  | inl here ↦ subst (λ z. passes z ≡ true) (same_Some y x (rw here at found)) here
  | inr later ↦ find-passes passes ys x (rw later at found)
]

-- ---- a turn with room

-- the lines of an actor's box are named
actor_lines : (cfg : Config) (f : Flat) (t : ℕ) (a : Actor) → HasNamedLines cfg → actor_of cfg f t ≡ Some a → HasLines a.part.irqs
actor_lines cfg f t a all acting =
    at_place (λ p. HasLines p.irqs) cfg.boxes a.program.home.0 a.part all (actor-is cfg f t a acting).part

turn-named : (cfg : Config) (f : Flat) (t : ThreadId) (a : Option Actor) → HasNamedLines cfg → actor_of cfg f t.0 ≡ a →
    is_turn_reply (turn_by cfg f t true a).1 ≡ true
turn-named cfg f t None all acting = refl
turn-named cfg f t (Some a) all acting = turn-turned cfg f t a (actor_lines cfg f t.0 a all acting)

-- ---- a turn without room

pub both_true : (x y : Bool) → (x && y) ≡ true → (x ≡ true) × (y ≡ true)
both_true true true both = (refl, refl)
both_true true false both = absurd (false≢true both)
both_true false y both = absurd (false≢true both)

wants_room : (cfg : Config) (f : Flat) (t : ℕ) (w : Want) → fits_without_room cfg f t w ≡ true → (b : BoxId) × (w ≡ want.Room b)
wants_room cfg f t (want.Room b) fitting = (b, refl)
wants_room cfg f t want.Plain fitting = absurd (false≢true fitting)
wants_room cfg f t want.Next fitting = absurd (false≢true fitting)

plain-room : (b : BoxId) → want.Plain ≡ want.Room b → ⊥
plain-room b same = cc

next-room : (b : BoxId) → want.Next ≡ want.Room b → ⊥
next-room b same = cc

-- a call without room has the status that says so
full-post : (who : Who) (m : Shared) (th after : ThreadState) (b : BoxId) (gate : Option RpcGate) → who.room ≡ false →
    want_room gate ≡ want.Room b → is_full_reply (rpc_post_row who m th after gate).reply ≡ true
full-post who m th after b None room wants = absurd (plain-room b wants)
full-post who m th after b (Some gate) room wants = rw room refl

take-room : (b : BoxId) (takes : Bool) → want_next takes ≡ want.Room b → ⊥
take-room b true wants = next-room b wants
take-room b false wants = plain-room b wants

full-call : (cfg : Config) (asks who : Who) (part : BoxPart) (m : Shared) (th : ThreadState) (b : BoxId) (c : KernelCall) →
    who.room ≡ false → asks.home ≡ who.home → want_by_call cfg asks part m c ≡ want.Room b →
    is_full_reply (kernel_row cfg who part m th c).reply ≡ true
full-call cfg asks who part m th b (call.PagesAlloc n t) room home wants = absurd (plain-room b wants)
full-call cfg asks who part m th b (call.PageFree a) room home wants = absurd (plain-room b wants)
full-call cfg asks who part m th b (call.IrqOn n) room home wants = absurd (plain-room b wants)
full-call cfg asks who part m th b (call.IrqOff n) room home wants = absurd (plain-room b wants)
full-call cfg asks who part m th b call.IrqReturn room home wants = absurd (plain-room b wants)
full-call cfg asks who part m th b (call.GwRead d n) room home wants = absurd (plain-room b wants)
full-call cfg asks who part m th b (call.GwWrite s n) room home wants = absurd (plain-room b wants)
full-call cfg asks who part m th b (call.RpcCall d n) room home wants =
    full-post who m th (posted th d) b (gateway_for who.home.0 (slice_get cfg.gateways n)) room
    (sym (ap (λ (h : BoxId). want_room (gateway_for h.0 (slice_get cfg.gateways n))) home) ∙ wants)
full-call cfg asks who part m th b (call.RpcSync n looks) room home wants =
    full-post who m th (posted_and_waiting th looks) b (gateway_for who.home.0 (slice_get cfg.gateways n)) room
    (sym (ap (λ (h : BoxId). want_room (gateway_for h.0 (slice_get cfg.gateways n))) home) ∙ wants)
full-call cfg asks who part m th b call.RpcTake room home wants =
    absurd (take-room b (is_server asks part && is_none (served_ticket m.serving asks.home.0)) wants)
full-call cfg asks who part m th b (call.RpcReturn s) room home wants = absurd (plain-room b wants)
full-call cfg asks who part m th b (call.RpcResult d s) room home wants = absurd (plain-room b wants)

full-row : (cfg : Config) (asks who : Who) (part : BoxPart) (m : Shared) (th : ThreadState) (b : BoxId) (granted : Bool) (n : Next) →
    who.room ≡ false → asks.home ≡ who.home → want_by cfg asks part m n ≡ want.Room b →
    is_full_reply (row_of cfg who part m th granted n).reply ≡ true
full-row cfg asks who part m th b granted next.Look room home wants = absurd (plain-room b wants)
full-row cfg asks who part m th b granted (next.Deliver irq) room home wants = absurd (plain-room b wants)
full-row cfg asks who part m th b granted (next.Local i) room home wants = absurd (plain-room b wants)
full-row cfg asks who part m th b granted (next.Access access) room home wants = absurd (plain-room b wants)
full-row cfg asks who part m th b granted (next.Unaligned at) room home wants = absurd (plain-room b wants)
full-row cfg asks who part m th b granted (next.Kernel c) room home wants = full-call cfg asks who part m th b c room home wants
full-row cfg asks who part m th b granted next.Nowhere room home wants = absurd (plain-room b wants)

full-turn : (cfg : Config) (f : Flat) (t : ThreadId) (a : Option Actor) (b : BoxId) → want_of_actor cfg f.shared t a ≡ want.Room b →
    is_full_reply (turn_by cfg f t false a).1 ≡ true
full-turn cfg f t None b wants = absurd (plain-room b wants)
full-turn cfg f t (Some a) b wants =
    let n = next_of_actor f.shared.lines a t.0 in
    full-row cfg (who_acts a t true) (who_acts a t false) a.part f.shared (counted a.thread) b
    (holds_next cfg.board a.program.home.0 a.part f.shared.owners n) n refl refl wants

-- ---- a server's events

start-named : (cfg : Config) (b : ℕ) (m : Shared) (th : ThreadState) (ticket : Ticket) →
    is_start_reply (home_of cfg ticket.thread.0) (server_row cfg b m th (Some ticket)).reply ≡ true
start-named cfg b m th ticket = by_call (oldest_posted_by ticket.thread.0 b m.calls) refl
  where
    by_call : (call : Option Call) → oldest_posted_by ticket.thread.0 b m.calls ≡ call →
        is_start_reply (home_of cfg ticket.thread.0) (start_row cfg b m th ticket (call_with ticket call)).reply ≡ true
    by_call None is = refl
    by_call (Some call) is =
        let passes = find-passes (λ (c : Call). is_posted_to b c && nat_eq c.ticket.thread.0 ticket.thread.0) m.calls call is in
        let same : call.ticket.thread.0 ≡ ticket.thread.0 = eqb-true call.ticket.thread.0 ticket.thread.0 (both_true (is_posted_to b call) (nat_eq call.ticket.thread.0 ticket.thread.0) passes).1 in
        elim (cases_Bool (same_ticket ticket call.ticket)) [
          | inl next ↦ rw next (eq-eqb (home_of cfg call.ticket.thread.0).0 (home_of cfg ticket.thread.0).0 (ap (λ n. (home_of cfg n).0) same))
          | inr another ↦ rw another refl
        ]

serve-named : (cfg : Config) (f : Flat) (t : ThreadId) (ticket : Ticket) (a : Option Actor) →
    wants_next (want_of_actor cfg f.shared t a) ≡ true → is_start_reply (home_of cfg ticket.thread.0) (serve_by cfg f t (Some ticket) a).1 ≡ true
serve-named cfg f t ticket None next = absurd (false≢true next)
serve-named cfg f t ticket (Some a) next = start-named cfg a.program.home.0 f.shared (counted a.thread) ticket

idle-named : (cfg : Config) (f : Flat) (t : ThreadId) (a : Option Actor) →
    wants_next (want_of_actor cfg f.shared t a) ≡ true → is_idle_reply (serve_by cfg f t None a).1 ≡ true
idle-named cfg f t None next = absurd (false≢true next)
idle-named cfg f t (Some a) next = refl

-- ---- every choice

line_there : (cfg : Config) (line : ℕ) → HasNamedLines cfg → is_owned_line cfg line ≡ true → line < LINES
line_there cfg line all owned =
    from_any (λ part. HasLines part.irqs) (λ part. has_line line part.irqs) (line < LINES)
    (λ part lines has. from_any (λ irq. irq.line.0 < LINES) (λ irq. nat_eq irq.line.0 line) (line < LINES)
    (λ irq there same. subst (λ n. n < LINES) (eqb-true irq.line.0 line same) there) part.irqs lines has)
    cfg.boxes all owned

-- a choice that fits is answered as its step says
pub reply_to-fitting : (cfg : Config) (f : Flat) (c : Choice) → fits cfg f c ≡ true → reply_to cfg f c ≡ (fitting_step cfg f c).1
unfolding step
reply_to-fitting cfg f c fitting = ap (λ t. (if t then fitting_step cfg f c else (f, reply.Ended)).1) fitting

-- the entry of a choice that fits names what is there
pub entry-named : (cfg : Config) (f : Flat) (c : Choice) → HasNamedLines cfg → fits cfg f c ≡ true → is_named_choice cfg c (reply_to cfg f c) ≡ true
entry-named cfg f (choice.Turn t true) all fitting =
    let it = both_true (is_thread cfg t) (fits_with_room (want_of cfg f t.0)) fitting in
    subst (λ r. is_named_choice cfg (choice.Turn t true) r ≡ true) (sym (reply_to-fitting cfg f (choice.Turn t true) fitting))
    (rw it.0 (turn-named cfg f t (actor_of cfg f t.0) all refl))
entry-named cfg f (choice.Turn t false) all fitting =
    let it = both_true (is_thread cfg t) (fits_without_room cfg f t.0 (want_of cfg f t.0)) fitting in
    let room = wants_room cfg f t.0 (want_of cfg f t.0) it.1 in
    subst (λ r. is_named_choice cfg (choice.Turn t false) r ≡ true) (sym (reply_to-fitting cfg f (choice.Turn t false) fitting))
    (rw it.0 (full-turn cfg f t (actor_of cfg f t.0) room.0 room.1))
entry-named cfg f (choice.Start t ticket) all fitting =
    let it = both_true (is_thread cfg t && is_thread cfg ticket.thread) (wants_next (want_of cfg f t.0)) fitting in
    let there = both_true (is_thread cfg t) (is_thread cfg ticket.thread) it.0 in
    subst (λ r. is_named_choice cfg (choice.Start t ticket) r ≡ true) (sym (reply_to-fitting cfg f (choice.Start t ticket) fitting))
    (rw (there.0, there.1)
    (serve-named cfg f t ticket (actor_of cfg f t.0) it.1))
entry-named cfg f (choice.Idle t) all fitting =
    let it = both_true (is_thread cfg t) (wants_next (want_of cfg f t.0)) fitting in
    subst (λ r. is_named_choice cfg (choice.Idle t) r ≡ true) (sym (reply_to-fitting cfg f (choice.Idle t) fitting))
    (rw it.0
    (idle-named cfg f t (actor_of cfg f t.0) it.1))
entry-named cfg f (choice.Ring line by) all fitting =
    subst (λ r. is_named_choice cfg (choice.Ring line by) r ≡ true) (sym (reply_to-fitting cfg f (choice.Ring line by) fitting))
    (rw (lt-ltb line.0 LINES (line_there cfg line.0 all fitting)) refl)
