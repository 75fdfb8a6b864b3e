-- The unit is ready in every world that choices reach.
use Rattle.std.proofs.Common.{◌≡◌, Bool, true, false, ◌&&◌, not, Option, Some, None, List, [], ◌∷◌, replicate, refl, sym, ap, ◌∙◌, subst, length}
use Rattle.std.specs.List.{slice_get}
use Rattle.std.specs.Option.{option_map_or}
use Rattle.std.proofs.lemmas.Bool.{and_parts, false≢true, true≢false}
use Rattle.std.proofs.lemmas.List.{length-replicate}
use Rattle.addr_base.specs.declared.identity.BoxId.{BoxId}
use Rattle.addr_base.specs.declared.identity.ThreadId.{ThreadId}
use Rattle.addr_base.specs.declared.identity.Ticket.{Ticket}
use Rattle.flat_model.specs.declared.actors.Who.{Who}
use Rattle.flat_model.specs.declared.boards.HeapPart.{HeapPart}
use Rattle.flat_model.specs.declared.classes.KernelCall.{KernelCall}
use Rattle.flat_model.specs.declared.classes.KernelCall.TheVariants as call
use Rattle.flat_model.specs.declared.events.Choice.{Choice}
use Rattle.flat_model.specs.declared.events.Choice.TheVariants as choice
use Rattle.flat_model.specs.declared.events.Reply.{Reply}
use Rattle.flat_model.specs.declared.events.Reply.TheVariants as reply
use Rattle.flat_model.specs.declared.events.Want.TheVariants as want
use Rattle.flat_model.specs.declared.next.Next.{Next}
use Rattle.flat_model.specs.declared.next.Next.TheVariants as next
use Rattle.flat_model.specs.declared.parts.BoxPart.{BoxPart}
use Rattle.flat_model.specs.declared.parts.Config.{Config}
use Rattle.flat_model.specs.declared.states.Flat.{Flat}
use Rattle.flat_model.specs.declared.states.Shared.{Shared}
use Rattle.flat_model.specs.Actors.{Actor, actor_of, who_acts}
use Rattle.flat_model.specs.Next.{holds_next, is_page_call, is_page_turn, next_of_actor}
use Rattle.flat_model.specs.Run.{opening_state}
use Rattle.flat_model.specs.Step.{empties_slots, fitting_step, is_page_turn_by, is_status, reply_to, rung, serve_by, state_after, step, touch_of, turn_by}
use Rattle.flat_model.specs.Thread.{counted}
use Rattle.flat_model.specs.Trace.{World, opening_world, world_after, world_after_all}
use Rattle.flat_model.specs.UnitRun.{UnitState, actor_at, opening_unit, unit_after, unit_after_actor}
use Rattle.flat_model.specs.Want.{fits, fits_without_room, is_thread, want_by, want_by_call, want_of, want_of_actor}
use Rattle.flat_model.proofs.ActorLemmas.{actor-is}
use Rattle.flat_model.proofs.Granted.{IsUnitReady, IsUnitReady-after_event, IsUnitReady-opening}
use Rattle.flat_model.specs.Pages.{HasOwners}
use Rattle.flat_model.proofs.Owners.{server-owners, turn-owners}
use Rattle.flat_model.proofs.StepCases.{step-fits, step-unfit}

-- ---- what a choice leaves of the owners

-- there are as many owners as before, and but for a step that empties slots they are the same
pub record Steadies (f : Flat) (p : Flat × Reply) (empties : Bool) : Type 0 where
  pub count : length p.0.shared.owners ≡ length f.shared.owners
  pub same : empties ≡ false → p.0.shared.owners ≡ f.shared.owners

steady : (f : Flat) (p : Flat × Reply) (empties : Bool) → p.0.shared.owners ≡ f.shared.owners → Steadies f p empties
steady f p empties same = record { count = ap length same; same = λ none. same }

steady-turn : (cfg : Config) (f : Flat) (t : ThreadId) (room : Bool) (a : Option Actor) →
    Steadies f (turn_by cfg f t room a) (is_page_turn_by f t.0 a && not (is_status (turn_by cfg f t room a).1))
steady-turn cfg f t room None = steady f (f, reply.Ended) false refl
steady-turn cfg f t room (Some a) =
    let n = next_of_actor f.shared.lines a t.0 in
    let kept = turn-owners cfg (who_acts a t room) a.part a.program.steps f.shared a.thread
    (holds_next cfg.board a.program.home.0 a.part f.shared.owners n) n in
    record { count = kept.count; same = kept.same }

plain-call : (cfg : Config) (who : Who) (part : BoxPart) (m : Shared) (c : KernelCall) → is_page_call c ≡ true →
    want_by_call cfg who part m c ≡ want.Plain
plain-call cfg who part m (call.PagesAlloc n t) page = refl
plain-call cfg who part m (call.PageFree a) page = refl
plain-call cfg who part m (call.IrqOn n) page = refl
plain-call cfg who part m (call.IrqOff n) page = refl
plain-call cfg who part m call.IrqReturn page = refl
plain-call cfg who part m (call.GwRead d n) page = refl
plain-call cfg who part m (call.GwWrite s n) page = refl
plain-call cfg who part m (call.RpcCall d n) page = absurd (false≢true page)
plain-call cfg who part m (call.RpcSync n looks) page = absurd (false≢true page)
plain-call cfg who part m call.RpcTake page = absurd (false≢true page)
plain-call cfg who part m (call.RpcReturn s) page = refl
plain-call cfg who part m (call.RpcResult d s) page = refl

plain-turn : (cfg : Config) (who : Who) (part : BoxPart) (m : Shared) (n : Next) → is_page_turn n ≡ true →
    want_by cfg who part m n ≡ want.Plain
plain-turn cfg who part m next.Look page = refl
plain-turn cfg who part m (next.Deliver irq) page = refl
plain-turn cfg who part m (next.Local i) page = refl
plain-turn cfg who part m (next.Access access) page = refl
plain-turn cfg who part m (next.Unaligned at) page = refl
plain-turn cfg who part m (next.Kernel c) page = plain-call cfg who part m c page
plain-turn cfg who part m next.Nowhere page = refl

-- a turn without room is no page call
full-pages : (cfg : Config) (f : Flat) (t : ThreadId) (a : Option Actor) →
    fits_without_room cfg f t.0 (want_of_actor cfg f.shared t a) ≡ true → is_page_turn_by f t.0 a ≡ false
full-pages cfg f t None fit = refl
full-pages cfg f t (Some a) fit = by_page (is_page_turn (next_of_actor f.shared.lines a t.0)) refl
  where
    by_page : (b : Bool) → is_page_turn (next_of_actor f.shared.lines a t.0) ≡ b → b ≡ false
    by_page false page = refl
    by_page true page = absurd (true≢false (sym fit
        ∙ ap (fits_without_room cfg f t.0) (plain-turn cfg (who_acts a t true) a.part f.shared (next_of_actor f.shared.lines a t.0) page)))

steady-serve : (cfg : Config) (f : Flat) (t : ThreadId) (ticket : Option Ticket) (a : Option Actor) →
    (serve_by cfg f t ticket a).0.shared.owners ≡ f.shared.owners
steady-serve cfg f t ticket None = refl
steady-serve cfg f t ticket (Some a) = server-owners cfg a.program.home.0 f.shared (counted a.thread) ticket

empties-turn : (cfg : Config) (f : Flat) (t : ThreadId) → empties_slots cfg f (choice.Turn t true)
    ≡ (is_page_turn_by f t.0 (actor_of cfg f t.0) && not (is_status (reply_to cfg f (choice.Turn t true))))
unfolding empties_slots
empties-turn cfg f t = refl

steady-fitting : (cfg : Config) (f : Flat) (c : Choice) → fits cfg f c ≡ true → Steadies f (step cfg f c) (empties_slots cfg f c)
steady-fitting cfg f (choice.Turn t true) fit =
    let is = step-fits cfg f (choice.Turn t true) fit in
    let kept = steady-turn cfg f t true (actor_of cfg f t.0) in
    subst (λ (p : Flat × Reply). Steadies f p (empties_slots cfg f (choice.Turn t true))) (sym is)
    (subst (λ b. Steadies f (fitting_step cfg f (choice.Turn t true)) b)
    (sym (empties-turn cfg f t ∙ ap (λ (p : Flat × Reply). is_page_turn_by f t.0 (actor_of cfg f t.0) && not (is_status p.1)) is))
    kept)
steady-fitting cfg f (choice.Turn t false) fit =
    let is = step-fits cfg f (choice.Turn t false) fit in
    let kept = steady-turn cfg f t false (actor_of cfg f t.0) in
    let wants = (and_parts (is_thread cfg t) (fits_without_room cfg f t.0 (want_of cfg f t.0)) fit).1 in
    let none = full-pages cfg f t (actor_of cfg f t.0) wants in
    subst (λ (p : Flat × Reply). Steadies f p (empties_slots cfg f (choice.Turn t false))) (sym is)
    (steady f (fitting_step cfg f (choice.Turn t false)) (empties_slots cfg f (choice.Turn t false))
    (kept.same (ap (λ b. b && not (is_status (turn_by cfg f t false (actor_of cfg f t.0)).1)) none)))
steady-fitting cfg f (choice.Start t ticket) fit =
    subst (λ (p : Flat × Reply). Steadies f p (empties_slots cfg f (choice.Start t ticket))) (sym (step-fits cfg f (choice.Start t ticket) fit))
    (steady f (fitting_step cfg f (choice.Start t ticket)) (empties_slots cfg f (choice.Start t ticket))
    (steady-serve cfg f t (Some ticket) (actor_of cfg f t.0)))
steady-fitting cfg f (choice.Idle t) fit =
    subst (λ (p : Flat × Reply). Steadies f p (empties_slots cfg f (choice.Idle t))) (sym (step-fits cfg f (choice.Idle t) fit))
    (steady f (fitting_step cfg f (choice.Idle t)) (empties_slots cfg f (choice.Idle t))
    (steady-serve cfg f t None (actor_of cfg f t.0)))
steady-fitting cfg f (choice.Ring l by) fit =
    subst (λ (p : Flat × Reply). Steadies f p (empties_slots cfg f (choice.Ring l by))) (sym (step-fits cfg f (choice.Ring l by) fit))
    (steady f (rung f l.0, reply.Done) (empties_slots cfg f (choice.Ring l by)) refl)

steady-step : (cfg : Config) (f : Flat) (c : Choice) → Steadies f (step cfg f c) (empties_slots cfg f c)
steady-step cfg f c = by_fit (fits cfg f c) refl
  where
    by_fit : (b : Bool) → fits cfg f c ≡ b → Steadies f (step cfg f c) (empties_slots cfg f c)
    by_fit true fit = steady-fitting cfg f c fit
    by_fit false fit = subst (λ (p : Flat × Reply). Steadies f p (empties_slots cfg f c)) (sym (step-unfit cfg f c fit))
        (steady f (f, reply.Ended) (empties_slots cfg f c) refl)

-- ---- the unit is ready in every world reached

-- there is an owner's place for each page, and the unit is ready for the box that was last switched to
pub record IsWorldReady (cfg : Config) (f : Flat) (u : UnitState) : Type 0 where
  pub owners : HasOwners cfg.board.heap f.shared.owners
  pub unit : IsUnitReady cfg f.shared.owners u

has_owners-opening : (heap : Option HeapPart) → HasOwners heap (replicate (option_map_or (λ (h : HeapPart). h.count) heap 0) None)
has_owners-opening None = tt
has_owners-opening (Some heap) = length-replicate heap.count None

pub IsWorldReady-opening : (cfg : Config) → IsWorldReady cfg (opening_state cfg) (opening_unit cfg)
unfolding opening_state
IsWorldReady-opening cfg = record {
  owners = has_owners-opening cfg.board.heap;
  unit = IsUnitReady-opening cfg (opening_state cfg).shared.owners (opening_unit cfg).pairs 2;
}

has_owners-same : (heap : Option HeapPart) (owners other : List (Option BoxId)) → length other ≡ length owners →
    HasOwners heap owners → HasOwners heap other
has_owners-same None owners other same has = tt
has_owners-same (Some heap) owners other same has = same ∙ has

-- where nobody acts for the unit, no slots are emptied
idle-empties : (cfg : Config) (f : Flat) (c : Choice) → actor_at cfg f c ≡ None → empties_slots cfg f c ≡ false
unfolding empties_slots
idle-empties cfg f (choice.Turn t true) none =
    ap (λ a. is_page_turn_by f t.0 a && not (is_status (reply_to cfg f (choice.Turn t true)))) none
idle-empties cfg f (choice.Turn t false) none = refl
idle-empties cfg f (choice.Start t ticket) none = refl
idle-empties cfg f (choice.Idle t) none = refl
idle-empties cfg f (choice.Ring l by) none = refl

-- the box of who acts at a choice
pub part-acting : (cfg : Config) (f : Flat) (c : Choice) (a : Actor) → actor_at cfg f c ≡ Some a →
    slice_get cfg.boxes a.program.home.0 ≡ Some a.part
part-acting cfg f (choice.Turn t room) a acting = (actor-is cfg f t.0 a acting).part
part-acting cfg f (choice.Start t ticket) a acting = (actor-is cfg f t.0 a acting).part
part-acting cfg f (choice.Idle t) a acting = (actor-is cfg f t.0 a acting).part
part-acting cfg f (choice.Ring l by) a acting = absurd (let e : None ≡ Some a = acting in cc)

-- a choice leaves a world that is ready
pub IsWorldReady-after : (cfg : Config) (f : Flat) (u : UnitState) (c : Choice) → IsWorldReady cfg f u →
    IsWorldReady cfg (state_after cfg f c) (unit_after cfg f u c)
unfolding unit_after
IsWorldReady-after cfg f u c ready = record {
  owners = has_owners-same cfg.board.heap f.shared.owners (state_after cfg f c).shared.owners (steady-step cfg f c).count ready.owners;
  unit = by_actor (actor_at cfg f c) refl;
}
  where
    by_actor : (a : Option Actor) → actor_at cfg f c ≡ a →
        IsUnitReady cfg (state_after cfg f c).shared.owners (unit_after_actor cfg f u c a)
    by_actor None none =
        subst (λ owners. IsUnitReady cfg owners u) (sym ((steady-step cfg f c).same (idle-empties cfg f c none))) ready.unit
    by_actor (Some a) acting =
        IsUnitReady-after_event cfg f.shared.owners (state_after cfg f c).shared.owners a.program.home a.part u (touch_of cfg f c) (empties_slots cfg f c)
        (part-acting cfg f c a acting) (steady-step cfg f c).same ready.unit

pub ready-world : (cfg : Config) (w : World) (c : Choice) → IsWorldReady cfg w.flat w.unit →
    IsWorldReady cfg (world_after cfg w c).flat (world_after cfg w c).unit
unfolding world_after
ready-world cfg w c ready = IsWorldReady-after cfg w.flat w.unit c ready

ready-all : (cfg : Config) (w : World) (cs : List Choice) → IsWorldReady cfg w.flat w.unit →
    IsWorldReady cfg (world_after_all cfg w cs).flat (world_after_all cfg w cs).unit
ready-all cfg w [] ready = ready
ready-all cfg w (c ∷ cs) ready = ready-all cfg (world_after cfg w c) cs (ready-world cfg w c ready)

-- every world reached is ready
pub IsWorldReady-reached : (cfg : Config) (cs : List Choice) →
    IsWorldReady cfg (world_after_all cfg (opening_world cfg) cs).flat (world_after_all cfg (opening_world cfg) cs).unit
IsWorldReady-reached cfg cs = ready-all cfg (opening_world cfg) cs (IsWorldReady-opening cfg)
