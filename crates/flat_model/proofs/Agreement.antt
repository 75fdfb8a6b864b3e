-- The unit grants an access exactly where the flat machine does not answer a fault.
use Rattle.std.proofs.Common.{◌≡◌, ℕ, ◌%◌, ◌<◌, Bool, true, false, ◌&&◌, not, cond, Option, Some, None, List, [], ◌∷◌, ◌++◌, refl, sym, ap, ◌∙◌, subst, length, arith}
use Rattle.std.specs.List.{list_all}
use Rattle.std.specs.Option.{option_map_or}
use Rattle.std.proofs.lemmas.Option.{slice_get_within}
use Rattle.std.proofs.lemmas.Bool.Decides.{nat_tests}
use Rattle.std.proofs.lemmas.Bool.{and_from, eqb-true}
use Rattle.std.proofs.lemmas.List.Folds.{list_all-append}
use Rattle.addr_base.specs.declared.identity.BoxId.{BoxId}
use Rattle.addr_base.specs.declared.identity.Line.{Line}
use Rattle.addr_base.specs.declared.identity.ThreadId.{ThreadId}
use Rattle.addr_base.specs.declared.identity.Ticket.{Ticket}
use Rattle.addr_base.specs.declared.pairs.Pair.{Pair}
use Rattle.flat_model.specs.declared.accesses.Access.{Access}
use Rattle.flat_model.specs.declared.events.Choice.{Choice}
use Rattle.flat_model.specs.declared.events.Choice.TheVariants as choice
use Rattle.flat_model.specs.declared.events.Reply.{Reply}
use Rattle.flat_model.specs.declared.events.UnitLine.{UnitLine}
use Rattle.flat_model.specs.declared.events.UnitLine.TheVariants as line
use Rattle.flat_model.specs.declared.events.Want.TheVariants as want
use Rattle.flat_model.specs.declared.next.Next.TheVariants as next
use Rattle.flat_model.specs.declared.parts.BoxPart.{BoxPart}
use Rattle.flat_model.specs.declared.parts.Config.{Config}
use Rattle.flat_model.specs.declared.states.Flat.{Flat}
use Rattle.flat_model.specs.Access.{holds, may_access, owned_by}
use Rattle.flat_model.specs.Actors.{Actor, IsActor, actor_of, who_acts}
use Rattle.flat_model.specs.Decision.{decision, is_granted}
use Rattle.flat_model.specs.Interrupts.{due_interrupt}
use Rattle.flat_model.specs.Legal.{agrees_with, is_agreed, is_fault}
use Rattle.flat_model.specs.Log.{events_of}
use Rattle.flat_model.specs.Next.{holds_access, next_of_actor}
use Rattle.flat_model.specs.Plan.{plan_of}
use Rattle.flat_model.specs.Sound.{IsSound}
use Rattle.flat_model.specs.Step.{empties_slots, reply_to, step, touch_by, touch_of, turn_by, turn_of}
use Rattle.flat_model.specs.Trace.{World, trace_of, world_after}
use Rattle.flat_model.specs.UnitRun.{UnitState, access_line, access_lines, accessed, actor_at, entered, flush_lines, is_last, lines_of_actor, rotate_lines, rotated, rotating_pair, switch_lines, unit_lines}
use Rattle.flat_model.specs.Want.{fits, fits_with_room, is_thread, want_by, want_of, want_of_actor}
use Rattle.flat_model.proofs.AccessReplies.{IsFit, next-fit, touch-is, turn-fault}
use Rattle.flat_model.proofs.ActorLemmas.{actor-is}
use Rattle.flat_model.proofs.Granted.{IsReady-entered, granted-held}
use Rattle.flat_model.proofs.Placed.{IsPlaced-from_sound}
use Rattle.flat_model.proofs.ReadyWorlds.{IsWorldReady, ready-world}
use Rattle.flat_model.proofs.StepCases.{step-fits}
use Rattle.flat_model.proofs.TraceLemmas.{events_of-event}

-- whether the unit grants an access of the actor, once it switched and rotated
abbrev pub granted_by_unit : Config → Flat → UnitState → Actor → Access → Bool
granted_by_unit cfg f u a access =
    is_granted (decision (accessed (plan_of cfg f.shared.owners a.program.home.0 a.part) (entered cfg a.part u a.program.home) (Some access)).pairs
    access.at access.kind)

-- the unit grants it exactly where the actor's box holds the bytes
pub granted-holds : (cfg : Config) (f : Flat) (u : UnitState) (t : ℕ) (a : Actor) (access : Access) → IsSound cfg → IsWorldReady cfg f u →
    IsActor cfg f t a → IsFit (next.Access access) →
    granted_by_unit cfg f u a access ≡ holds cfg f.shared.owners a.program.home.0 access.at access.size access.kind
granted-holds cfg f u t a access sound ready it fit =
    let b : ℕ = a.program.home.0 in
    granted-held cfg f.shared.owners b a.part (entered cfg a.part u a.program.home) access (IsPlaced-from_sound cfg sound b a.part it.part) ready.owners it.part
    (IsReady-entered cfg f.shared.owners a.program.home a.part u it.part ready.unit) fit.0 (eqb-true (access.at % access.size) 0 fit.1)

-- which the actor's own part says as well
pub granted-held-by : (cfg : Config) (f : Flat) (u : UnitState) (t : ℕ) (a : Actor) (access : Access) → IsSound cfg → IsWorldReady cfg f u →
    IsActor cfg f t a → IsFit (next.Access access) →
    granted_by_unit cfg f u a access ≡ holds_access cfg.board a.program.home.0 a.part f.shared.owners access
granted-held-by cfg f u t a access sound ready it fit =
    let b : ℕ = a.program.home.0 in
    granted-holds cfg f u t a access sound ready it fit
    ∙ ap (λ (p : Option BoxPart). may_access (owned_by b) (option_map_or (λ (part : BoxPart). part.items) p []) cfg.board.heap f.shared.owners access.at access.size access.kind) it.part

-- an access that a choice decides faults exactly where its actor's box does not hold it
record Touches (cfg : Config) (f : Flat) (c : Choice) (a : Actor) (access : Access) : Type 0 where
  fit : IsFit (next.Access access)
  fault : is_fault (reply_to cfg f c) ≡ not (holds_access cfg.board a.program.home.0 a.part f.shared.owners access)

touch-turn : (cfg : Config) (f : Flat) (t : ThreadId) → touch_of cfg f (choice.Turn t true) ≡ touch_by f t.0 (actor_of cfg f t.0)
unfolding touch_of
touch-turn cfg f t = refl

no_touch-full : (cfg : Config) (f : Flat) (t : ThreadId) → touch_of cfg f (choice.Turn t false) ≡ None
unfolding touch_of
no_touch-full cfg f t = refl

no_touch-start : (cfg : Config) (f : Flat) (t : ThreadId) (ticket : Ticket) → touch_of cfg f (choice.Start t ticket) ≡ None
unfolding touch_of
no_touch-start cfg f t ticket = refl

no_touch-idle : (cfg : Config) (f : Flat) (t : ThreadId) → touch_of cfg f (choice.Idle t) ≡ None
unfolding touch_of
no_touch-idle cfg f t = refl

no_touch-ring : (cfg : Config) (f : Flat) (l : Line) (by : ℕ) → touch_of cfg f (choice.Ring l by) ≡ None
unfolding touch_of
no_touch-ring cfg f l by = refl

touches-turn : (cfg : Config) (f : Flat) (t : ThreadId) (a : Actor) (access : Access) →
    actor_of cfg f t.0 ≡ Some a → touch_of cfg f (choice.Turn t true) ≡ Some access → Touches cfg f (choice.Turn t true) a access
touches-turn cfg f t a access acting touch =
    let it = actor-is cfg f t.0 a acting in
    let comes : next_of_actor f.shared.lines a t.0 ≡ next.Access access =
    touch-is (next_of_actor f.shared.lines a t.0) access (sym (touch-turn cfg f t ∙ ap (touch_by f t.0) acting) ∙ touch) in
    let plain : want_of cfg f t.0 ≡ want.Plain =
    ap (want_of_actor cfg f.shared t) acting ∙ ap (want_by cfg (who_acts a t true) a.part f.shared) comes in
    let within : t.0 < length cfg.threads = slice_get_within cfg.threads t.0 a.program it.program in
    let fit : fits cfg f (choice.Turn t true) ≡ true =
    ap (λ w. is_thread cfg t && fits_with_room w) plain ∙ and_from (is_thread cfg t) true (grind (arith, nat_tests)) refl in
    let turned : step cfg f (choice.Turn t true) ≡ turn_of cfg f t true a (next.Access access) =
    step-fits cfg f (choice.Turn t true) fit
    ∙ ap (turn_by cfg f t true) acting
    ∙ ap (turn_of cfg f t true a) comes in
    record {
      fit = subst IsFit comes (next-fit a.program a.thread (due_interrupt f.shared.lines a.part a.program.home.0 t.0));
      fault = ap (λ (p : Flat × Reply). is_fault p.1) turned
          ∙ turn-fault cfg (who_acts a t true) a.part a.program.steps f.shared a.thread
          (holds_access cfg.board a.program.home.0 a.part f.shared.owners access) access;
    }

-- the thread that acts at a choice
record ActsAs (cfg : Config) (f : Flat) (a : Actor) : Type 0 where
  thread : ℕ
  is : IsActor cfg f thread a

acts_as : (cfg : Config) (f : Flat) (c : Choice) (a : Actor) → actor_at cfg f c ≡ Some a → ActsAs cfg f a
acts_as cfg f (choice.Turn t room) a acting = record { thread = t.0; is = actor-is cfg f t.0 a acting }
acts_as cfg f (choice.Start t ticket) a acting = record { thread = t.0; is = actor-is cfg f t.0 a acting }
acts_as cfg f (choice.Idle t) a acting = record { thread = t.0; is = actor-is cfg f t.0 a acting }
acts_as cfg f (choice.Ring l by) a acting = absurd (let e : None ≡ Some a = acting in cc)

touches : (cfg : Config) (f : Flat) (c : Choice) (a : Actor) (access : Access) →
    actor_at cfg f c ≡ Some a → touch_of cfg f c ≡ Some access → Touches cfg f c a access
touches cfg f (choice.Turn t true) a access acting touch = touches-turn cfg f t a access acting touch
touches cfg f (choice.Turn t false) a access acting touch = absurd (let e : None ≡ Some access = sym (no_touch-full cfg f t) ∙ touch in cc)
touches cfg f (choice.Start t ticket) a access acting touch = absurd (let e : None ≡ Some access = sym (no_touch-start cfg f t ticket) ∙ touch in cc)
touches cfg f (choice.Idle t) a access acting touch = absurd (let e : None ≡ Some access = sym (no_touch-idle cfg f t) ∙ touch in cc)
touches cfg f (choice.Ring l by) a access acting touch = absurd (let e : None ≡ Some access = sym (no_touch-ring cfg f l by) ∙ touch in cc)

-- the unit grants the access of a choice exactly where the acting box holds the bytes
pub granted-at : (cfg : Config) (f : Flat) (u : UnitState) (c : Choice) (a : Actor) (access : Access) → IsSound cfg → IsWorldReady cfg f u →
    actor_at cfg f c ≡ Some a → touch_of cfg f c ≡ Some access →
    granted_by_unit cfg f u a access ≡ holds cfg f.shared.owners a.program.home.0 access.at access.size access.kind
granted-at cfg f u c a access sound ready acting touch =
    let it = touches cfg f c a access acting touch in
    let who = acts_as cfg f c a acting in
    granted-holds cfg f u who.thread a access sound ready who.is it.fit

switch-agrees : (r : Reply) (u : UnitState) (b : BoxId) → list_all (agrees_with r) (switch_lines u b) ≡ true
switch-agrees r u b = by_last (is_last u.last b.0)
  where
    by_last : (l : Bool) → list_all (agrees_with r) (cond {A = List UnitLine} l [] (line.Switch b ∷ [])) ≡ true
    by_last true = refl
    by_last false = refl

rotate-agrees : (r : Reply) (u : UnitState) (pair : Option Pair) → list_all (agrees_with r) (rotate_lines u pair) ≡ true
rotate-agrees r u None = refl
rotate-agrees r u (Some pair) = refl

flush-agrees : (r : Reply) (empties : Bool) → list_all (agrees_with r) (flush_lines empties) ≡ true
flush-agrees r true = refl
flush-agrees r false = refl

line-agrees : (fault granted may : Bool) → fault ≡ not may → granted ≡ may → cond fault (not granted) granted ≡ true
line-agrees fault granted true faults grants = rw (faults, grants) refl
line-agrees fault granted false faults grants = rw (faults, grants) refl

access-agrees : (cfg : Config) (f : Flat) (u : UnitState) (c : Choice) (a : Actor) (o : Option Access) →
    IsSound cfg → IsWorldReady cfg f u → actor_at cfg f c ≡ Some a → touch_of cfg f c ≡ o →
    list_all (agrees_with (reply_to cfg f c))
    (access_lines (plan_of cfg f.shared.owners a.program.home.0 a.part) (entered cfg a.part u a.program.home) o) ≡ true
access-agrees cfg f u c a None sound ready acting touch = refl
access-agrees cfg f u c a (Some access) sound ready acting touch =
    let plan : List Pair = plan_of cfg f.shared.owners a.program.home.0 a.part in
    let v : UnitState = entered cfg a.part u a.program.home in
    let r : Reply = reply_to cfg f c in
    let it = touches cfg f c a access acting touch in
    let who = acts_as cfg f c a acting in
    let granted = granted-held-by cfg f u who.thread a access sound ready who.is it.fit in
    list_all-append (agrees_with r) (rotate_lines v (rotating_pair plan v access)) (access_line (rotated v (rotating_pair plan v access)) access ∷ [])
    ∙ and_from (list_all (agrees_with r) (rotate_lines v (rotating_pair plan v access)))
    (list_all (agrees_with r) (access_line (rotated v (rotating_pair plan v access)) access ∷ []))
    (rotate-agrees r v (rotating_pair plan v access))
    (and_from (agrees_with r (access_line (rotated v (rotating_pair plan v access)) access)) true
    (line-agrees (is_fault r)
    (is_granted (decision (rotated v (rotating_pair plan v access)).pairs access.at access.kind))
    (holds_access cfg.board a.program.home.0 a.part f.shared.owners access) it.fault granted) refl)

-- the lines of an event agree with its reply
pub lines-agree : (cfg : Config) (f : Flat) (u : UnitState) (c : Choice) → IsSound cfg → IsWorldReady cfg f u →
    list_all (agrees_with (reply_to cfg f c)) (unit_lines cfg f u c) ≡ true
unfolding unit_lines
lines-agree cfg f u c sound ready = by_actor (actor_at cfg f c) refl
  where
    by_actor : (a : Option Actor) → actor_at cfg f c ≡ a →
        list_all (agrees_with (reply_to cfg f c)) (lines_of_actor cfg f u c a) ≡ true
    by_actor None none = refl
    by_actor (Some a) acting =
        let r : Reply = reply_to cfg f c in
        let first : List UnitLine = switch_lines u a.program.home in
        let second : List UnitLine =
        access_lines (plan_of cfg f.shared.owners a.program.home.0 a.part) (entered cfg a.part u a.program.home) (touch_of cfg f c) in
        let third : List UnitLine = flush_lines (empties_slots cfg f c) in
        list_all-append (agrees_with r) (first ++ second) third
        ∙ and_from (list_all (agrees_with r) (first ++ second)) (list_all (agrees_with r) third)
        (list_all-append (agrees_with r) first second
        ∙ and_from (list_all (agrees_with r) first) (list_all (agrees_with r) second) (switch-agrees r u a.program.home)
        (access-agrees cfg f u c a (touch_of cfg f c) sound ready acting refl))
        (flush-agrees r (empties_slots cfg f c))

-- The unit grants an access exactly where the flat machine does not answer a fault, in every trace of choices.
pub trace-agrees : (cfg : Config) (w : World) (cs : List Choice) → IsSound cfg → IsWorldReady cfg w.flat w.unit →
    list_all is_agreed (events_of (trace_of cfg w cs)) ≡ true
trace-agrees cfg w [] sound ready = refl
trace-agrees cfg w (c ∷ cs) sound ready =
    ap (list_all is_agreed) (events_of-event cfg w c (trace_of cfg (world_after cfg w c) cs))
    ∙ and_from (list_all (agrees_with (reply_to cfg w.flat c)) (unit_lines cfg w.flat w.unit c))
    (list_all is_agreed (events_of (trace_of cfg (world_after cfg w c) cs)))
    (lines-agree cfg w.flat w.unit c sound ready)
    (trace-agrees cfg (world_after cfg w c) cs sound (ready-world cfg w c ready))
