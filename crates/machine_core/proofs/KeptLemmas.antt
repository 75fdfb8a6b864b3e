-- What an event leaves of what a state keeps, and how many items it has.
use Rattle.std.proofs.Common.{◌≡◌, ℕ, ◌+◌, ◌-◌, ◌<◌, ◌≤◌, Bool, true, false, ◌&&◌, not, cond, Option, Some, None, List, [], ◌∷◌, ◌++◌, map, refl, sym, ap, ◌∙◌, subst, length, arith}
use Rattle.std.specs.List.{slice_set}
use Rattle.std.specs.Option.{option_map_or}
use Rattle.std.proofs.lemmas.List.{length-append, length-map}
use Rattle.std.proofs.lemmas.Option.{slice_get_within}
use Rattle.addr_base.specs.declared.identity.BoxId.{BoxId}
use Rattle.addr_base.specs.declared.identity.Line.{Line}
use Rattle.addr_base.specs.declared.identity.ThreadId.{ThreadId}
use Rattle.addr_base.specs.declared.pairs.Pair.{Pair}
use Rattle.flat_model.specs.declared.events.Choice.{Choice}
use Rattle.flat_model.specs.declared.events.Choice.TheVariants as choice
use Rattle.flat_model.specs.declared.events.Logged.TheVariants as item
use Rattle.flat_model.specs.declared.events.Reply.{Reply}
use Rattle.flat_model.specs.declared.events.Reply.TheVariants as reply
use Rattle.flat_model.specs.declared.events.UnitLine.{UnitLine}
use Rattle.flat_model.specs.declared.next.Next.{Next}
use Rattle.flat_model.specs.declared.parts.BoxPart.{BoxPart}
use Rattle.flat_model.specs.declared.parts.Config.{Config}
use Rattle.flat_model.specs.declared.parts.ThreadPart.{ThreadPart}
use Rattle.flat_model.specs.declared.states.Flat.{Flat}
use Rattle.flat_model.specs.declared.states.ThreadState.{ThreadState}
use Rattle.flat_model.specs.Actors.{Actor, actor_of, who_acts}
use Rattle.flat_model.specs.Next.{holds_next, is_page_turn, next_of_actor, touch_in}
use Rattle.flat_model.specs.Plan.{plan_of}
use Rattle.flat_model.specs.Script.{choice_by_want, choice_of_thread}
use Rattle.flat_model.specs.Step.{empties_slots, fitting_step, is_page_turn_by, is_status, reply_to, serve_by, step, touch_by, touch_of, turn_by}
use Rattle.flat_model.specs.Stepping.{CanGoOn}
use Rattle.flat_model.specs.StepsLeft.{steps_left}
use Rattle.flat_model.specs.Thread.{has_ended}
use Rattle.flat_model.specs.Trace.{World, event_items, world_after}
use Rattle.flat_model.specs.UnitRun.{UnitState, access_lines, actor_at, entered, flush_lines, lines_of_actor, lines_of_event, switch_lines, unit_lines}
use Rattle.flat_model.specs.Want.{fits, want_of, want_of_actor}
use Rattle.flat_model.proofs.ActorLemmas.{actor-is}
use Rattle.flat_model.proofs.Budgets.{CountsOne, serve-counts, turn-counts}
use Rattle.flat_model.proofs.GoingOn.{goes-step}
use Rattle.flat_model.proofs.KeptSteps.{left-one, steps_left-set}
use Rattle.flat_model.proofs.NamedLogs.{length-state_after}
use Rattle.flat_model.proofs.StepCases.{step-fits, step-unfit}
use Rattle.machine_core.specs.declared.deeds.Deed.{Deed}
use Rattle.machine_core.specs.declared.deeds.Deed.TheVariants as deed
use Rattle.machine_core.specs.declared.deeds.Order.{Order}
use Rattle.machine_core.specs.declared.deeds.Order.TheVariants as order
use Rattle.machine_core.specs.Deeds.{choice_by, choice_by_order, deed_by_want, deed_row, idle_choice}
use Rattle.machine_core.specs.Journal.{JournalState, noted}
use Rattle.machine_core.specs.Kept.{HasCallers, IsKeptState}
use Rattle.machine_core.specs.State.{ended_in, event_room}
use Rattle.machine_core.proofs.CallerLemmas.{step-callers}
use Rattle.machine_core.proofs.EventLemmas.{choice-by, reached-after}
use Rattle.machine_core.proofs.ScriptLemmas.{script-fits}
use Rattle.machine_core.proofs.TurnLemmas.{lines-idle, step-live}
use Rattle.machine_core.proofs.UnitLemmas.{noted-append, switch-short, turn-short}

pub flat-after : (cfg : Config) (w : World) (c : Choice) → (world_after cfg w c).flat ≡ (step cfg w.flat c).0
unfolding world_after
flat-after cfg w c = refl

-- after an event the state is kept
pub kept-after : (cfg : Config) (w : World) (c : Choice) → IsKeptState cfg w → IsKeptState cfg (world_after cfg w c)
kept-after cfg w c kept = record {
  sound = kept.sound;
  reached = reached-after cfg w c kept.reached;
  going = subst (CanGoOn cfg) (sym (flat-after cfg w c)) (goes-step cfg w.flat c kept.going);
  callers = subst (λ (f : Flat). HasCallers cfg f.shared.calls) (sym (flat-after cfg w c)) (step-callers cfg w.flat c kept.callers);
  numbered = ap (λ (f : Flat). length f.threads) (flat-after cfg w c) ∙ length-state_after cfg w.flat c ∙ kept.numbered;
}

-- ---- an event of nobody

fitting-nobody : (cfg : Config) (f : Flat) (t : ThreadId) (d : Deed) → actor_of cfg f t.0 ≡ None → fitting_step cfg f (choice_by t d) ≡ (f, reply.Ended)
fitting-nobody cfg f t (deed.Turn room) none = ap (turn_by cfg f t room) none
fitting-nobody cfg f t (deed.Serve None) none = ap (serve_by cfg f t None) none
fitting-nobody cfg f t (deed.Serve (Some ticket)) none = ap (serve_by cfg f t (Some ticket)) none

-- it changes nothing
step-by-nobody : (cfg : Config) (f : Flat) (t : ThreadId) (d : Deed) → actor_of cfg f t.0 ≡ None → step cfg f (choice_by t d) ≡ (f, reply.Ended)
step-by-nobody cfg f t d none = by_fit (fits cfg f (choice_by t d)) refl
  where
    by_fit : (b : Bool) → fits cfg f (choice_by t d) ≡ b → step cfg f (choice_by t d) ≡ (f, reply.Ended)
    by_fit true fit = step-fits cfg f (choice_by t d) fit ∙ fitting-nobody cfg f t d none
    by_fit false fit = step-unfit cfg f (choice_by t d) fit

pub step-nobody : (cfg : Config) (f : Flat) (t : ThreadId) (o : Order) → actor_of cfg f t.0 ≡ None → step cfg f (idle_choice t o) ≡ (f, reply.Ended)
step-nobody cfg f t order.Word none = step-by-nobody cfg f t (deed.Turn true) none
step-nobody cfg f t (order.Given d) none = step-by-nobody cfg f t d none

-- the unit does nothing then
actor-nobody : (cfg : Config) (f : Flat) (t : ThreadId) (d : Deed) → actor_of cfg f t.0 ≡ None → actor_at cfg f (choice_by t d) ≡ None
actor-nobody cfg f t (deed.Turn room) none = none
actor-nobody cfg f t (deed.Serve None) none = none
actor-nobody cfg f t (deed.Serve (Some ticket)) none = none

pub at-nobody : (cfg : Config) (f : Flat) (t : ThreadId) (o : Order) → actor_of cfg f t.0 ≡ None → actor_at cfg f (idle_choice t o) ≡ None
at-nobody cfg f t order.Word none = none
at-nobody cfg f t (order.Given d) none = actor-nobody cfg f t d none

-- an order for a thread that nobody is
pub choice-nobody : (cfg : Config) (f : Flat) (t : ThreadId) (o : Order) → actor_of cfg f t.0 ≡ None → choice_by_order cfg f t o ≡ idle_choice t o
choice-nobody cfg f t order.Word none = ap (λ a. choice_by_want cfg f t (want_of_actor cfg f.shared t a)) none
choice-nobody cfg f t (order.Given d) none = refl

-- ---- an event of an actor

module _ (cfg : Config) (f : Flat) (t : ThreadId) (a : Actor) (acting : actor_of cfg f t.0 ≡ Some a) where
  -- what the script's word has it do
  pub chosen-live : choice_by t (deed_by_want cfg f.shared a.program.home.0 (want_of cfg f t.0)) ≡ choice_of_thread cfg f t
  chosen-live =
      choice-by cfg f t a.program.home
      (ap (λ o. option_map_or (λ (p : ThreadPart). p.home) o (record { 0 = 0 })) (actor-is cfg f t.0 a acting).program) (want_of cfg f t.0)

  pub fits-live : HasCallers cfg f.shared.calls → fits cfg f (choice_by t (deed_by_want cfg f.shared a.program.home.0 (want_of cfg f t.0))) ≡ true
  fits-live has = ap (fits cfg f) chosen-live ∙ script-fits cfg f t (slice_get_within cfg.threads t.0 a.program (actor-is cfg f t.0 a acting).program) has

deed-counts : (cfg : Config) (a : Actor) (t : ThreadId) (f : Flat) (granted : Bool) (n : Next) (d : Deed) →
    CountsOne a.thread (deed_row cfg (who_acts a t true) a.part a.program.steps f.shared a.thread granted n d).thread
deed-counts cfg a t f granted n (deed.Turn room) = turn-counts cfg (who_acts a t room) a.part a.program.steps f.shared a.thread granted n
deed-counts cfg a t f granted n (deed.Serve ticket) = serve-counts cfg a.program.home.0 a.program.steps f.shared a.thread ticket

-- an actor's event takes one of the steps that are left
pub left-live : (cfg : Config) (w : World) (t : ThreadId) → IsKeptState cfg w → (a : Actor) → actor_of cfg w.flat t.0 ≡ Some a →
    (d : Deed) → fits cfg w.flat (choice_by t d) ≡ true →
    steps_left cfg.threads (world_after cfg w (choice_by t d)).flat.threads + 1 ≤ steps_left cfg.threads w.flat.threads
left-live cfg w t kept a acting d fit =
    let it = actor-is cfg w.flat t.0 a acting in
    let n = next_of_actor w.flat.shared.lines a t.0 in
    let granted = holds_next cfg.board a.program.home.0 a.part w.flat.shared.owners n in
    let v : ThreadState = (deed_row cfg (who_acts a t true) a.part a.program.steps w.flat.shared a.thread granted n d).thread in
    let one = deed-counts cfg a t w.flat granted n d in
    let below = (kept.going.budgets t.0 a.program a.thread it.program it.thread it.live).steps in
    let less = steps_left-set cfg.threads w.flat.threads t.0 a.program a.thread v 1 it.program it.thread (left-one a.program a.thread v one it.live below) in
    let stepped : (world_after cfg w (choice_by t d)).flat.threads ≡ slice_set w.flat.threads t.0 v =
    ap (λ (g : Flat). g.threads) (flat-after cfg w (choice_by t d))
    ∙ ap (λ (p : Flat × Reply). p.0.threads) (step-live cfg w.flat t a acting d fit) in
    subst (λ threads. steps_left cfg.threads threads + 1 ≤ steps_left cfg.threads w.flat.threads) (sym stepped) less

-- what an actor does by a script's word
pub left-script : (cfg : Config) (w : World) (t : ThreadId) → IsKeptState cfg w → (a : Actor) → actor_of cfg w.flat t.0 ≡ Some a →
    steps_left cfg.threads (world_after cfg w (choice_of_thread cfg w.flat t)).flat.threads + 1 ≤ steps_left cfg.threads w.flat.threads
left-script cfg w t kept a acting =
    subst (λ c. steps_left cfg.threads (world_after cfg w c).flat.threads + 1 ≤ steps_left cfg.threads w.flat.threads)
    (chosen-live cfg w.flat t a acting)
    (left-live cfg w t kept a acting (deed_by_want cfg w.flat.shared a.program.home.0 (want_of cfg w.flat t.0)) (fits-live cfg w.flat t a acting kept.callers))

-- an event of nobody leaves as many
pub left-nobody : (cfg : Config) (w : World) (t : ThreadId) → actor_of cfg w.flat t.0 ≡ None →
    steps_left cfg.threads (world_after cfg w (choice_of_thread cfg w.flat t)).flat.threads ≡ steps_left cfg.threads w.flat.threads
left-nobody cfg w t none =
    ap (λ (g : Flat). steps_left cfg.threads g.threads) (flat-after cfg w (choice_of_thread cfg w.flat t))
    ∙ ap (λ c. steps_left cfg.threads (step cfg w.flat c).0.threads) (choice-nobody cfg w.flat t order.Word none)
    ∙ ap (λ (p : Flat × Reply). steps_left cfg.threads p.0.threads) (step-nobody cfg w.flat t order.Word none)

-- and so does a ring
pub left-ring : (cfg : Config) (w : World) (line : Line) (by : ℕ) →
    steps_left cfg.threads (world_after cfg w (choice.Ring line by)).flat.threads ≡ steps_left cfg.threads w.flat.threads
left-ring cfg w line by =
    ap (λ (g : Flat). steps_left cfg.threads g.threads) (flat-after cfg w (choice.Ring line by)) ∙ by_fit (fits cfg w.flat (choice.Ring line by)) refl
  where
    by_fit : (b : Bool) → fits cfg w.flat (choice.Ring line by) ≡ b →
        steps_left cfg.threads (step cfg w.flat (choice.Ring line by)).0.threads ≡ steps_left cfg.threads w.flat.threads
    by_fit true fit = ap (λ (p : Flat × Reply). steps_left cfg.threads p.0.threads) (step-fits cfg w.flat (choice.Ring line by) fit)
    by_fit false fit = ap (λ (p : Flat × Reply). steps_left cfg.threads p.0.threads) (step-unfit cfg w.flat (choice.Ring line by) fit)

-- ---- how many items an event has

some-room : (w : World) (t : ℕ) → 1 ≤ event_room w t
some-room w t = by_end (ended_in w t)
  where
    by_end : (b : Bool) → 1 ≤ cond b 1 4
    by_end true = omega arith
    by_end false = omega arith

live-room : (cfg : Config) (w : World) (t : ℕ) (a : Actor) → actor_of cfg w.flat t ≡ Some a → event_room w t ≡ 4
live-room cfg w t a acting =
    let it = actor-is cfg w.flat t a acting in
    ap (λ o. cond (option_map_or has_ended o true) 1 4) it.thread ∙ ap (λ b. cond b 1 4) it.live

-- an event is its unit's lines and one entry
pub event-length : (cfg : Config) (w : World) (c : Choice) → length (event_items cfg w c) ≡ length (unit_lines cfg w.flat w.unit c) + 1
unfolding event_items
event-length cfg w c =
    length-append (map item.Unit (unit_lines cfg w.flat w.unit c)) (item.Core (record { choice = c; reply = reply_to cfg w.flat c }) ∷ [])
    ∙ ap (λ n. n + 1) (length-map (unit_lines cfg w.flat w.unit c) (λ (l : UnitLine). item.Unit l))

-- a ring has one
pub ring-length : (cfg : Config) (w : World) (line : Line) (by : ℕ) → length (event_items cfg w (choice.Ring line by)) ≡ 1
ring-length cfg w line by =
    let none = ap (λ (ls : List UnitLine). length ls) (lines-idle cfg w.flat w.unit (choice.Ring line by) refl) in
    omega (arith, event-length cfg w (choice.Ring line by), none)

lines-length : (cfg : Config) (b : BoxId) (part : BoxPart) (plan : List Pair) (u : UnitState) (n : Next) (more : Bool) →
    length (lines_of_event cfg b part plan u (touch_in n) (is_page_turn n && more)) ≤ 3
lines-length cfg b part plan u n more =
    let first = switch-short u b in
    let second = turn-short plan (entered cfg part u b) n more in
    rw (
      length-append (switch_lines u b ++ access_lines plan (entered cfg part u b) (touch_in n)) (flush_lines (is_page_turn n && more)),
      length-append (switch_lines u b) (access_lines plan (entered cfg part u b) (touch_in n)),
    ) (omega arith)

-- a switch alone
switch-length : (cfg : Config) (b : BoxId) (part : BoxPart) (plan : List Pair) (u : UnitState) → length (lines_of_event cfg b part plan u None false) ≤ 3
switch-length cfg b part plan u =
    let first = switch-short u b in
    rw (
      length-append (switch_lines u b ++ access_lines plan (entered cfg part u b) None) (flush_lines false),
      length-append (switch_lines u b) (access_lines plan (entered cfg part u b) None),
    ) (omega arith)

-- an actor's event has at most three of the unit's lines
lines-few : (cfg : Config) (w : World) (t : ThreadId) (a : Actor) → actor_of cfg w.flat t.0 ≡ Some a → (d : Deed) →
    length (unit_lines cfg w.flat w.unit (choice_by t d)) ≤ 3
unfolding unit_lines touch_of empties_slots
lines-few cfg w t a acting (deed.Turn true) =
    let n = next_of_actor w.flat.shared.lines a t.0 in
    let plan = plan_of cfg w.flat.shared.owners a.program.home.0 a.part in
    let more = not (is_status (reply_to cfg w.flat (choice.Turn t true))) in
    let same = ap (λ (o : Option Actor). length (lines_of_actor cfg w.flat w.unit (choice.Turn t true) o)) acting
    ∙ ap (λ (o : Option Actor). length (lines_of_event cfg a.program.home a.part plan w.unit (touch_by w.flat t.0 o) (is_page_turn_by w.flat t.0 o && more))) acting in
    subst (λ k. k ≤ 3) (sym same) (lines-length cfg a.program.home a.part plan w.unit n more)
lines-few cfg w t a acting (deed.Turn false) =
    subst (λ k. k ≤ 3) (sym (ap (λ (o : Option Actor). length (lines_of_actor cfg w.flat w.unit (choice.Turn t false) o)) acting))
    (switch-length cfg a.program.home a.part (plan_of cfg w.flat.shared.owners a.program.home.0 a.part) w.unit)
lines-few cfg w t a acting (deed.Serve None) =
    subst (λ k. k ≤ 3) (sym (ap (λ (o : Option Actor). length (lines_of_actor cfg w.flat w.unit (choice.Idle t) o)) acting))
    (switch-length cfg a.program.home a.part (plan_of cfg w.flat.shared.owners a.program.home.0 a.part) w.unit)
lines-few cfg w t a acting (deed.Serve (Some ticket)) =
    subst (λ k. k ≤ 3) (sym (ap (λ (o : Option Actor). length (lines_of_actor cfg w.flat w.unit (choice.Start t ticket) o)) acting))
    (switch-length cfg a.program.home a.part (plan_of cfg w.flat.shared.owners a.program.home.0 a.part) w.unit)

-- an actor's event has at most four
pub event-few : (cfg : Config) (w : World) (t : ThreadId) (a : Actor) → actor_of cfg w.flat t.0 ≡ Some a → (d : Deed) →
    length (event_items cfg w (choice_by t d)) ≤ 4
event-few cfg w t a acting d = omega (arith, event-length cfg w (choice_by t d), lines-few cfg w t a acting d)

-- what an actor does by an order has at most four
order-few : (cfg : Config) (w : World) (t : ThreadId) (a : Actor) → actor_of cfg w.flat t.0 ≡ Some a → (o : Order) →
    length (event_items cfg w (choice_by_order cfg w.flat t o)) ≤ 4
order-few cfg w t a acting order.Word =
    subst (λ c. length (event_items cfg w c) ≤ 4) (chosen-live cfg w.flat t a acting)
    (event-few cfg w t a acting (deed_by_want cfg w.flat.shared a.program.home.0 (want_of cfg w.flat t.0)))
order-few cfg w t a acting (order.Given d) = event-few cfg w t a acting d

-- an ordered event has at most so many
pub event-fits : (cfg : Config) (w : World) (t : ThreadId) (o : Order) → length (event_items cfg w (choice_by_order cfg w.flat t o)) ≤ event_room w t.0
event-fits cfg w t o = by_actor (actor_of cfg w.flat t.0) refl
  where
    by_actor : (a : Option Actor) → actor_of cfg w.flat t.0 ≡ a → length (event_items cfg w (choice_by_order cfg w.flat t o)) ≤ event_room w t.0
    by_actor None none =
        let lines = ap (λ c. length (unit_lines cfg w.flat w.unit c)) (choice-nobody cfg w.flat t o none)
        ∙ ap (λ (ls : List UnitLine). length ls) (lines-idle cfg w.flat w.unit (idle_choice t o) (at-nobody cfg w.flat t o none)) in
        omega (arith, event-length cfg w (choice_by_order cfg w.flat t o), lines, some-room w t.0)
    by_actor (Some a) acting = omega (arith, order-few cfg w t a acting o, live-room cfg w t.0 a acting)

-- there is room for the entry behind the unit's lines
pub room-for_entry : (cfg : Config) (w : World) (c : Choice) (j j1 : JournalState) →
    j1 ≡ noted j (map item.Unit (unit_lines cfg w.flat w.unit c)) → {room : ℕ} → length (event_items cfg w c) ≤ room → room ≤ j.room → 0 < j1.room
room-for_entry cfg w c j j1 is few enough =
    let r1 : j1.room ≡ j.room - length (map item.Unit (unit_lines cfg w.flat w.unit c)) = ap (λ (x : JournalState). x.room) is in
    let l1 = length-map (unit_lines cfg w.flat w.unit c) (λ (l : UnitLine). item.Unit l) in
    omega (arith, event-length cfg w c, r1, l1, few, enough)

-- the unit's lines and then the entry are the event
pub event-noted : (cfg : Config) (w : World) (c : Choice) (j : JournalState) (r : Reply) → r ≡ reply_to cfg w.flat c →
    noted (noted j (map item.Unit (unit_lines cfg w.flat w.unit c))) (item.Core (record { choice = c; reply = r }) ∷ []) ≡ noted j (event_items cfg w c)
unfolding event_items
event-noted cfg w c j r is =
    noted-append j (map item.Unit (unit_lines cfg w.flat w.unit c)) (item.Core (record { choice = c; reply = r }) ∷ [])
    ∙ ap (λ (s : Reply). noted j (map item.Unit (unit_lines cfg w.flat w.unit c) ++ item.Core (record { choice = c; reply = s }) ∷ [])) is
