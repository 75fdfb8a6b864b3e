-- What a machine keeps at its start and at each step, and what its log then is.
use Rattle.std.proofs.Common.{◌≡◌, ℕ, zero, suc, ◌+◌, ◌-◌, ◌*◌, ◌<◌, ◌≤◌, Bool, true, false, cond, Option, Some, None, List, [], ◌∷◌, ◌++◌, map, replicate, refl, sym, ap, ◌∙◌, subst, length, arith, sum_by, append-nil}
use Rattle.std.specs.Prelude.{nat_le}
use Rattle.std.specs.List.{list_all, slice_get}
use Rattle.std.specs.Option.{option_map_or}
use Rattle.std.proofs.lemmas.Bool.{and_from}
use Rattle.std.proofs.lemmas.List.{length-replicate}
use Rattle.std.proofs.lemmas.List.Sums.{sum_by-cons}
use Rattle.addr_base.specs.declared.identity.BoxId.{BoxId}
use Rattle.addr_base.specs.declared.identity.Line.{Line}
use Rattle.addr_base.specs.declared.identity.ThreadId.{ThreadId}
use Rattle.flat_model.specs.declared.events.Choice.{Choice}
use Rattle.flat_model.specs.declared.events.Choice.TheVariants as choice
use Rattle.flat_model.specs.declared.events.Drive.{Drive}
use Rattle.flat_model.specs.declared.events.Drive.TheVariants.{Script, Threads}
use Rattle.flat_model.specs.declared.events.Logged.{Logged}
use Rattle.flat_model.specs.declared.parts.Config.{Config}
use Rattle.flat_model.specs.declared.parts.ThreadPart.{ThreadPart}
use Rattle.flat_model.specs.declared.states.Flat.{Flat}
use Rattle.flat_model.specs.declared.states.ThreadState.{ThreadState}
use Rattle.flat_model.specs.Actors.{Actor, actor_in, actor_of, live_actor}
use Rattle.flat_model.specs.Calls.{posted_count}
use Rattle.flat_model.specs.Kernel.{KernelState}
use Rattle.flat_model.specs.Legal.{IsFlatRun, IsLegal, IsUnitRun, all_fit, is_agreed}
use Rattle.flat_model.specs.Log.{Event, choices_of, ends_with_entry, events_of, replies_of}
use Rattle.flat_model.specs.OneLog.{entries_of_run, log_of_choices, woven_items}
use Rattle.flat_model.specs.Run.{ends_of, opening_state, state_after_all}
use Rattle.flat_model.specs.Script.{choice_of_thread}
use Rattle.flat_model.specs.Sound.{IsSound}
use Rattle.flat_model.specs.StepsLeft.{steps_left}
use Rattle.flat_model.specs.Thread.{has_ended}
use Rattle.flat_model.specs.ThreadEvents.{opening_thread}
use Rattle.flat_model.specs.Trace.{World, event_items, opening_world, trace_of, world_after, world_after_all, world_reached}
use Rattle.flat_model.specs.UnitRun.{UnitState, lines_of_run, opening_unit}
use Rattle.flat_model.specs.Want.{fits, inbox_slots, is_owned_line, other_callers, want_of}
use Rattle.flat_model.proofs.ActorLemmas.{actor-there}
use Rattle.flat_model.proofs.Agreement.{trace-agrees}
use Rattle.flat_model.proofs.Elements.{slice_get_some}
use Rattle.flat_model.proofs.GoingOn.{goes-opening}
use Rattle.flat_model.proofs.KeptSteps.{home-there}
use Rattle.flat_model.proofs.ReadyWorlds.{IsWorldReady-opening}
use Rattle.flat_model.proofs.TraceLemmas.{all_fit-append, choices_of-append, choices_of-event, ends_with_entry-trace, flat_after_all, lines_of-trace, replies_of-trace, trace_of-append, trace_of-woven, world_after_all-append}
use Rattle.machine_core.specs.declared.deeds.Deed.{Deed}
use Rattle.machine_core.specs.declared.deeds.Order.TheVariants as order
use Rattle.machine_core.specs.Deeds.{choice_by}
use Rattle.machine_core.specs.Journal.{JournalState, noted}
use Rattle.machine_core.specs.Kept.{CountsRings, HasCallers, IsKept, IsKeptState, events_left, rings_left}
use Rattle.machine_core.specs.Rings.{rings_by}
use Rattle.machine_core.specs.State.{MachineState, after_choice, ended_in, event_room, state_of, world_with}
use Rattle.machine_core.specs.Turns.{log_now, may_be_full}
use Rattle.machine_core.specs.View.{MachineView, after_event, events_beside, rung, stepped, world_of}
use Rattle.machine_core.proofs.KeptLemmas.{event-few, event-fits, kept-after, left-live, left-nobody, left-ring, left-script, ring-length}
use Rattle.machine_core.proofs.ScriptLemmas.{script-fits}

-- ---- the start

threads-opening : (cfg : Config) → (opening_state cfg).threads ≡ replicate (length cfg.threads) opening_thread
unfolding opening_state
threads-opening cfg = refl

calls-opening : (cfg : Config) → (opening_state cfg).shared.calls ≡ []
unfolding opening_state
calls-opening cfg = refl

-- the world at the start is kept
pub kept-opening : (cfg : Config) → IsSound cfg → IsKeptState cfg (opening_world cfg)
kept-opening cfg sound = record {
  sound = sound;
  reached = record { choices = []; reached = refl };
  going = goes-opening cfg sound;
  callers = subst (HasCallers cfg) (sym (calls-opening cfg)) tt;
  numbered = ap length (threads-opening cfg) ∙ length-replicate (length cfg.threads) opening_thread;
}

-- the world at the start, from the kernel, the threads and the unit
pub opening-is : (cfg : Config) (k : KernelState) (threads : List ThreadState) (u : UnitState) →
    k ≡ record { config = cfg; shared = (opening_state cfg).shared } → threads ≡ (opening_state cfg).threads → u ≡ opening_unit cfg →
    world_with k threads u ≡ opening_world cfg
opening-is cfg k threads u kernel all unit =
    ap (λ (x : KernelState). world_with x threads u) kernel
    ∙ ap (λ ths. world_with (record { config = cfg; shared = (opening_state cfg).shared }) ths u) all
    ∙ ap (world_with (record { config = cfg; shared = (opening_state cfg).shared }) (opening_state cfg).threads) unit

-- a machine keeps its empty log at the start
pub kept-boot : (cfg : Config) (beside : ℕ) (j : JournalState) (s : MachineState) (room : ℕ) → IsSound cfg →
    s ≡ state_of cfg (opening_world cfg) → j ≡ record { items = []; room = room } →
    4 * sum_by (λ (thread : ThreadPart). thread.steps) cfg.threads + beside ≤ room →
    IsKept cfg beside j s.world
kept-boot cfg beside j s room sound state journal enough =
    subst (λ (v : MachineState). IsKept cfg beside j v.world) (sym state)
    (subst (λ (x : JournalState). IsKept cfg beside x (opening_world cfg)) (sym journal) (record {
      state = kept-opening cfg sound;
      traced = refl;
      world = refl;
      fitting = refl;
      room =
          let left = (goes-opening cfg sound).room in
          omega (arith, left, enough);
    }))

-- no device has made a ring at the start
rings-opening : (extra n : ℕ) → rings_left extra (replicate n 0) ≡ extra * n
rings-opening extra zero = omega arith
rings-opening extra (suc n) =
    sum_by-cons (λ (made : ℕ). extra - made) 0 (replicate n 0) ∙ ap (λ k. (extra - 0) + k) (rings-opening extra n) ∙ grind arith

pub left-opening : (cfg : Config) (drive : Drive) (extra : ℕ) (rings : List ℕ) → rings ≡ replicate (length cfg.devices) 0 →
    events_left drive extra rings ≡ events_beside cfg drive extra
left-opening cfg Script extra rings none = refl
left-opening cfg Threads extra rings none = ap (rings_left extra) none ∙ rings-opening extra (length cfg.devices)

get-zero : (n k made : ℕ) → slice_get (replicate n 0) k ≡ Some made → made ≡ 0
get-zero zero k made is = absurd (let e : None ≡ Some made = is in cc)
get-zero (suc n) zero made is = let e : Some 0 ≡ Some made = is in cc
get-zero (suc n) (suc k) made is = get-zero n k made is

pub counts-opening : (cfg : Config) (drive : Drive) (items : List Logged) (rings : List ℕ) → items ≡ [] → rings ≡ replicate (length cfg.devices) 0 →
    CountsRings cfg drive items rings
counts-opening cfg drive items rings empty none = record {
  devices = ap length none ∙ length-replicate (length cfg.devices) 0;
  counted = λ threads k made is. get-zero (length cfg.devices) k made (sym (ap (λ xs. slice_get xs k) none) ∙ is) ∙ sym (ap (rings_by k) empty);
}

-- ---- the trace, with one event more

-- its choices
pub choices-more : (cfg : Config) (items : List Logged) (w : World) (c : Choice) →
    choices_of (items ++ event_items cfg w c) ≡ choices_of items ++ c ∷ []
choices-more cfg items w c =
    choices_of-append items (event_items cfg w c)
    ∙ ap (λ xs. choices_of items ++ choices_of xs) (sym (append-nil (event_items cfg w c)))
    ∙ ap (λ cs. choices_of items ++ cs) (choices_of-event cfg w c [])

traced-more : (cfg : Config) (items : List Logged) (c : Choice) →
    items ≡ trace_of cfg (opening_world cfg) (choices_of items) →
    items ++ event_items cfg (world_reached cfg items) c
    ≡ trace_of cfg (opening_world cfg) (choices_of (items ++ event_items cfg (world_reached cfg items) c))
traced-more cfg items c traced =
    let more : choices_of (items ++ event_items cfg (world_reached cfg items) c) ≡ choices_of items ++ c ∷ [] =
    choices-more cfg items (world_reached cfg items) c in
    ap (λ xs. xs ++ event_items cfg (world_reached cfg items) c) traced
    ∙ ap (λ xs. trace_of cfg (opening_world cfg) (choices_of items) ++ xs) (sym (append-nil (event_items cfg (world_reached cfg items) c)))
    ∙ sym (trace_of-append cfg (opening_world cfg) (choices_of items) (c ∷ []))
    ∙ ap (trace_of cfg (opening_world cfg)) (sym more)

-- the world that it reaches
pub reached-more : (cfg : Config) (items : List Logged) (w : World) (c : Choice) →
    world_reached cfg (items ++ event_items cfg w c) ≡ world_after cfg (world_reached cfg items) c
reached-more cfg items w c =
    ap (world_after_all cfg (opening_world cfg)) (choices-more cfg items w c)
    ∙ world_after_all-append cfg (opening_world cfg) (choices_of items) (c ∷ [])

fitting-more : (cfg : Config) (items : List Logged) (w : World) (c : Choice) →
    all_fit cfg (opening_state cfg) (choices_of items) ≡ true → fits cfg (world_reached cfg items).flat c ≡ true →
    all_fit cfg (opening_state cfg) (choices_of (items ++ event_items cfg w c)) ≡ true
fitting-more cfg items w c fitting fit =
    let reached : state_after_all cfg (opening_state cfg) (choices_of items) ≡ (world_reached cfg items).flat =
    sym (flat_after_all cfg (opening_world cfg) (choices_of items)) in
    let now : fits cfg (state_after_all cfg (opening_state cfg) (choices_of items)) c ≡ true =
    subst (λ f. fits cfg f c ≡ true) (sym reached) fit in
    subst (λ cs. all_fit cfg (opening_state cfg) cs ≡ true) (sym (choices-more cfg items w c))
    (all_fit-append cfg (opening_state cfg) (choices_of items) (c ∷ []) fitting (and_from _ _ now refl))

-- ---- a step

-- where a thread has not ended, it acts
acts-live : (cfg : Config) (w : World) (t : ThreadId) → IsKeptState cfg w → t.0 < length cfg.threads → ended_in w t.0 ≡ false →
    (a : Actor) × (actor_of cfg w.flat t.0 ≡ Some a)
acts-live cfg w t kept below live =
    let program = slice_get_some cfg.threads t.0 below in
    let th = slice_get_some w.flat.threads t.0 (omega (arith, kept.numbered, below)) in
    let part = home-there cfg t.0 program.0 kept.sound program.1 in
    let running : has_ended th.0 ≡ false = sym (ap (λ o. option_map_or has_ended o true) th.1) ∙ live in (
      record { part = part.0; program = program.0; thread = th.0 },
      actor-there cfg w.flat t true (record { home = program.0.home; thread = t; room = true }) part.0 program.0 th.0 program.1 part.1 refl th.1 running,
    )

-- where a thread has ended, nobody acts
nobody-by : (cfg : Config) (program : Option ThreadPart) (o : Option ThreadState) → option_map_or has_ended o true ≡ true → live_actor cfg program o ≡ None
nobody-by cfg None o ended = refl
nobody-by cfg (Some program) None ended = refl
nobody-by cfg (Some program) (Some th) ended = ap (λ b. cond b None (actor_in cfg program th)) ended

pub nobody-ended : (cfg : Config) (w : World) (t : ThreadId) → ended_in w t.0 ≡ true → actor_of cfg w.flat t.0 ≡ None
nobody-ended cfg w t ended = nobody-by cfg (slice_get cfg.threads t.0) (slice_get w.flat.threads t.0) ended

-- after an event that fits the machine keeps its log, where there is room for it and for those that may follow
kept-event : (cfg : Config) (extra less : ℕ) (j : JournalState) (w : World) (c : Choice) → IsKept cfg extra j w →
    fits cfg w.flat c ≡ true →
    length (event_items cfg w c) + (4 * steps_left cfg.threads (world_after cfg w c).flat.threads + less)
    ≤ 4 * steps_left cfg.threads w.flat.threads + extra →
    IsKept cfg less (noted j (event_items cfg w c)) (world_after cfg w c)
kept-event cfg extra less j w c kept fit leaves = record {
  state = kept-after cfg w c kept.state;
  traced = subst (λ v. j.items ++ event_items cfg v c
      ≡ trace_of cfg (opening_world cfg) (choices_of (j.items ++ event_items cfg v c))) (sym kept.world)
      (traced-more cfg j.items c kept.traced);
  world = ap (λ v. world_after cfg v c) kept.world ∙ sym (reached-more cfg j.items w c);
  fitting = fitting-more cfg j.items w c kept.fitting (subst (λ (v : World). fits cfg v.flat c ≡ true) kept.world fit);
  room = omega (arith, leaves, kept.room);
}

module _ (cfg : Config) (extra : ℕ) (j : JournalState) (w : World) (t : ThreadId)
    (kept : IsKept cfg extra j w) (below : t.0 < length cfg.threads)
    (paid : ended_in w t.0 ≡ true → 1 ≤ extra) where
  -- what an event leaves of the room: its items, and the events that may follow
  room-step : event_room w t.0 + (4 * steps_left cfg.threads (world_after cfg w (choice_of_thread cfg w.flat t)).flat.threads
      + cond (ended_in w t.0) (extra - 1) extra) ≤ 4 * steps_left cfg.threads w.flat.threads + extra
  room-step = by_end (ended_in w t.0) refl
    where
      by_end : (b : Bool) → ended_in w t.0 ≡ b → cond b 1 4 + (4 * steps_left cfg.threads (world_after cfg w (choice_of_thread cfg w.flat t)).flat.threads
          + cond b (extra - 1) extra) ≤ 4 * steps_left cfg.threads w.flat.threads + extra
      by_end true ended = omega (arith, left-nobody cfg w t (nobody-ended cfg w t ended), paid ended)
      by_end false live =
          let actor = acts-live cfg w t kept.state below live in
          omega (arith, left-script cfg w t kept.state actor.0 actor.1)

  -- there is room for the event
  pub has_room : event_room w t.0 ≤ j.room
  has_room = omega (arith, room-step, kept.room)

  -- after it the machine keeps its log
  pub kept-turn : IsKept cfg (cond (ended_in w t.0) (extra - 1) extra)
      (noted j (event_items cfg w (choice_of_thread cfg w.flat t))) (world_after cfg w (choice_of_thread cfg w.flat t))
  kept-turn =
      kept-event cfg extra (cond (ended_in w t.0) (extra - 1) extra) j w (choice_of_thread cfg w.flat t) kept
      (script-fits cfg w.flat t below kept.state.callers)
      (omega (arith, room-step, event-fits cfg w t order.Word))

module _ (cfg : Config) (beside : ℕ) (j : JournalState) (w : World) (line : Line) (by : ℕ)
    (kept : IsKept cfg beside j w) (owned : is_owned_line cfg line.0 ≡ true) where
  -- after a ring the machine keeps its log
  pub kept-ring : (less : ℕ) → 1 + less ≤ beside →
      IsKept cfg less (noted j (event_items cfg w (choice.Ring line by))) (world_after cfg w (choice.Ring line by))
  kept-ring less paid =
      kept-event cfg beside less j w (choice.Ring line by) kept owned
      (omega (arith, ring-length cfg w line by, left-ring cfg w line by, paid))

module _ (cfg : Config) (beside : ℕ) (j : JournalState) (w : World) (t : ThreadId) (d : Deed)
    (kept : IsKept cfg beside j w) (below : t.0 < length cfg.threads) (live : ended_in w t.0 ≡ false)
    (fit : fits cfg w.flat (choice_by t d) ≡ true) where
  left-deed : steps_left cfg.threads (world_after cfg w (choice_by t d)).flat.threads + 1 ≤ steps_left cfg.threads w.flat.threads
  left-deed = let actor = acts-live cfg w t kept.state below live in left-live cfg w t kept.state actor.0 actor.1 d fit

  few-items : length (event_items cfg w (choice_by t d)) ≤ 4
  few-items = let actor = acts-live cfg w t kept.state below live in event-few cfg w t actor.0 actor.1 d

  -- there is room for what a thread does that has not ended
  pub deed-room : event_room w t.0 ≤ j.room
  deed-room = omega (arith, ap {B = ℕ} (λ b. cond b 1 4) live, left-deed, kept.room)

  -- after it the machine keeps its log
  pub kept-deed : IsKept cfg beside (noted j (event_items cfg w (choice_by t d))) (world_after cfg w (choice_by t d))
  kept-deed = kept-event cfg beside beside j w (choice_by t d) kept fit (omega (arith, few-items, left-deed))

-- what a contract sees of a machine
abbrev seen : Config → Drive → ℕ → JournalState → MachineView
seen cfg drive extra j = record { config = cfg; drive = drive; extra = extra; items = j.items; room = j.room }

-- a choice in a state of the configuration, and in that of what its log has reached
module _ (v : MachineView) (cfg : Config) (drive : Drive) (extra beside : ℕ) (j : JournalState) (s : MachineState)
    (is : record { config = cfg; drive = drive; extra = extra; items = j.items; room = j.room } ≡ v)
    (same : s.config ≡ cfg) (kept : IsKept cfg beside j s.world) where
  module _ (less : ℕ) (j2 : JournalState) (s2 : MachineState) (c : Config → Flat → Choice)
      (journal : j2 ≡ noted j (event_items s.config s.world (c s.config s.world.flat))) (state : s2 ≡ after_choice s (c s.config s.world.flat)) where
    journal-is : j2 ≡ noted j (event_items cfg s.world (c cfg s.world.flat))
    journal-is = journal ∙ ap (λ (x : Config). noted j (event_items x s.world (c x s.world.flat))) same

    -- the state after an event is of the same configuration
    pub after-config : s2.config ≡ cfg
    after-config = ap (λ (x : MachineState). x.config) state ∙ same

    -- after an event the machine keeps its log
    pub after-kept : IsKept cfg less (noted j (event_items cfg s.world (c cfg s.world.flat))) (world_after cfg s.world (c cfg s.world.flat)) →
        IsKept cfg less j2 s2.world
    after-kept it =
        subst (λ (x : JournalState). IsKept cfg less x s2.world) (sym journal-is)
        (subst (IsKept cfg less (noted j (event_items cfg s.world (c cfg s.world.flat))))
        (sym (ap (λ (x : MachineState). x.world) state ∙ ap (λ (x : Config). world_after x s.world (c x s.world.flat)) same)) it)

    -- and is the machine after it, with this extra
    pub after-is : (more : ℕ) → record { config = cfg; drive = drive; extra = more; items = j2.items; room = j2.room }
        ≡ record (after_event v (c v.config (world_of v).flat)) { extra = more }
    after-is more =
        ap (seen cfg drive more) journal-is
        ∙ ap (λ (x : World). seen cfg drive more (noted j (event_items cfg x (c cfg x.flat)))) kept.world
        ∙ ap (λ (x : MachineView). record (after_event x (c x.config (world_of x).flat)) { extra = more }) is

module _ (v : MachineView) (cfg : Config) (drive : Drive) (extra : ℕ) (rings : List ℕ) (j : JournalState) (s : MachineState)
    (is : record { config = cfg; drive = drive; extra = extra; items = j.items; room = j.room } ≡ v)
    (script : v.drive ≡ Script) (same : s.config ≡ cfg) (kept : IsKept cfg (events_left drive extra rings) j s.world) where
  script-is : drive ≡ Script
  script-is = ap (λ (x : MachineView). x.drive) is ∙ script

  kept-script : IsKept cfg extra j s.world
  kept-script = subst (λ d. IsKept cfg (events_left d extra rings) j s.world) script-is kept

  kept-drive : (less : ℕ) (j2 : JournalState) (w2 : World) → IsKept cfg less j2 w2 → IsKept cfg (events_left drive less rings) j2 w2
  kept-drive less j2 w2 it = subst (λ d. IsKept cfg (events_left d less rings) j2 w2) (sym script-is) it

  -- nothing is counted for the script
  pub counts-script : (items : List Logged) → CountsRings cfg drive j.items rings → CountsRings cfg drive items rings
  counts-script items counts = record {
    devices = counts.devices;
    counted = λ threads k made at. absurd (let e : Script ≡ Threads = sym script-is ∙ threads in cc);
  }

  module _ (t : ThreadId) (below : t.0 < length v.config.threads) (paid : ended_in (world_of v) t.0 ≡ true → 1 ≤ v.extra) where
    there : t.0 < length cfg.threads
    there = subst (λ (x : MachineView). t.0 < length x.config.threads) (sym is) below

    pays : ended_in s.world t.0 ≡ true → 1 ≤ extra
    pays = subst (λ (x : World). ended_in x t.0 ≡ true → 1 ≤ extra) (sym kept.world)
        (subst (λ (x : MachineView). ended_in (world_of x) t.0 ≡ true → 1 ≤ x.extra) (sym is) paid)

    -- there is room for a step of the script
    pub step-room : event_room s.world t.0 ≤ j.room
    step-room = has_room cfg extra j s.world t kept-script there pays

    module _ (less : ℕ) (j2 : JournalState) (s2 : MachineState) (pay : less ≡ cond (ended_in s.world t.0) (extra - 1) extra)
        (journal : j2 ≡ noted j (event_items s.config s.world (choice_of_thread s.config s.world.flat t)))
        (state : s2 ≡ after_choice s (choice_of_thread s.config s.world.flat t)) where
      -- after it the machine keeps its log
      pub step-kept : IsKept cfg (events_left drive less rings) j2 s2.world
      step-kept =
          kept-drive less j2 s2.world
          (after-kept v cfg drive extra extra j s is same kept-script less j2 s2 (λ x f. choice_of_thread x f t) journal state
          (subst (λ n. IsKept cfg n (noted j (event_items cfg s.world (choice_of_thread cfg s.world.flat t))) (world_after cfg s.world (choice_of_thread cfg s.world.flat t))) (sym pay)
          (kept-turn cfg extra j s.world t kept-script there pays)))

      -- and is the machine after it
      pub step-is : record { config = cfg; drive = drive; extra = less; items = j2.items; room = j2.room } ≡ stepped v t
      step-is =
          after-is v cfg drive extra extra j s is same kept-script less j2 s2 (λ x f. choice_of_thread x f t) journal state less
          ∙ ap (λ n. record (after_event v (choice_of_thread v.config (world_of v).flat t)) { extra = n }) (
          pay ∙ ap (λ (x : World). cond (ended_in x t.0) (extra - 1) extra) kept.world
          ∙ ap (λ (x : MachineView). cond (ended_in (world_of x) t.0) (x.extra - 1) x.extra) is
          )

  module _ (line : Line) (owned : is_owned_line v.config line.0 ≡ true) (paid : 1 ≤ v.extra) where
    ring-paid : 1 ≤ extra
    ring-paid = subst (λ (x : MachineView). 1 ≤ x.extra) (sym is) paid

    -- there is room for a ring
    pub ring-room : 1 ≤ j.room
    ring-room = omega (arith, kept-script.room, ring-paid)

    module _ (less : ℕ) (j2 : JournalState) (s2 : MachineState) (pay : less ≡ extra - 1)
        (journal : j2 ≡ noted j (event_items s.config s.world (choice.Ring line 0))) (state : s2 ≡ after_choice s (choice.Ring line 0)) where
      -- after it the machine keeps its log
      pub ring-kept : IsKept cfg (events_left drive less rings) j2 s2.world
      ring-kept =
          kept-drive less j2 s2.world
          (after-kept v cfg drive extra extra j s is same kept-script less j2 s2 (λ x f. choice.Ring line 0) journal state
          (kept-ring cfg extra j s.world line 0 kept-script (subst (λ (x : MachineView). is_owned_line x.config line.0 ≡ true) (sym is) owned) less
          (omega (arith, pay, ring-paid))))

      -- and is the machine after it
      pub ring-is : record { config = cfg; drive = drive; extra = less; items = j2.items; room = j2.room } ≡ rung v line
      ring-is =
          after-is v cfg drive extra extra j s is same kept-script less j2 s2 (λ x f. choice.Ring line 0) journal state less
          ∙ ap (λ n. record (after_event v (choice.Ring line 0)) { extra = n }) (pay ∙ ap (λ (x : MachineView). x.extra - 1) is)

-- what a thread wants, as the log tells it
pub wants-is : (v : MachineView) (cfg : Config) (drive : Drive) (extra beside : ℕ) (j : JournalState) (s : MachineState) →
    record { config = cfg; drive = drive; extra = extra; items = j.items; room = j.room } ≡ v → s.config ≡ cfg → IsKept cfg beside j s.world →
    (t : ThreadId) → want_of s.config s.world.flat t.0 ≡ want_of v.config (world_of v).flat t.0
wants-is v cfg drive extra beside j s is same kept t =
    ap (λ c. want_of c s.world.flat t.0) same
    ∙ ap (λ (x : World). want_of cfg x.flat t.0) kept.world
    ∙ ap (λ (x : MachineView). want_of x.config (world_of x).flat t.0) is

-- whether the inbox of a box may be full, as the log tells it
pub full-seen : (v : MachineView) (cfg : Config) (drive : Drive) (extra beside : ℕ) (j : JournalState) (s : MachineState) →
    record { config = cfg; drive = drive; extra = extra; items = j.items; room = j.room } ≡ v → s.config ≡ cfg → IsKept cfg beside j s.world →
    (t : ThreadId) (b : BoxId) →
    nat_le (inbox_slots s.config) (posted_count b.0 s.world.flat.shared.calls + other_callers s.config t.0 b.0) ≡ may_be_full v t b
full-seen v cfg drive extra beside j s is same kept t b =
    ap (λ (c : Config). nat_le (inbox_slots c) (posted_count b.0 s.world.flat.shared.calls + other_callers c t.0 b.0)) same
    ∙ ap (λ (x : World). nat_le (inbox_slots cfg) (posted_count b.0 x.flat.shared.calls + other_callers cfg t.0 b.0)) kept.world
    ∙ ap (λ (x : MachineView). may_be_full x t b) is

-- ---- the log

module _ (cfg : Config) (beside : ℕ) (j : JournalState) (w : World) (kept : IsKept cfg beside j w) where
  ends-kept : ends_of w.flat ≡ ends_of (state_after_all cfg (opening_state cfg) (choices_of j.items))
  ends-kept = ap (λ (v : World). ends_of v.flat) kept.world ∙ ap ends_of (flat_after_all cfg (opening_world cfg) (choices_of j.items))

  -- the log is a run of the flat machine
  flat-kept : IsFlatRun cfg (record { items = j.items; ends = ends_of w.flat })
  flat-kept = record {
    fitting = kept.fitting;
    replies = ap replies_of kept.traced ∙ replies_of-trace cfg (opening_world cfg) (choices_of j.items);
    ends = ends-kept;
  }

  -- the log is a run of the unit
  unit-kept : IsUnitRun cfg (record { items = j.items; ends = ends_of w.flat })
  unit-kept = record {
    lines = ap (λ xs. map (λ (event : Event). event.lines) (events_of xs)) kept.traced
        ∙ lines_of-trace cfg (opening_world cfg) (choices_of j.items);
    closed = ap ends_with_entry kept.traced ∙ ends_with_entry-trace cfg (opening_world cfg) (choices_of j.items);
  }

  -- the log is legal
  pub legal-kept : IsLegal cfg (record { items = j.items; ends = ends_of w.flat })
  legal-kept = record {
    flat = flat-kept;
    unit = unit-kept;
    agree = ap (λ xs. list_all is_agreed (events_of xs)) kept.traced
        ∙ trace-agrees cfg (opening_world cfg) (choices_of j.items) kept.state.sound (IsWorldReady-opening cfg);
  }

  -- the log is the one log of its choices
  pub one-kept : record { items = j.items; ends = ends_of w.flat } ≡ log_of_choices cfg (choices_of j.items)
  unfolding log_of_choices
  one-kept =
      ap (λ xs. record { items = xs; ends = ends_of w.flat }) (kept.traced ∙ trace_of-woven cfg (opening_world cfg) (choices_of j.items))
      ∙ ap (λ es. record { items = woven_items (lines_of_run cfg (opening_state cfg) (opening_unit cfg) (choices_of j.items)) (entries_of_run cfg (opening_state cfg) (choices_of j.items)); ends = es }) ends-kept

-- a machine's log is legal
pub legal-seen : (v : MachineView) (cfg : Config) (drive : Drive) (extra beside : ℕ) (j : JournalState) (s : MachineState) →
    record { config = cfg; drive = drive; extra = extra; items = j.items; room = j.room } ≡ v → IsKept cfg beside j s.world →
    IsLegal v.config (log_now v)
legal-seen v cfg drive extra beside j s is kept =
    subst (λ (x : MachineView). IsLegal x.config (log_now x)) is
    (subst (λ (x : World). IsLegal cfg (record { items = j.items; ends = ends_of x.flat })) kept.world (legal-kept cfg beside j s.world kept))
