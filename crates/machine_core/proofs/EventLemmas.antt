-- What a script's word for a thread is, from what the machine does.
use Rattle.std.proofs.Common.{◌≡◌, ℕ, ◌<◌, Bool, true, ◌&&◌, Option, Some, None, List, [], ◌∷◌, ◌++◌, map, refl, sym, ap, ◌∙◌, subst, length}
use Rattle.std.specs.List.{slice_get, slice_set}
use Rattle.std.specs.Option.{option_map, option_map_or}
use Rattle.std.proofs.lemmas.Bool.{and_parts}
use Rattle.std.proofs.lemmas.Option.{slice_get_within}
use Rattle.addr_base.specs.declared.identity.BoxId.{BoxId}
use Rattle.addr_base.specs.declared.identity.Line.{Line}
use Rattle.addr_base.specs.declared.identity.ThreadId.{ThreadId}
use Rattle.flat_model.specs.declared.accesses.Access.{Access}
use Rattle.flat_model.specs.declared.actors.Who.{Who}
use Rattle.flat_model.specs.declared.events.Choice.{Choice}
use Rattle.flat_model.specs.declared.events.Choice.TheVariants as choice
use Rattle.flat_model.specs.declared.events.Logged.TheVariants as item
use Rattle.flat_model.specs.declared.events.Reply.{Reply}
use Rattle.flat_model.specs.declared.events.Reply.TheVariants as reply
use Rattle.flat_model.specs.declared.events.UnitLine.{UnitLine}
use Rattle.flat_model.specs.declared.events.Want.{Want}
use Rattle.flat_model.specs.declared.events.Want.TheVariants as want
use Rattle.flat_model.specs.declared.next.Next.{Next}
use Rattle.flat_model.specs.declared.next.Next.TheVariants as next
use Rattle.flat_model.specs.declared.parts.BoxPart.{BoxPart}
use Rattle.flat_model.specs.declared.parts.Config.{Config}
use Rattle.flat_model.specs.declared.parts.ThreadPart.{ThreadPart}
use Rattle.flat_model.specs.declared.states.Call.{Call}
use Rattle.flat_model.specs.declared.states.Flat.{Flat}
use Rattle.flat_model.specs.declared.states.Shared.{Shared}
use Rattle.flat_model.specs.declared.states.ThreadState.{ThreadState}
use Rattle.flat_model.specs.Acting.{CanAct, is_free_server}
use Rattle.flat_model.specs.Actors.{Actor, IsActor, actor_of, who_acts}
use Rattle.flat_model.specs.CallRows.{home_of}
use Rattle.flat_model.specs.Calls.{oldest_posted}
use Rattle.flat_model.specs.Decision.{decision, is_granted}
use Rattle.flat_model.specs.Interrupts.{due_interrupt}
use Rattle.flat_model.specs.Kernel.{KernelState, after_ring, outcome_of}
use Rattle.flat_model.specs.Next.{holds_next, next_of, next_of_actor, touch_in}
use Rattle.flat_model.specs.Plan.{plan_of}
use Rattle.flat_model.specs.Script.{choice_by_want, choice_of_thread, start_or_idle}
use Rattle.flat_model.specs.Step.{reply_to, rung, settled, step}
use Rattle.flat_model.specs.Stepping.{CanGoOn}
use Rattle.flat_model.specs.Sound.{IsSound}
use Rattle.flat_model.specs.Trace.{World, event_items, opening_world, world_after}
use Rattle.flat_model.specs.UnitRun.{UnitState, accessed, entered, lines_of_event, unit_after, unit_after_event, unit_lines}
use Rattle.flat_model.specs.Want.{fits, is_owned_line, is_thread, want_by, want_of, want_of_actor, wants_next}
use Rattle.flat_model.proofs.AccessReplies.{IsFit, next-fit}
use Rattle.flat_model.proofs.ActorLemmas.{actor-there}
use Rattle.flat_model.proofs.Agreement.{granted-held-by}
use Rattle.flat_model.proofs.GoingOn.{can_act}
use Rattle.flat_model.proofs.ReadyWorlds.{IsWorldReady, IsWorldReady-reached}
use Rattle.flat_model.proofs.StepCases.{step-fits}
use Rattle.flat_model.proofs.TraceLemmas.{world_after_all-append}
use Rattle.flat_model.proofs.WantLemmas.{want-free}
use Rattle.machine_core.specs.declared.deeds.Deed.{Deed}
use Rattle.machine_core.specs.declared.deeds.Deed.TheVariants as deed
use Rattle.machine_core.specs.declared.deeds.Order.{Order}
use Rattle.machine_core.specs.declared.deeds.Order.TheVariants as order
use Rattle.machine_core.specs.Deeds.{IsFitOrder, choice_by, choice_by_order, deed_by_order, deed_by_want, deed_row, empties_by_deed, serve_choice, touch_by_deed}
use Rattle.machine_core.specs.Events.{MayDo, access_granted}
use Rattle.machine_core.specs.Journal.{JournalState, noted}
use Rattle.machine_core.specs.Kept.{IsKeptState, IsReached}
use Rattle.machine_core.specs.State.{IsActing, MachineState, state_of, world_with}
use Rattle.machine_core.proofs.ScriptLemmas.{script-fits}
use Rattle.machine_core.proofs.TurnLemmas.{after-idle, after-live, lines-idle, lines-live, step-live}

-- ---- whole worlds

-- the world after a choice
pub world-is : (cfg : Config) (w : World) (c : Choice) (flat : Flat) (unit : UnitState) →
    (step cfg w.flat c).0 ≡ flat → unit_after cfg w.flat w.unit c ≡ unit → world_after cfg w c ≡ record { flat = flat; unit = unit }
unfolding world_after
world-is cfg w c flat unit one two =
    ap (λ f. record { flat = f; unit = unit_after cfg w.flat w.unit c }) one ∙ ap (λ u. record { flat = flat; unit = u }) two

-- what choices reach is ready
pub reached-ready : (cfg : Config) (w : World) → IsReached cfg w → IsWorldReady cfg w.flat w.unit
reached-ready cfg w it =
    subst (λ (v : World). IsWorldReady cfg v.flat v.unit) (sym it.reached) (IsWorldReady-reached cfg it.choices)

-- and one more choice reaches what comes after
pub reached-after : (cfg : Config) (w : World) (c : Choice) → IsReached cfg w → IsReached cfg (world_after cfg w c)
reached-after cfg w c it = record {
  choices = it.choices ++ c ∷ [];
  reached = ap (λ v. world_after cfg v c) it.reached ∙ sym (world_after_all-append cfg (opening_world cfg) it.choices (c ∷ []));
}

-- ---- rings

-- a ring of a line that a box owns
ring-step : (cfg : Config) (f : Flat) (line : Line) (by : ℕ) → is_owned_line cfg line.0 ≡ true → step cfg f (choice.Ring line by) ≡ (rung f line.0, reply.Done)
ring-step cfg f line by owned = step-fits cfg f (choice.Ring line by) owned

-- the world after it
pub ring-world : (cfg : Config) (k : KernelState) (threads : List ThreadState) (u : UnitState) (line : Line) (by : ℕ) → is_owned_line cfg line.0 ≡ true →
    world_with (after_ring k line.0) threads u ≡ world_after cfg (world_with k threads u) (choice.Ring line by)
ring-world cfg k threads u line by owned =
    sym (world-is cfg (world_with k threads u) (choice.Ring line by) _ u
    (ap (λ (p : Flat × Reply). p.0) (ring-step cfg (world_with k threads u).flat line by owned)) (after-idle cfg (world_with k threads u).flat u (choice.Ring line by) refl))

-- its entry is the event
pub ring-noted : (cfg : Config) (w : World) (line : Line) (by : ℕ) (j : JournalState) → is_owned_line cfg line.0 ≡ true →
    noted j (item.Core (record { choice = choice.Ring line by; reply = reply.Done }) ∷ []) ≡ noted j (event_items cfg w (choice.Ring line by))
unfolding event_items
ring-noted cfg w line by j owned =
    sym (
    ap (λ (ls : List UnitLine). noted j (map item.Unit ls ++ item.Core (record { choice = choice.Ring line by; reply = reply_to cfg w.flat (choice.Ring line by) }) ∷ []))
    (lines-idle cfg w.flat w.unit (choice.Ring line by) refl)
    ∙ ap (λ (p : Flat × Reply). noted j (item.Core (record { choice = choice.Ring line by; reply = p.1 }) ∷ [])) (ring-step cfg w.flat line by owned)
    )

-- ---- an event of nobody

-- nobody acts in a state, where nobody acts in what its fields make
pub nobody-in : (s : MachineState) (cfg : Config) (v : MachineState) (t : ℕ) → s.config ≡ cfg → v ≡ s → actor_of cfg v.world.flat t ≡ None →
    actor_of s.config s.world.flat t ≡ None
nobody-in s cfg v t config is none =
    ap (λ (c : Config). actor_of c s.world.flat t) config ∙ sym (ap (λ (x : MachineState). actor_of cfg x.world.flat t) is) ∙ none

-- ---- the access that the unit decides

granted-by : (cfg : Config) (f : Flat) (u : UnitState) (a : Actor) (n : Next) → IsFit n →
    ((access : Access) → IsFit (next.Access access) →
    is_granted (decision (accessed (plan_of cfg f.shared.owners a.program.home.0 a.part) (entered cfg a.part u a.program.home) (Some access)).pairs access.at access.kind)
    ≡ holds_next cfg.board a.program.home.0 a.part f.shared.owners (next.Access access)) →
    access_granted (accessed (plan_of cfg f.shared.owners a.program.home.0 a.part) (entered cfg a.part u a.program.home) (touch_in n)) (touch_in n)
    ≡ holds_next cfg.board a.program.home.0 a.part f.shared.owners n
granted-by cfg f u a next.Look fit held = refl
granted-by cfg f u a (next.Deliver irq) fit held = refl
granted-by cfg f u a (next.Local i) fit held = refl
granted-by cfg f u a (next.Access access) fit held = held access fit
granted-by cfg f u a (next.Unaligned at) fit held = refl
granted-by cfg f u a (next.Kernel c) fit held = refl
granted-by cfg f u a next.Nowhere fit held = refl

-- ---- what a script's word has a thread do

pub choice-by : (cfg : Config) (f : Flat) (t : ThreadId) (home : BoxId) → home_of cfg t.0 ≡ home → (w : Want) →
    choice_by t (deed_by_want cfg f.shared home.0 w) ≡ choice_by_want cfg f t w
choice-by cfg f t home is want.Plain = refl
choice-by cfg f t home is (want.Room b) = refl
choice-by cfg f t home is want.Next =
    by_oldest (oldest_posted home.0 f.shared.calls) ∙ ap (λ (h : BoxId). start_or_idle t (oldest_posted h.0 f.shared.calls)) (sym is)
  where
    by_oldest : (o : Option Call) → serve_choice t (option_map (λ (c : Call). c.ticket) o) ≡ start_or_idle t o
    by_oldest None = refl
    by_oldest (Some c) = refl

-- who acts in a state acts in what its fields make
pub acts-in : (s : MachineState) (cfg : Config) (w : World) (who : Who) (part : BoxPart) (program : ThreadPart) → state_of cfg w ≡ s →
    IsActing s who part program → IsActing (state_of cfg w) who part program
acts-in s cfg w who part program is acts = subst (λ (v : MachineState). IsActing v who part program) (sym is) acts

-- ---- an event of a state's thread

module _ (cfg : Config) (k : KernelState) (threads : List ThreadState) (u : UnitState) (who : Who) (part : BoxPart) (program : ThreadPart)
    (th : ThreadState) (kept : IsKeptState cfg (world_with k threads u))
    (acts : IsActing (state_of cfg (world_with k threads u)) who part program)
    (here : slice_get threads who.thread.0 ≡ Some th) where
  flat : Flat
  flat = (world_with k threads u).flat

  a : Actor
  a = record { part = part; program = program; thread = th }

  acting : actor_of cfg (world_with k threads u).flat who.thread.0 ≡ Some (record { part = part; program = program; thread = th })
  acting = actor-there cfg (world_with k threads u).flat who.thread true who part program th acts.program_is acts.part_is acts.who_is here (acts.live th here)

  is-actor : IsActor cfg (world_with k threads u).flat who.thread.0 (record { part = part; program = program; thread = th })
  is-actor = record { program = acts.program_is; thread = here; live = acts.live th here; part = acts.part_is }

  there : who.thread.0 < length cfg.threads
  there = slice_get_within cfg.threads who.thread.0 program acts.program_is

  -- its step and its next call can be counted
  pub can-act : k.config ≡ cfg → CanAct k who part th
  can-act same =
      can_act k threads who part program th (subst IsSound (sym same) kept.sound)
      (subst (λ (c : Config). CanGoOn c (world_with k threads u).flat) (sym same) kept.going)
      (ap (λ (c : Config). slice_get c.threads who.thread.0) same ∙ acts.program_is)
      (ap (λ (c : Config). slice_get c.boxes who.home.0) same ∙ ap (λ (w : Who). slice_get cfg.boxes w.home.0) acts.who_is ∙ acts.part_is)
      here (acts.live th here)

  module _ (n : Next) (comes : n ≡ next_of program th (due_interrupt k.shared.lines part who.home.0 who.thread.0)) where
    comes-home : n ≡ next_of_actor k.shared.lines (record { part = part; program = program; thread = th }) who.thread.0
    comes-home = comes ∙ ap (λ (w : Who). next_of program th (due_interrupt k.shared.lines part w.home.0 who.thread.0)) acts.who_is

    wants : want_of cfg (world_with k threads u).flat who.thread.0 ≡ want_by cfg who part k.shared n
    wants =
        ap (want_of_actor cfg k.shared who.thread) acting
        ∙ ap (want_by cfg (who_acts (record { part = part; program = program; thread = th }) who.thread true) part k.shared) (sym comes-home)
        ∙ ap (λ (w : Who). want_by cfg w part k.shared n) (sym acts.who_is)

    home-is : home_of cfg who.thread.0 ≡ who.home
    home-is =
        ap (λ o. option_map_or (λ (p : ThreadPart). p.home) o (record { 0 = 0 })) acts.program_is ∙ sym (ap (λ (w : Who). w.home) acts.who_is)

    -- the choice that it makes is the script's
    pub script-choice : choice_by who.thread (deed_by_want cfg k.shared who.home.0 (want_by cfg who part k.shared n))
        ≡ choice_of_thread cfg (world_with k threads u).flat who.thread
    script-choice =
        choice-by cfg (world_with k threads u).flat who.thread who.home home-is (want_by cfg who part k.shared n)
        ∙ ap (choice_by_want cfg (world_with k threads u).flat who.thread) (sym wants)

    -- what an order has it do is the order's choice
    pub chosen : (o : Order) (d : Deed) → d ≡ deed_by_order cfg k.shared who.home.0 (want_by cfg who part k.shared n) o →
        choice_by who.thread d ≡ choice_by_order cfg (world_with k threads u).flat who.thread o
    chosen order.Word d is = ap (choice_by who.thread) is ∙ script-choice
    chosen (order.Given e) d is = ap (choice_by who.thread) is

    fits-order : (o : Order) → IsFitOrder cfg (world_with k threads u).flat who.thread o →
        fits cfg (world_with k threads u).flat (choice_by_order cfg (world_with k threads u).flat who.thread o) ≡ true
    fits-order order.Word fit = script-fits cfg (world_with k threads u).flat who.thread there kept.callers
    fits-order (order.Given d) fit = fit

    -- and it fits
    pub chosen-fits : (o : Order) (d : Deed) → d ≡ deed_by_order cfg k.shared who.home.0 (want_by cfg who part k.shared n) o →
        IsFitOrder cfg (world_with k threads u).flat who.thread o → fits cfg (world_with k threads u).flat (choice_by who.thread d) ≡ true
    chosen-fits o d is fit = ap (fits cfg (world_with k threads u).flat) (chosen o d is) ∙ fits-order o fit

    may-fit : (d : Deed) → fits cfg (world_with k threads u).flat (choice_by who.thread d) ≡ true → MayDo who part k.shared d
    may-fit (deed.Turn room) fit = tt
    may-fit (deed.Serve None) fit =
        want-free cfg who part k.shared n (sym (ap wants_next wants)
        ∙ (and_parts (is_thread cfg who.thread) (wants_next (want_of cfg (world_with k threads u).flat who.thread.0)) fit).1)
    may-fit (deed.Serve (Some ticket)) fit =
        want-free cfg who part k.shared n (sym (ap wants_next wants)
        ∙ (and_parts (is_thread cfg who.thread && is_thread cfg ticket.thread) (wants_next (want_of cfg (world_with k threads u).flat who.thread.0)) fit).1)

    -- a server's event is of one that serves no call
    pub may-order : (o : Order) (d : Deed) → d ≡ deed_by_order cfg k.shared who.home.0 (want_by cfg who part k.shared n) o →
        IsFitOrder cfg (world_with k threads u).flat who.thread o → MayDo who part k.shared d
    may-order o d is fit = may-fit d (chosen-fits o d is fit)

    module _ (d : Deed) (fit : fits cfg (world_with k threads u).flat (choice_by who.thread d) ≡ true) where
      -- the unit grants its access exactly where the box holds the bytes
      granted-is : access_granted (accessed (plan_of cfg k.shared.owners who.home.0 part) (entered cfg part u who.home) (touch_in n)) (touch_in n)
          ≡ holds_next cfg.board program.home.0 part k.shared.owners n
      granted-is =
          let fitting : IsFit n = subst IsFit (sym comes) (next-fit program th (due_interrupt k.shared.lines part who.home.0 who.thread.0)) in
          ap (λ (w : Who). access_granted (accessed (plan_of cfg k.shared.owners w.home.0 part) (entered cfg part u w.home) (touch_in n)) (touch_in n)) acts.who_is
          ∙ granted-by cfg (world_with k threads u).flat u (record { part = part; program = program; thread = th }) n fitting
          (λ access fits. granted-held-by cfg (world_with k threads u).flat u who.thread.0 (record { part = part; program = program; thread = th }) access kept.sound
          (reached-ready cfg (world_with k threads u) kept.reached) is-actor fits)

      row-granted : (granted : Bool) →
          granted ≡ access_granted (accessed (plan_of cfg k.shared.owners who.home.0 part) (entered cfg part u who.home) (touch_by_deed n d)) (touch_by_deed n d) →
          deed_row cfg who part program.steps k.shared th granted n d
          ≡ deed_row cfg who part program.steps k.shared th (holds_next cfg.board program.home.0 part k.shared.owners n) n d
      row-granted granted decides = by_deed d decides
        where
          by_deed : (e : Deed) →
              granted ≡ access_granted (accessed (plan_of cfg k.shared.owners who.home.0 part) (entered cfg part u who.home) (touch_by_deed n e)) (touch_by_deed n e) →
              deed_row cfg who part program.steps k.shared th granted n e
              ≡ deed_row cfg who part program.steps k.shared th (holds_next cfg.board program.home.0 part k.shared.owners n) n e
          by_deed (deed.Turn room) by_unit = ap (λ g. deed_row cfg who part program.steps k.shared th g n (deed.Turn room)) (by_unit ∙ granted-is)
          by_deed (deed.Serve ticket) by_unit = refl

      module _ (k2 : KernelState) (th2 : ThreadState) (r : Reply)
          (does : deed_row cfg who part program.steps k.shared th
          (access_granted (accessed (plan_of cfg k.shared.owners who.home.0 part) (entered cfg part u who.home) (touch_by_deed n d)) (touch_by_deed n d)) n d
          ≡ outcome_of k2 th2 r) where
        step-is : step cfg (world_with k threads u).flat (choice_by who.thread d)
            ≡ (record { shared = k2.shared; threads = slice_set threads who.thread.0 th2 }, r)
        step-is =
            step-live cfg (world_with k threads u).flat who.thread (record { part = part; program = program; thread = th }) acting d fit
            ∙ ap (λ (m : Next). settled (world_with k threads u).flat who.thread.0
            (deed_row cfg (who_acts (record { part = part; program = program; thread = th }) who.thread true) part program.steps k.shared th
            (holds_next cfg.board program.home.0 part k.shared.owners m) m d)) (sym comes-home)
            ∙ ap (λ (w : Who). settled (world_with k threads u).flat who.thread.0
            (deed_row cfg w part program.steps k.shared th (holds_next cfg.board program.home.0 part k.shared.owners n) n d)) (sym acts.who_is)
            ∙ ap (settled (world_with k threads u).flat who.thread.0) (sym (row-granted
            (access_granted (accessed (plan_of cfg k.shared.owners who.home.0 part) (entered cfg part u who.home) (touch_by_deed n d)) (touch_by_deed n d)) refl) ∙ does)

        replies : reply_to cfg (world_with k threads u).flat (choice_by who.thread d) ≡ r
        replies = ap (λ (p : Flat × Reply). p.1) step-is

        -- the reply is that of the script's choice
        pub event-reply : r ≡ reply_to cfg (world_with k threads u).flat (choice_by who.thread d)
        event-reply = sym replies

        -- the unit's lines are
        pub event-lines : lines_of_event cfg who.home part (plan_of cfg k.shared.owners who.home.0 part) u (touch_by_deed n d) (empties_by_deed n r d)
            ≡ unit_lines cfg (world_with k threads u).flat u (choice_by who.thread d)
        event-lines =
            ap (λ (w : Who). lines_of_event cfg w.home part (plan_of cfg k.shared.owners w.home.0 part) u (touch_by_deed n d) (empties_by_deed n r d)) acts.who_is
            ∙ ap (λ (m : Next). lines_of_event cfg program.home part (plan_of cfg k.shared.owners program.home.0 part) u (touch_by_deed m d) (empties_by_deed m r d)) comes-home
            ∙ sym (lines-live cfg (world_with k threads u).flat who.thread (record { part = part; program = program; thread = th }) acting r d fit replies u)

        unit-is : unit_after cfg (world_with k threads u).flat u (choice_by who.thread d)
            ≡ unit_after_event cfg who.home part (plan_of cfg k.shared.owners who.home.0 part) u (touch_by_deed n d) (empties_by_deed n r d)
        unit-is =
            after-live cfg (world_with k threads u).flat who.thread (record { part = part; program = program; thread = th }) acting r d fit replies u
            ∙ sym (ap (λ (m : Next). unit_after_event cfg program.home part (plan_of cfg k.shared.owners program.home.0 part) u (touch_by_deed m d) (empties_by_deed m r d)) comes-home)
            ∙ sym (ap (λ (w : Who). unit_after_event cfg w.home part (plan_of cfg k.shared.owners w.home.0 part) u (touch_by_deed n d) (empties_by_deed n r d)) acts.who_is)

        -- and so is the world after it
        pub event-world : (u2 : UnitState) →
            u2 ≡ unit_after_event cfg who.home part (plan_of cfg k.shared.owners who.home.0 part) u (touch_by_deed n d) (empties_by_deed n r d) →
            world_with k2 (slice_set threads who.thread.0 th2) u2 ≡ world_after cfg (world_with k threads u) (choice_by who.thread d)
        event-world u2 unit =
            sym (world-is cfg (world_with k threads u) (choice_by who.thread d) _ u2
            (ap (λ (p : Flat × Reply). p.0) step-is) (unit-is ∙ sym unit))
