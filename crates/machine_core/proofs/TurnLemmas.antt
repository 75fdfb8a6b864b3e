-- What an actor's event is: for the flat machine, for the unit, and for both.
use Rattle.std.proofs.Common.{◌≡◌, ℕ, true, false, ◌&&◌, not, Some, None, [], refl, sym, ap, ◌∙◌}
use Rattle.std.proofs.lemmas.Bool.{and_parts, false≢true}
use Rattle.addr_base.specs.declared.identity.ThreadId.{ThreadId}
use Rattle.flat_model.specs.declared.actors.Who.{Who}
use Rattle.flat_model.specs.declared.classes.KernelCall.{KernelCall}
use Rattle.flat_model.specs.declared.classes.KernelCall.TheVariants as call
use Rattle.flat_model.specs.declared.events.Choice.{Choice}
use Rattle.flat_model.specs.declared.events.Choice.TheVariants as choice
use Rattle.flat_model.specs.declared.events.Reply.{Reply}
use Rattle.flat_model.specs.declared.next.Next.{Next}
use Rattle.flat_model.specs.declared.next.Next.TheVariants as next
use Rattle.flat_model.specs.declared.parts.BoxPart.{BoxPart}
use Rattle.flat_model.specs.declared.parts.Config.{Config}
use Rattle.flat_model.specs.declared.states.Flat.{Flat}
use Rattle.flat_model.specs.declared.states.Shared.{Shared}
use Rattle.flat_model.specs.Actors.{Actor, actor_of, who_acts}
use Rattle.flat_model.specs.Next.{holds_next, is_page_turn, next_of_actor, touch_in}
use Rattle.flat_model.specs.Plan.{plan_of}
use Rattle.flat_model.specs.Step.{empties_slots, fitting_step, is_page_turn_by, is_status, reply_to, serve_by, settled, step, touch_by, touch_of, turn_by}
use Rattle.flat_model.specs.UnitRun.{UnitState, actor_at, lines_of_actor, lines_of_event, unit_after, unit_after_actor, unit_after_event, unit_lines}
use Rattle.flat_model.specs.Want.{fits, fits_without_room, is_thread, want_by, want_by_call, want_of, want_of_actor}
use Rattle.flat_model.proofs.StepCases.{step-fits}
use Rattle.machine_core.specs.declared.deeds.Deed.{Deed}
use Rattle.machine_core.specs.declared.deeds.Deed.TheVariants as deed
use Rattle.machine_core.specs.Deeds.{choice_by, deed_row, empties_by_deed, touch_by_deed}

-- ---- a turn without room

-- it decides no access, and is no page call
pub record IsCallTurn (n : Next) : Type 0 where
  pub touch : touch_in n ≡ None
  pub page : is_page_turn n ≡ false

module _ (cfg : Config) (f : Flat) (t : ℕ) (who : Who) (part : BoxPart) (m : Shared) where
  full-call : (c : KernelCall) → fits_without_room cfg f t (want_by_call cfg who part m c) ≡ true → IsCallTurn (next.Kernel c)
  full-call (call.PagesAlloc n a) fit = absurd (false≢true fit)
  full-call (call.PageFree a) fit = absurd (false≢true fit)
  full-call (call.IrqOn n) fit = absurd (false≢true fit)
  full-call (call.IrqOff n) fit = record { touch = refl; page = refl }
  full-call call.IrqReturn fit = record { touch = refl; page = refl }
  full-call (call.GwRead d n) fit = record { touch = refl; page = refl }
  full-call (call.GwWrite s n) fit = record { touch = refl; page = refl }
  full-call (call.RpcCall d n) fit = record { touch = refl; page = refl }
  full-call (call.RpcSync n looks) fit = record { touch = refl; page = refl }
  full-call call.RpcTake fit = record { touch = refl; page = refl }
  full-call (call.RpcReturn s) fit = record { touch = refl; page = refl }
  full-call (call.RpcResult d s) fit = record { touch = refl; page = refl }

  full-turn : (n : Next) → fits_without_room cfg f t (want_by cfg who part m n) ≡ true → IsCallTurn n
  full-turn next.Look fit = absurd (false≢true fit)
  full-turn (next.Deliver irq) fit = absurd (false≢true fit)
  full-turn (next.Local i) fit = absurd (false≢true fit)
  full-turn (next.Access access) fit = absurd (false≢true fit)
  full-turn (next.Unaligned at) fit = absurd (false≢true fit)
  full-turn (next.Kernel c) fit = full-call c fit
  full-turn next.Nowhere fit = absurd (false≢true fit)

-- ---- an actor's event

module _ (cfg : Config) (f : Flat) (t : ThreadId) (a : Actor) (acting : actor_of cfg f t.0 ≡ Some a) where
  comes : Next
  comes = next_of_actor f.shared.lines a t.0

  without-room : fits cfg f (choice.Turn t false) ≡ true → IsCallTurn (next_of_actor f.shared.lines a t.0)
  without-room fit =
      let full : fits_without_room cfg f t.0 (want_of cfg f t.0) ≡ true = (and_parts (is_thread cfg t) (fits_without_room cfg f t.0 (want_of cfg f t.0)) fit).1 in
      full-turn cfg f t.0 (who_acts a t true) a.part f.shared (next_of_actor f.shared.lines a t.0)
      (sym (ap (λ o. fits_without_room cfg f t.0 (want_of_actor cfg f.shared t o)) acting) ∙ full)

  -- who acts
  pub actor-here : (d : Deed) → actor_at cfg f (choice_by t d) ≡ Some a
  actor-here (deed.Turn room) = acting
  actor-here (deed.Serve None) = acting
  actor-here (deed.Serve (Some ticket)) = acting

  -- the access
  pub touch-here : (d : Deed) → fits cfg f (choice_by t d) ≡ true → touch_of cfg f (choice_by t d) ≡ touch_by_deed (next_of_actor f.shared.lines a t.0) d
  unfolding touch_of
  touch-here (deed.Turn true) fit = ap (touch_by f t.0) acting
  touch-here (deed.Turn false) fit = sym (without-room fit).touch
  touch-here (deed.Serve None) fit = refl
  touch-here (deed.Serve (Some ticket)) fit = refl

  module _ (r : Reply) where
    -- whether it empties the slots of the circle
    pub empties-here : (d : Deed) → fits cfg f (choice_by t d) ≡ true → reply_to cfg f (choice_by t d) ≡ r →
        empties_slots cfg f (choice_by t d) ≡ empties_by_deed (next_of_actor f.shared.lines a t.0) r d
    unfolding empties_slots
    empties-here (deed.Turn true) fit replies =
        ap (λ x. is_page_turn_by f t.0 x && not (is_status (reply_to cfg f (choice.Turn t true)))) acting
        ∙ ap (λ s. is_page_turn (next_of_actor f.shared.lines a t.0) && not (is_status s)) replies
    empties-here (deed.Turn false) fit replies = sym (ap (λ p. p && not (is_status r)) (without-room fit).page)
    empties-here (deed.Serve None) fit replies = refl
    empties-here (deed.Serve (Some ticket)) fit replies = refl

    module _ (d : Deed) (fit : fits cfg f (choice_by t d) ≡ true) (replies : reply_to cfg f (choice_by t d) ≡ r) (u : UnitState) where
      -- the unit's lines
      pub lines-live : unit_lines cfg f u (choice_by t d)
          ≡ lines_of_event cfg a.program.home a.part (plan_of cfg f.shared.owners a.program.home.0 a.part) u
          (touch_by_deed (next_of_actor f.shared.lines a t.0) d) (empties_by_deed (next_of_actor f.shared.lines a t.0) r d)
      unfolding unit_lines
      lines-live =
          ap (lines_of_actor cfg f u (choice_by t d)) (actor-here d)
          ∙ ap (λ access. lines_of_event cfg a.program.home a.part (plan_of cfg f.shared.owners a.program.home.0 a.part) u access (empties_slots cfg f (choice_by t d))) (touch-here d fit)
          ∙ ap (lines_of_event cfg a.program.home a.part (plan_of cfg f.shared.owners a.program.home.0 a.part) u (touch_by_deed (next_of_actor f.shared.lines a t.0) d)) (empties-here d fit replies)

      -- the unit
      pub after-live : unit_after cfg f u (choice_by t d)
          ≡ unit_after_event cfg a.program.home a.part (plan_of cfg f.shared.owners a.program.home.0 a.part) u
          (touch_by_deed (next_of_actor f.shared.lines a t.0) d) (empties_by_deed (next_of_actor f.shared.lines a t.0) r d)
      unfolding unit_after
      after-live =
          ap (unit_after_actor cfg f u (choice_by t d)) (actor-here d)
          ∙ ap (λ access. unit_after_event cfg a.program.home a.part (plan_of cfg f.shared.owners a.program.home.0 a.part) u access (empties_slots cfg f (choice_by t d))) (touch-here d fit)
          ∙ ap (unit_after_event cfg a.program.home a.part (plan_of cfg f.shared.owners a.program.home.0 a.part) u (touch_by_deed (next_of_actor f.shared.lines a t.0) d)) (empties-here d fit replies)

  -- the row of it, put back
  fitting-here : (d : Deed) →
      fitting_step cfg f (choice_by t d) ≡ settled f t.0 (deed_row cfg (who_acts a t true) a.part a.program.steps f.shared a.thread
      (holds_next cfg.board a.program.home.0 a.part f.shared.owners (next_of_actor f.shared.lines a t.0)) (next_of_actor f.shared.lines a t.0) d)
  fitting-here (deed.Turn room) = ap (turn_by cfg f t room) acting
  fitting-here (deed.Serve None) = ap (serve_by cfg f t None) acting
  fitting-here (deed.Serve (Some ticket)) = ap (serve_by cfg f t (Some ticket)) acting

  -- the step
  pub step-live : (d : Deed) → fits cfg f (choice_by t d) ≡ true →
      step cfg f (choice_by t d) ≡ settled f t.0 (deed_row cfg (who_acts a t true) a.part a.program.steps f.shared a.thread
      (holds_next cfg.board a.program.home.0 a.part f.shared.owners (next_of_actor f.shared.lines a t.0)) (next_of_actor f.shared.lines a t.0) d)
  step-live d fit = step-fits cfg f (choice_by t d) fit ∙ fitting-here d

-- ---- an event of nobody

pub lines-idle : (cfg : Config) (f : Flat) (u : UnitState) (c : Choice) → actor_at cfg f c ≡ None → unit_lines cfg f u c ≡ []
unfolding unit_lines
lines-idle cfg f u c none = ap (lines_of_actor cfg f u c) none

pub after-idle : (cfg : Config) (f : Flat) (u : UnitState) (c : Choice) → actor_at cfg f c ≡ None → unit_after cfg f u c ≡ u
unfolding unit_after
after-idle cfg f u c none = ap (unit_after_actor cfg f u c) none
