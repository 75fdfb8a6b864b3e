-- Who acts, where somebody does.
use Rattle.std.proofs.Common.{◌≡◌, ℕ, Bool, true, false, cond, List, Option, Some, None, refl, sym, ap, ◌∙◌, subst, length, ◌<◌}
use Rattle.std.specs.List.{slice_get, slice_index_or}
use Rattle.std.proofs.lemmas.Option.{get_or_from_slice_get}
use Rattle.std.specs.Option.{option_map}
use Rattle.addr_base.specs.declared.identity.ThreadId.{ThreadId}
use Rattle.flat_model.specs.declared.actors.Who.{Who}
use Rattle.flat_model.specs.declared.next.Next.{Next}
use Rattle.flat_model.specs.declared.parts.BoxPart.{BoxPart}
use Rattle.flat_model.specs.declared.parts.Config.{Config}
use Rattle.flat_model.specs.declared.parts.ThreadPart.{ThreadPart}
use Rattle.flat_model.specs.declared.states.Flat.{Flat}
use Rattle.flat_model.specs.declared.states.ThreadState.{ThreadState}
use Rattle.flat_model.specs.Actors.{Actor, IsActor, IsLive, actor_in, actor_of, actor_with, live_actor}
use Rattle.flat_model.specs.Interrupts.{due_interrupt}
use Rattle.flat_model.specs.Next.{holds_next, next_of}
use Rattle.flat_model.specs.Outcome.{Outcome}
use Rattle.flat_model.specs.Step.{settled, turn_by}
use Rattle.flat_model.specs.Thread.{has_ended}
use Rattle.flat_model.specs.Turn.{turn_row}
use Rattle.flat_model.proofs.Elements.{slice_get_some}

nobody : (a : Actor) → None ≡ Some a → {X : Type 0} → X
nobody a is = absurd (let e : None ≡ Some a = is in cc)

same_actor : (a b : Actor) → Some a ≡ Some b → a ≡ b
same_actor a b is = cc

live-in : (cfg : Config) (program : ThreadPart) (th : ThreadState) (a : Actor) → has_ended th ≡ false →
    actor_in cfg program th ≡ Some a → IsLive cfg (Some program) (Some th) a
live-in cfg program th a live is = by_part (slice_get cfg.boxes program.home.0) refl is
  where
    by_part : (o : Option BoxPart) → slice_get cfg.boxes program.home.0 ≡ o →
        option_map (actor_with program th) o ≡ Some a →
        IsLive cfg (Some program) (Some th) a
    by_part None lost is = nobody a is
    by_part (Some part) found is =
        let same = same_actor (record { part = part; program = program; thread = th }) a is in
        subst (IsLive cfg (Some program) (Some th)) same (record { program = refl; thread = refl; live = live; part = found })

-- an actor is its thread
pub live-is : (cfg : Config) (program : Option ThreadPart) (th : Option ThreadState) (a : Actor) →
    live_actor cfg program th ≡ Some a → IsLive cfg program th a
live-is cfg None th a is = nobody a is
live-is cfg (Some program) None a is = nobody a is
live-is cfg (Some program) (Some th) a is = by_end (has_ended th) refl is
  where
    by_end : (b : Bool) → has_ended th ≡ b → cond b None (actor_in cfg program th) ≡ Some a → IsLive cfg (Some program) (Some th) a
    by_end true ended is = nobody a is
    by_end false live is = live-in cfg program th a live is

pub actor-is : (cfg : Config) (f : Flat) (t : ℕ) (a : Actor) → actor_of cfg f t ≡ Some a → IsActor cfg f t a
actor-is cfg f t a is = live-is cfg (slice_get cfg.threads t) (slice_get f.threads t) a is

-- and its thread is the actor
pub is-live : (cfg : Config) (program : Option ThreadPart) (th : Option ThreadState) (a : Actor) →
    IsLive cfg program th a → live_actor cfg program th ≡ Some a
is-live cfg program th a it =
    ap (λ p. live_actor cfg p th) it.program
    ∙ ap (live_actor cfg (Some a.program)) it.thread
    ∙ ap (λ b. cond b None (actor_in cfg a.program a.thread)) it.live
    ∙ ap (option_map (actor_with a.program a.thread)) it.part

-- the element at a number below the length
pub here-at : {X : Type 0} (xs : List X) (i : ℕ) (d : X) → i < length xs → slice_get xs i ≡ Some (slice_index_or xs i d)
here-at xs i d below =
    let x = slice_get_some xs i below in x.1 ∙ ap (λ y. Some y) (sym (get_or_from_slice_get xs i x.0 d x.1))

-- ---- a turn of a thread that is there and has not ended

module _ (cfg : Config) (f : Flat) (t : ThreadId) (room : Bool) (who : Who) (part : BoxPart) (program : ThreadPart) (th : ThreadState)
    (there : slice_get cfg.threads t.0 ≡ Some program)
    (home : slice_get cfg.boxes program.home.0 ≡ Some part)
    (is : who ≡ record { home = program.home; thread = t; room = room })
    (here : slice_get f.threads t.0 ≡ Some th)
    (live : has_ended th ≡ false) where
  -- the actor is there
  pub actor-there : actor_of cfg f t.0 ≡ Some (record { part = part; program = program; thread = th })
  actor-there =
      is-live cfg (slice_get cfg.threads t.0) (slice_get f.threads t.0) (record { part = part; program = program; thread = th })
      (record { program = there; thread = here; live = live; part = home })

  -- what the turn does, put back
  pub turn-settled : (n : Next) (granted : Bool) (out : Outcome) →
      n ≡ next_of program th (due_interrupt f.shared.lines part who.home.0 who.thread.0) →
      granted ≡ holds_next cfg.board who.home.0 part f.shared.owners n →
      turn_row cfg who part program.steps f.shared th granted n ≡ out →
      turn_by cfg f t room (actor_of cfg f t.0) ≡ settled f t.0 out
  turn-settled n granted out comes decides does =
      ap (turn_by cfg f t room) actor-there
      ∙ sym (ap (λ (w : Who). settled f t.0 (turn_row cfg w part program.steps f.shared th
      (holds_next cfg.board w.home.0 part f.shared.owners (next_of program th (due_interrupt f.shared.lines part w.home.0 w.thread.0)))
      (next_of program th (due_interrupt f.shared.lines part w.home.0 w.thread.0)))) is)
      ∙ ap (λ (m : Next). settled f t.0 (turn_row cfg who part program.steps f.shared th (holds_next cfg.board who.home.0 part f.shared.owners m) m)) (sym comes)
      ∙ ap (λ b. settled f t.0 (turn_row cfg who part program.steps f.shared th b n)) (sym decides)
      ∙ ap (settled f t.0) does
