-- What a thread may do that wants this.
use Rattle.std.proofs.Common.{◌≡◌, ℕ, ◌<◌, Bool, true, false, ◌&&◌, Option, Some, None, refl, sym, ap, ◌∙◌, length, arith}
use Rattle.std.specs.Prelude.{nat_eq}
use Rattle.std.proofs.lemmas.Bool.{and_from, and_parts, false≢true}
use Rattle.std.proofs.lemmas.Bool.Decides.{nat_tests}
use Rattle.addr_base.specs.declared.identity.BoxId.{BoxId}
use Rattle.addr_base.specs.declared.identity.ThreadId.{ThreadId}
use Rattle.addr_base.specs.declared.identity.Ticket.{Ticket}
use Rattle.flat_model.specs.declared.events.Choice.TheVariants as choice
use Rattle.flat_model.specs.declared.events.Want.{Want}
use Rattle.flat_model.specs.declared.events.Want.TheVariants as want
use Rattle.flat_model.specs.declared.parts.Config.{Config}
use Rattle.flat_model.specs.Actors.{actor_of}
use Rattle.flat_model.specs.CallRows.{home_of}
use Rattle.flat_model.specs.Want.{fits, fits_with_room, fits_without_room, is_thread, want_of, want_of_actor, wants_next}
use Rattle.machine_core.specs.declared.deeds.Deed.TheVariants as deed
use Rattle.machine_core.specs.Deeds.{choice_by}
use Rattle.machine_core.specs.Ready.{IsKnown, IsReady}
use Rattle.machine_core.specs.State.{ended_in}
use Rattle.machine_core.specs.Turns.{is_plain, is_room_in, may_be_full, takes_claim, takes_full, takes_next, takes_turn, want_in}
use Rattle.machine_core.specs.View.{MachineView, world_of}
use Rattle.machine_core.proofs.MachineLemmas.{nobody-ended}

module _ (v : MachineView) (t : ThreadId) where
  plain-ended : ended_in (world_of v) t.0 ≡ true → want_in v t ≡ want.Plain
  plain-ended ended = ap (want_of_actor v.config (world_of v).flat.shared t) (nobody-ended v.config (world_of v) t ended)

  -- a thread that wants something has not ended
  live-wanting : is_plain (want_in v t) ≡ false → ended_in (world_of v) t.0 ≡ false
  live-wanting wants = by_end (ended_in (world_of v) t.0) refl
    where
      by_end : (b : Bool) → ended_in (world_of v) t.0 ≡ b → b ≡ false
      by_end true ended = absurd (false≢true (sym wants ∙ ap is_plain (plain-ended ended)))
      by_end false live = refl

  module _ (there : t.0 < length v.config.threads) where
    is-there : is_thread v.config t ≡ true
    is-there = grind (arith, nat_tests)

    with-room : (w : Want) → is_plain w ≡ true → fits_with_room w ≡ true
    with-room want.Plain plain = refl
    with-room (want.Room b) plain = refl
    with-room want.Next plain = plain

    pub turn-ready : takes_turn v t ≡ true → ended_in (world_of v) t.0 ≡ false → IsReady v t (deed.Turn true)
    turn-ready takes live = record {
      there = there;
      live = live;
      fit = and_from (is_thread v.config t) (fits_with_room (want_in v t)) is-there (with-room (want_in v t) takes);
    }

    -- a thread that wants room in a box
    room-not-plain : (b : ℕ) (w : Want) → is_room_in b w ≡ true → is_plain w ≡ false
    room-not-plain b want.Plain room = sym room
    room-not-plain b (want.Room target) room = refl
    room-not-plain b want.Next room = refl

    room-with-room : (b : ℕ) (w : Want) → is_room_in b w ≡ true → fits_with_room w ≡ true
    room-with-room b want.Plain room = refl
    room-with-room b (want.Room target) room = refl
    room-with-room b want.Next room = room

    pub claim-ready : (b : BoxId) → takes_claim v t b ≡ true → IsReady v t (deed.Turn true)
    claim-ready b takes = record {
      there = there;
      live = live-wanting (room-not-plain b.0 (want_in v t) takes);
      fit = and_from (is_thread v.config t) (fits_with_room (want_in v t)) is-there (room-with-room b.0 (want_in v t) takes);
    }

    full-without : (b : BoxId) (w : Want) → is_room_in b.0 w ≡ true → may_be_full v t b ≡ true → fits_without_room v.config (world_of v).flat t.0 w ≡ true
    full-without b want.Plain room full = absurd (false≢true room)
    full-without b (want.Room target) room full =
        let same : target.0 ≡ b.0 = grind (arith, nat_tests) in
        ap (λ n. may_be_full v t (record { 0 = n })) same ∙ full
    full-without b want.Next room full = absurd (false≢true room)

    pub full-ready : (b : BoxId) → takes_full v t b ≡ true → IsReady v t (deed.Turn false)
    full-ready b takes =
        let parts = and_parts (takes_claim v t b) (may_be_full v t b) takes in
        record {
          there = there;
          live = live-wanting (room-not-plain b.0 (want_in v t) parts.0);
          fit = and_from (is_thread v.config t) (fits_without_room v.config (world_of v).flat t.0 (want_in v t)) is-there
              (full-without b (want_in v t) parts.0 parts.1);
        }

    next-not-plain : (w : Want) → wants_next w ≡ true → is_plain w ≡ false
    next-not-plain want.Plain next = sym next
    next-not-plain (want.Room target) next = refl
    next-not-plain want.Next next = refl

    serve-fits : wants_next (want_in v t) ≡ true → (ticket : Option Ticket) → IsKnown v.config ticket →
        fits v.config (world_of v).flat (choice_by t (deed.Serve ticket)) ≡ true
    serve-fits next None known = and_from (is_thread v.config t) (wants_next (want_in v t)) is-there next
    serve-fits next (Some ticket) known =
        let caller : is_thread v.config ticket.thread ≡ true = grind (arith, nat_tests) in
        and_from (is_thread v.config t && is_thread v.config ticket.thread) (wants_next (want_in v t))
        (and_from (is_thread v.config t) (is_thread v.config ticket.thread) is-there caller) next

    pub next-ready : (b : BoxId) → takes_next v t b ≡ true → (ticket : Option Ticket) → IsKnown v.config ticket → IsReady v t (deed.Serve ticket)
    next-ready b takes ticket known =
        let parts = and_parts (wants_next (want_in v t)) (nat_eq (home_of v.config t.0).0 b.0) takes in
        record {
          there = there;
          live = live-wanting (next-not-plain (want_in v t) parts.0);
          fit = serve-fits parts.0 ticket known;
        }
