-- The choice that a script's word stands for fits.
use Rattle.std.proofs.Common.{◌≡◌, ◌+◌, ◌<◌, Bool, true, false, ◌&&◌, Option, Some, None, length, refl, ap, ◌∙◌, arith, nat_le, nat_lt}
use Rattle.std.proofs.lemmas.Bool.{and_from}
use Rattle.std.proofs.lemmas.Bool.Decides.{nat_tests}
use Rattle.addr_base.specs.declared.identity.BoxId.{BoxId}
use Rattle.addr_base.specs.declared.identity.ThreadId.{ThreadId}
use Rattle.flat_model.specs.declared.events.Choice.TheVariants as choice
use Rattle.flat_model.specs.declared.events.Want.{Want}
use Rattle.flat_model.specs.declared.events.Want.TheVariants as want
use Rattle.flat_model.specs.declared.parts.Config.{Config}
use Rattle.flat_model.specs.declared.states.Call.{Call}
use Rattle.flat_model.specs.declared.states.Flat.{Flat}
use Rattle.flat_model.specs.CallRows.{home_of}
use Rattle.flat_model.specs.Calls.{is_posted_to, oldest_posted, posted_count}
use Rattle.flat_model.specs.Script.{choice_by_want, choice_of_thread, start_or_idle}
use Rattle.flat_model.specs.Want.{fits, fits_with_room, fits_without_room, inbox_slots, is_thread, other_callers, want_of, wants_next}
use Rattle.machine_core.specs.Kept.{HasCallers}
use Rattle.machine_core.proofs.CallerLemmas.{found-caller}

module _ (cfg : Config) (f : Flat) (t : ThreadId) (there : t.0 < length cfg.threads) (has : HasCallers cfg f.shared.calls) where
  is-thread : is_thread cfg t ≡ true
  is-thread = grind (arith, nat_tests)

  with_room-fits : want_of cfg f t.0 ≡ want.Plain → fits cfg f (choice.Turn t true) ≡ true
  with_room-fits wants = and_from (is_thread cfg t) (fits_with_room (want_of cfg f t.0)) is-thread (ap fits_with_room wants)

  room-fits : (b : BoxId) → want_of cfg f t.0 ≡ want.Room b → (free : Bool) → nat_lt (posted_count b.0 f.shared.calls) (inbox_slots cfg) ≡ free →
      fits cfg f (choice.Turn t free) ≡ true
  room-fits b wants true free = and_from (is_thread cfg t) (fits_with_room (want_of cfg f t.0)) is-thread (ap fits_with_room wants)
  room-fits b wants false full =
      let many : nat_le (inbox_slots cfg) (posted_count b.0 f.shared.calls + other_callers cfg t.0 b.0) ≡ true = grind (arith, nat_tests) in
      and_from (is_thread cfg t) (fits_without_room cfg f t.0 (want_of cfg f t.0)) is-thread (ap (fits_without_room cfg f t.0) wants ∙ many)

  next-fits : want_of cfg f t.0 ≡ want.Next → (oldest : Option Call) → oldest_posted (home_of cfg t.0).0 f.shared.calls ≡ oldest →
      fits cfg f (start_or_idle t oldest) ≡ true
  next-fits wants None none = and_from (is_thread cfg t) (wants_next (want_of cfg f t.0)) is-thread (ap wants_next wants)
  next-fits wants (Some call) found =
      let caller = found-caller cfg (is_posted_to (home_of cfg t.0).0) f.shared.calls call has found in
      let known : is_thread cfg call.ticket.thread ≡ true = grind (arith, nat_tests) in
      and_from (is_thread cfg t && is_thread cfg call.ticket.thread) (wants_next (want_of cfg f t.0))
      (and_from (is_thread cfg t) (is_thread cfg call.ticket.thread) is-thread known) (ap wants_next wants)

  fits-by : (w : Want) → want_of cfg f t.0 ≡ w → fits cfg f (choice_by_want cfg f t w) ≡ true
  fits-by want.Plain wants = with_room-fits wants
  fits-by (want.Room b) wants = room-fits b wants (nat_lt (posted_count b.0 f.shared.calls) (inbox_slots cfg)) refl
  fits-by want.Next wants = next-fits wants (oldest_posted (home_of cfg t.0).0 f.shared.calls) refl

  -- the script's choice of a thread fits
  pub script-fits : fits cfg f (choice_of_thread cfg f t) ≡ true
  script-fits = fits-by (want_of cfg f t.0) refl
