-- What a machine keeps when a thread acts at once, and when a device rings.
use Rattle.std.proofs.Common.{◌≡◌, ◌≢◌, ℕ, ◌+◌, ◌-◌, ◌<◌, ◌≤◌, Bool, true, false, ◌&&◌, cond, Option, Some, None, List, [], ◌∷◌, ◌++◌, refl, sym, ap, ◌∙◌, subst, length, arith, sum_by, nat_eq, nat_lt}
use Rattle.std.specs.List.{slice_get, slice_set}
use Rattle.std.proofs.lemmas.Bool.{and_parts}
use Rattle.std.proofs.lemmas.Bool.Decides.{nat_tests}
use Rattle.std.proofs.lemmas.List.{length-set}
use Rattle.std.proofs.lemmas.List.Sums.{sum_by-set, sum_by_push}
use Rattle.std.proofs.lemmas.Option.{get_or_from_slice_get, slice_get_within}
use Rattle.addr_base.specs.declared.identity.Line.{Line}
use Rattle.addr_base.specs.declared.identity.ThreadId.{ThreadId}
use Rattle.addr_base.specs.declared.identity.Ticket.{Ticket}
use Rattle.flat_model.specs.declared.events.Choice.{Choice}
use Rattle.flat_model.specs.declared.events.Choice.TheVariants as choice
use Rattle.flat_model.specs.declared.events.Drive.{Drive}
use Rattle.flat_model.specs.declared.events.Drive.TheVariants.{Script, Threads}
use Rattle.flat_model.specs.declared.events.Logged.{Logged}
use Rattle.flat_model.specs.declared.events.Reply.{Reply}
use Rattle.flat_model.specs.declared.parts.Config.{Config}
use Rattle.flat_model.specs.Log.{choices_of}
use Rattle.flat_model.specs.Step.{reply_to}
use Rattle.flat_model.specs.Trace.{World, event_items, world_after}
use Rattle.flat_model.specs.Want.{fits, is_owned_line}
use Rattle.flat_model.proofs.Elements.{slice_get-set_other, slice_get-set_same}
use Rattle.machine_core.specs.declared.deeds.Deed.{Deed}
use Rattle.machine_core.specs.declared.deeds.Deed.TheVariants as deed
use Rattle.machine_core.specs.Deeds.{choice_by}
use Rattle.machine_core.specs.Entries.{entry_now}
use Rattle.machine_core.specs.Journal.{JournalState, noted}
use Rattle.machine_core.specs.Kept.{CountsRings, IsKept, events_left, rings_left}
use Rattle.machine_core.specs.Ready.{IsReady}
use Rattle.machine_core.specs.Rings.{ring_by, rings_by}
use Rattle.machine_core.specs.State.{MachineState, after_choice, ended_in, event_room}
use Rattle.machine_core.specs.Turns.{takes_ring}
use Rattle.machine_core.specs.View.{MachineView, after_event, world_of}
use Rattle.machine_core.proofs.MachineLemmas.{after-is, after-kept, choices-more, deed-room, kept-deed, kept-ring}

-- the rings of a log with one event more
rings-more : (cfg : Config) (k : ℕ) (items : List Logged) (w : World) (c : Choice) →
    rings_by k (items ++ event_items cfg w c) ≡ rings_by k items + ring_by k c
rings-more cfg k items w c = ap (sum_by (ring_by k)) (choices-more cfg items w c) ∙ sum_by_push (ring_by k) (choices_of items) c

no-ring : (k : ℕ) (t : ThreadId) (d : Deed) → ring_by k (choice_by t d) ≡ 0
no-ring k t (deed.Turn room) = refl
no-ring k t (deed.Serve None) = refl
no-ring k t (deed.Serve (Some ticket)) = refl

module _ (v : MachineView) (cfg : Config) (drive : Drive) (extra : ℕ) (rings : List ℕ) (j : JournalState) (s : MachineState)
    (is : record { config = cfg; drive = drive; extra = extra; items = j.items; room = j.room } ≡ v)
    (same : s.config ≡ cfg) (kept : IsKept cfg (events_left drive extra rings) j s.world) where
  -- ---- a thread

  module _ (t : ThreadId) (d : Deed) (ready : IsReady v t d) where
    there-here : t.0 < length cfg.threads
    there-here = subst (λ (x : MachineView). t.0 < length x.config.threads) (sym is) ready.there

    live-here : ended_in s.world t.0 ≡ false
    live-here =
        subst (λ (x : World). ended_in x t.0 ≡ false) (sym kept.world)
        (subst (λ (x : MachineView). ended_in (world_of x) t.0 ≡ false) (sym is) ready.live)

    fit-here : fits cfg s.world.flat (choice_by t d) ≡ true
    fit-here =
        subst (λ (x : World). fits cfg x.flat (choice_by t d) ≡ true) (sym kept.world)
        (subst (λ (x : MachineView). fits x.config (world_of x).flat (choice_by t d) ≡ true) (sym is) ready.fit)

    -- what it does fits the state
    pub act-fit : fits s.config s.world.flat (choice_by t d) ≡ true
    act-fit = subst (λ (x : Config). fits x s.world.flat (choice_by t d) ≡ true) (sym same) fit-here

    -- there is room for it
    pub act-room : event_room s.world t.0 ≤ j.room
    act-room = deed-room cfg (events_left drive extra rings) j s.world t d kept there-here live-here fit-here

    -- it is answered as what the log has reached answers it
    pub act-reply : reply_to s.config s.world.flat (choice_by t d) ≡ (entry_now v (choice_by t d)).reply
    act-reply =
        ap (λ (x : Config). reply_to x s.world.flat (choice_by t d)) same
        ∙ ap (λ (x : World). reply_to cfg x.flat (choice_by t d)) kept.world
        ∙ ap (λ (x : MachineView). reply_to x.config (world_of x).flat (choice_by t d)) is

    module _ (j2 : JournalState) (s2 : MachineState)
        (journal : j2 ≡ noted j (event_items s.config s.world (choice_by t d))) (state : s2 ≡ after_choice s (choice_by t d)) where
      -- after it the machine keeps its log
      pub act-kept : IsKept cfg (events_left drive extra rings) j2 s2.world
      act-kept =
          after-kept v cfg drive extra (events_left drive extra rings) j s is same kept (events_left drive extra rings) j2 s2 (λ x f. choice_by t d) journal state
          (kept-deed cfg (events_left drive extra rings) j s.world t d kept there-here live-here fit-here)

      -- and is the machine after it
      pub act-is : record { config = cfg; drive = drive; extra = extra; items = j2.items; room = j2.room } ≡ after_event v (choice_by t d)
      act-is =
          after-is v cfg drive extra (events_left drive extra rings) j s is same kept (events_left drive extra rings) j2 s2 (λ x f. choice_by t d) journal state extra
          ∙ ap (λ n. record (after_event v (choice_by t d)) { extra = n }) (ap (λ (x : MachineView). x.extra) is)

      -- no device has rung
      pub act-counts : CountsRings cfg drive j.items rings → CountsRings cfg drive j2.items rings
      act-counts counts = record {
        devices = counts.devices;
        counted = λ threads k made at.
            counts.counted threads k made at
            ∙ omega (arith, rings-more s.config k j.items s.world (choice_by t d), no-ring k t d)
            ∙ sym (ap (λ (x : JournalState). rings_by k x.items) journal);
      }

  -- ---- a device

  module _ (threads : v.drive ≡ Threads) (line : Line) (device made : ℕ) (counts : CountsRings cfg drive j.items rings)
      (at : slice_get rings device ≡ Some made) where
    drive-here : drive ≡ Threads
    drive-here = ap (λ (x : MachineView). x.drive) is ∙ threads

    made-is : made ≡ rings_by device j.items
    made-is = counts.counted drive-here device made at

    -- whether it may ring
    pub ring-taken : (is_owned_line cfg line.0 && nat_lt made extra) ≡ takes_ring v line device
    ring-taken = ap (λ m. is_owned_line cfg line.0 && nat_lt m extra) made-is ∙ ap (λ (x : MachineView). takes_ring x line device) is

    module _ (takes : takes_ring v line device ≡ true) where
      both : (is_owned_line cfg line.0 ≡ true) × (nat_lt made extra ≡ true)
      both = and_parts (is_owned_line cfg line.0) (nat_lt made extra) (ring-taken ∙ takes)

      -- one more of its rings can be counted
      pub fewer : made < extra
      fewer = let few = both.1 in grind (arith, nat_tests)

      -- a box of the state's configuration owns the line
      pub owned-here : is_owned_line s.config line.0 ≡ true
      owned-here = ap (λ (x : Config). is_owned_line x line.0) same ∙ both.0

      left-fall : 1 + rings_left extra (slice_set rings device (made + 1)) ≤ rings_left extra rings
      left-fall =
          let sums = sum_by-set (λ (m : ℕ). extra - m) rings device (made + 1) 0 (slice_get_within rings device made at) in
          let here = get_or_from_slice_get rings device made 0 at in
          omega (arith, sums, ap (λ m. extra - m) here, fewer)

      events-fall : 1 + events_left drive extra (slice_set rings device (made + 1)) ≤ events_left drive extra rings
      events-fall = subst (λ x. 1 + events_left x extra (slice_set rings device (made + 1)) ≤ events_left x extra rings) (sym drive-here) left-fall

      -- there is room for a ring
      pub ring-room-here : 1 ≤ j.room
      ring-room-here = omega (arith, kept.room, events-fall)

      module _ (j2 : JournalState) (s2 : MachineState)
          (journal : j2 ≡ noted j (event_items s.config s.world (choice.Ring line device))) (state : s2 ≡ after_choice s (choice.Ring line device)) where
        -- after it the machine keeps its log
        pub rung-kept : IsKept cfg (events_left drive extra (slice_set rings device (made + 1))) j2 s2.world
        rung-kept =
            after-kept v cfg drive extra (events_left drive extra rings) j s is same kept (events_left drive extra (slice_set rings device (made + 1))) j2 s2
            (λ x f. choice.Ring line device) journal state
            (kept-ring cfg (events_left drive extra rings) j s.world line device kept both.0 (events_left drive extra (slice_set rings device (made + 1))) events-fall)

        -- and is the machine after it
        pub rung-is : record { config = cfg; drive = drive; extra = extra; items = j2.items; room = j2.room } ≡ after_event v (choice.Ring line device)
        rung-is =
            after-is v cfg drive extra (events_left drive extra rings) j s is same kept (events_left drive extra rings) j2 s2 (λ x f. choice.Ring line device) journal state extra
            ∙ ap (λ n. record (after_event v (choice.Ring line device)) { extra = n }) (ap (λ (x : MachineView). x.extra) is)

        rings-now : (k : ℕ) → rings_by k j2.items ≡ rings_by k j.items + ring_by k (choice.Ring line device)
        rings-now k = ap (λ (x : JournalState). rings_by k x.items) journal ∙ rings-more s.config k j.items s.world (choice.Ring line device)

        -- its ring is counted
        pub rung-counts : CountsRings cfg drive j2.items (slice_set rings device (made + 1))
        rung-counts = record {
          devices = length-set rings device (made + 1) ∙ counts.devices;
          counted = λ running k m now. by_device running k m now (nat_eq device k) refl;
        }
          where
            some-same : (x y : ℕ) → Some x ≡ Some y → x ≡ y
            some-same x y e = cc

            by_device : drive ≡ Threads → (k m : ℕ) → slice_get (slice_set rings device (made + 1)) k ≡ Some m → (b : Bool) → nat_eq device k ≡ b → m ≡ rings_by k j2.items
            by_device running k m now true e =
                let one : k ≡ device = grind (arith, nat_tests) in
                let new : m ≡ made + 1 =
                some-same m (made + 1) (sym now ∙ ap (slice_get (slice_set rings device (made + 1))) one
                ∙ slice_get-set_same rings device (made + 1) (slice_get_within rings device made at)) in
                omega (arith, new, made-is, ap (λ n. rings_by n j.items) one, rings-now k, ap {B = ℕ} (λ b. cond b 1 0) e)
            by_device running k m now false e =
                let other : k ≢ device = λ one. let yes : nat_eq device k ≡ true = grind (arith, nat_tests) in absurd (let no : true ≡ false = sym yes ∙ e in cc) in
                let old : m ≡ rings_by k j.items = counts.counted running k m (sym (slice_get-set_other rings device k (made + 1) other) ∙ now) in
                omega (arith, old, rings-now k, ap {B = ℕ} (λ b. cond b 1 0) e)
