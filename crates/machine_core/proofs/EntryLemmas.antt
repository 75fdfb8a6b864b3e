-- An event adds one entry to those of its number.
use Rattle.std.proofs.Common.{◌≡◌, ◌≢◌, ℕ, ◌+◌, Bool, true, false, cond, List, [], ◌∷◌, ◌++◌, map, refl, sym, ap, ◌∙◌, subst, length, arith, append-nil, eq-eqb}
use Rattle.std.specs.Prelude.{eqb, filter, take}
use Rattle.std.proofs.lemmas.Bool.Decides.{nat_tests}
use Rattle.std.proofs.lemmas.List.Elements.{filter-append, filter_map-append}
use Rattle.std.proofs.Math.Seq.{take-append_seam, take-length}
use Rattle.addr_base.specs.declared.identity.ThreadId.{ThreadId}
use Rattle.flat_model.specs.declared.events.Choice.{Choice}
use Rattle.flat_model.specs.declared.events.Entry.{Entry}
use Rattle.flat_model.specs.declared.events.Logged.{Logged}
use Rattle.flat_model.specs.declared.events.Noted.{Noted}
use Rattle.flat_model.specs.declared.parts.Config.{Config}
use Rattle.flat_model.specs.declared.states.Flat.{Flat}
use Rattle.flat_model.specs.Log.{choices_of, entries_of, entry_of}
use Rattle.flat_model.specs.Run.{opening_state, state_after_all}
use Rattle.flat_model.specs.Step.{state_after}
use Rattle.flat_model.specs.Trace.{event_items, opening_world, world_reached}
use Rattle.flat_model.proofs.TraceLemmas.{entries_of-event, flat_after_all}
use Rattle.machine_core.specs.declared.deeds.Deed.{Deed}
use Rattle.machine_core.specs.declared.deeds.Deed.TheVariants as deed
use Rattle.machine_core.specs.declared.stepping.MachineFixed.{MachineFixed}
use Rattle.machine_core.specs.Deeds.{choice_by}
use Rattle.machine_core.specs.Entries.{HasGrown, entry_now, noted_entry, noted_from, noted_now, noted_of, number_of, numbered_entries}
use Rattle.machine_core.specs.View.{MachineView, after_event, items_of, with_event, world_of}
use Rattle.std.proofs.Common.{Option, Some, None}

noted-append : (cfg : Config) (f : Flat) (xs ys : List Entry) →
    noted_from cfg f (xs ++ ys) ≡ noted_from cfg f xs ++ noted_from cfg (state_after_all cfg f (map (λ (e : Entry). e.choice) xs)) ys
noted-append cfg f [] ys = refl
noted-append cfg f (x ∷ xs) ys = ap (λ ns. noted_entry cfg f x ∷ ns) (noted-append cfg (state_after cfg f x.choice) xs ys)

-- the one entry of an event
entries-event : (v : MachineView) (c : Choice) → entries_of (items_of v c) ≡ entry_now v c ∷ []
entries-event v c = ap entries_of (sym (append-nil (items_of v c))) ∙ entries_of-event v.config (world_of v) c []

-- an event adds its entry to those of the log
noted-event : (v : MachineView) (c : Choice) → noted_of v.config (with_event v c) ≡ noted_of v.config v.items ++ noted_now v c ∷ []
noted-event v c =
    ap (noted_from v.config (opening_state v.config)) (filter_map-append entry_of v.items (items_of v c))
    ∙ noted-append v.config (opening_state v.config) (entries_of v.items) (entries_of (items_of v c))
    ∙ ap (λ es. noted_of v.config v.items ++ noted_from v.config (state_after_all v.config (opening_state v.config) (choices_of v.items)) es) (entries-event v c)
    ∙ ap (λ f. noted_of v.config v.items ++ noted_from v.config f (entry_now v c ∷ [])) (sym (flat_after_all v.config (opening_world v.config) (choices_of v.items)))

numbered : (v : MachineView) (k : ℕ) → Noted → Bool
numbered v k note = eqb (number_of v.config note.entry.choice) k

only : (v : MachineView) (c : Choice) (k : ℕ) (b : Bool) → eqb (number_of v.config c) k ≡ b →
    numbered_entries (after_event v c) k ≡ numbered_entries v k ++ cond b (noted_now v c ∷ []) []
only v c k b is =
    ap (filter (λ note. eqb (number_of v.config note.entry.choice) k)) (noted-event v c)
    ∙ filter-append (λ (note : Noted). eqb (number_of v.config note.entry.choice) k) (noted_of v.config v.items) (noted_now v c ∷ [])
    ∙ ap (λ (t : Bool). numbered_entries v k ++ cond t (noted_now v c ∷ []) []) is

-- the entries of its number
pub event-own : (v : MachineView) (c : Choice) →
    numbered_entries (after_event v c) (number_of v.config c) ≡ numbered_entries v (number_of v.config c) ++ noted_now v c ∷ []
event-own v c = only v c (number_of v.config c) true (eq-eqb (number_of v.config c) (number_of v.config c) refl)

-- and of every other number
pub event-others : (v : MachineView) (c : Choice) (k : ℕ) → k ≢ number_of v.config c → numbered_entries (after_event v c) k ≡ numbered_entries v k
event-others v c k other =
    let apart : eqb (number_of v.config c) k ≡ false = grind (arith, nat_tests) in
    only v c k false apart ∙ append-nil (numbered_entries v k)

-- only the entries of its number have grown
pub event-grown : (v : MachineView) (c : Choice) → HasGrown v (after_event v c) (number_of v.config c)
event-grown v c = record {
  fixed = refl;
  others = event-others v c;
  grew = ap (take (length (numbered_entries v (number_of v.config c)))) (event-own v c)
      ∙ take-append_seam (numbered_entries v (number_of v.config c)) (noted_now v c ∷ []);
}

-- where nothing changed nothing has grown
pub same-grown : (v : MachineView) (k : ℕ) → HasGrown v v k
same-grown v k = record { fixed = refl; others = λ j other. refl; grew = take-length (numbered_entries v k) }

number-deed : (cfg : Config) (t : ThreadId) (d : Deed) → number_of cfg (choice_by t d) ≡ t.0
number-deed cfg t (deed.Turn room) = refl
number-deed cfg t (deed.Serve None) = refl
number-deed cfg t (deed.Serve (Some ticket)) = refl

-- what a thread does adds to its own entries
pub deed-grown : (v : MachineView) (t : ThreadId) (d : Deed) → HasGrown v (after_event v (choice_by t d)) t.0
deed-grown v t d = subst (HasGrown v (after_event v (choice_by t d))) (number-deed v.config t d) (event-grown v (choice_by t d))

begins : {X : Type 0} (xs ys zs : List X) → take (length xs) ys ≡ xs → take (length ys) zs ≡ ys → take (length xs) zs ≡ xs
begins [] ys zs one two = refl
begins (x ∷ xs) [] zs one two = absurd (let e : [] ≡ x ∷ xs = one in cc)
begins (x ∷ xs) (y ∷ ys) [] one two = absurd (let e : [] ≡ y ∷ ys = two in cc)
begins (x ∷ xs) (y ∷ ys) (z ∷ zs) one two =
    let first : y ∷ take (length xs) ys ≡ x ∷ xs = one in
    let second : z ∷ take (length ys) zs ≡ y ∷ ys = two in
    let rest : take (length xs) ys ≡ xs = cc in
    let more : take (length ys) zs ≡ ys = cc in
    let head : z ≡ x = cc in
    ap (λ l. z ∷ l) (begins xs ys zs rest more) ∙ ap (λ h. h ∷ xs) head

-- what grew twice has grown
pub grown-again : (u v w : MachineView) (k : ℕ) → HasGrown u v k → HasGrown v w k → HasGrown u w k
grown-again u v w k first second = record {
  fixed = second.fixed ∙ first.fixed;
  others = λ j other. second.others j other ∙ first.others j other;
  grew = begins (numbered_entries u k) (numbered_entries v k) (numbered_entries w k) first.grew second.grew;
}

-- the drive stays
pub grown-drive : (u v : MachineView) (k : ℕ) → HasGrown u v k → v.drive ≡ u.drive
grown-drive u v k grown = ap (λ (x : MachineFixed). x.drive) grown.fixed

-- and so does the configuration
pub grown-config : (u v : MachineView) (k : ℕ) → HasGrown u v k → v.config ≡ u.config
grown-config u v k grown = ap (λ (x : MachineFixed). x.config) grown.fixed
