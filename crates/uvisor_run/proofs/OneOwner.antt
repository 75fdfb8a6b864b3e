-- In every state that a legal log reaches a frame has one owner, and owners change at page calls alone.
use Rattle.std.proofs.Common.{◌≡◌, ◌≢◌, ℕ, zero, suc, ◌+◌, ◌-◌, ◌*◌, ◌<◌, ◌/◌, Bool, true, false, List, [], ◌∷◌, length, Option, Some, None, refl, sym, ◌∙◌, ap, subst, arith, inl, inr}
use Rattle.std.specs.Prelude.{◌&&◌, ◌||◌, IfSome, nat_eq, nat_le, nat_lt, slice_get, slice_set, unwrap_or}
use Rattle.std.specs.List.{AllByRecursion, list_any}
use Rattle.std.specs.Option.{option_map_or}
use Rattle.std.proofs.lemmas.Bool.{and_parts, cases_Bool, eqb-false, eqb-true, false≢true, or_cases, true≢false}
use Rattle.std.proofs.lemmas.List.{length-replicate, length-set}
use Rattle.std.proofs.lemmas.Option.{none-some}
use Rattle.addr_base.specs.declared.identity.BoxId.{BoxId}
use Rattle.addr_base.specs.declared.rights.Kind.{Kind}
use Rattle.flat_model.specs.declared.boards.HeapPart.{HeapPart}
use Rattle.flat_model.specs.declared.events.Choice.{Choice}
use Rattle.flat_model.specs.declared.events.Entry.{Entry}
use Rattle.flat_model.specs.declared.logs.Log.{Log}
use Rattle.flat_model.specs.declared.parts.BoxPart.{BoxPart}
use Rattle.flat_model.specs.declared.parts.Config.{Config}
use Rattle.flat_model.specs.declared.states.Flat.{Flat}
use Rattle.flat_model.specs.declared.states.Shared.{Shared}
use Rattle.flat_model.specs.Access.{holds, in_heap, is_aligned, is_data, item_holds, items_at, owned_by, owner_of, owns}
use Rattle.flat_model.specs.Legal.{IsLegal}
use Rattle.flat_model.specs.Log.{choices_of, entries_of}
use Rattle.flat_model.specs.OneLog.{entries_of_run}
use Rattle.flat_model.specs.Pages.{with_owner}
use Rattle.flat_model.specs.Placing.{common_range}
use Rattle.flat_model.specs.Run.{opening_state}
use Rattle.flat_model.specs.Sound.{IsBox, IsHeap, IsSound}
use Rattle.flat_model.specs.Step.{empties_slots, reply_to, state_after}
use Rattle.flat_model.proofs.Elements.{each_weaker, slice_get-set_other}
use Rattle.flat_model.proofs.FreeFrames.{length-with_owner}
use Rattle.flat_model.proofs.HeldBytes.{in_pages-own}
use Rattle.flat_model.proofs.LegalLogs.{entries-run}
use Rattle.flat_model.proofs.NamedChoices.{HasNamedLines}
use Rattle.flat_model.proofs.NamedReplies.{HasLines}
use Rattle.flat_model.proofs.Placed.{in_heap_range}
use Rattle.box_isolation.proofs.ListedBytes.{in_items}
use Rattle.box_isolation.proofs.SeenBytes.{items-byte}
use Rattle.box_isolation.proofs.Settled.{items-beside}
use Rattle.uvisor_run.specs.FrameLaws.{HasOneOwner, KeepOneOwner, MovesOwners, acting_box, frame_count, is_among, is_in_heap}
use Rattle.uvisor_run.proofs.FrameEvents.{EventMoves, IsGiving, IsTaking, event-moves}
use Rattle.uvisor_run.proofs.FreeOnes.{IsFree, each-among, each-free, with_owner-given, with_owner-other}

-- ---- one state

one-owner : (owner : Option BoxId) (b c : ℕ) → owned_by b owner ≡ true → owned_by c owner ≡ true → b ≡ c
one-owner None b c first second = absurd (false≢true first)
one-owner (Some id) b c first second = sym (eqb-true id.0 b first) ∙ eqb-true id.0 c second

page-owner : (h : HeapPart) (owners : List (Option BoxId)) (b a : ℕ) → 0 < h.page → in_heap (owned_by b) (Some h) a 1 owners ≡ true →
    owns owners b ((a - h.base) / h.page) ≡ true
page-owner h owners b a some page =
    (and_parts (nat_le h.base a && nat_lt a (h.base + length owners * h.page)) (owns owners b ((a - h.base) / h.page))
    (sym (in_pages-own b h.base h.page a owners some) ∙ page)).1

module _ (cfg : Config) (is_sound : IsSound cfg) (owners : List (Option BoxId)) where
  -- no box holds a byte of the heap by an item
  no-item : (heap : Option HeapPart) → cfg.board.heap ≡ heap → (b a : ℕ) (kind : Kind) → is_in_heap heap a ≡ true → list_any (item_holds a 1 kind) (items_at cfg b) ≡ true → ⊥
  no-item heap is b a kind inside item = by_part (slice_get cfg.boxes b) refl item
    where
      by_part : (o : Option BoxPart) → slice_get cfg.boxes b ≡ o → list_any (item_holds a 1 kind) (option_map_or (λ (part : BoxPart). part.items) o []) ≡ true → ⊥
      by_part None none item = false≢true item
      by_part (Some part) found item =
          let place : a + 0 ≡ a = omega arith in
          let has : in_items part.items a ≡ true = subst (λ x. in_items part.items x ≡ true) place (items-byte part.items a 1 0 kind (omega arith) item) in
          by_heap heap is inside (items-beside cfg is_sound b part found a has)
        where
          by_heap : (heap : Option HeapPart) → cfg.board.heap ≡ heap → is_in_heap heap a ≡ true → in_heap_range cfg.board.heap a ≡ false → ⊥
          by_heap None is inside beside = false≢true inside
          by_heap (Some h) is inside beside = false≢true (sym beside ∙ ap (λ (h : Option HeapPart). in_heap_range h a) is ∙ inside)

  held-page : (b a : ℕ) (kind : Kind) → is_in_heap cfg.board.heap a ≡ true → holds cfg owners b a 1 kind ≡ true → in_heap (owned_by b) cfg.board.heap a 1 owners ≡ true
  held-page b a kind inside held =
      let it = and_parts (is_aligned a 1) (list_any (item_holds a 1 kind) (items_at cfg b) || (is_data kind && in_heap (owned_by b) cfg.board.heap a 1 owners)) held in
      elim (or_cases (list_any (item_holds a 1 kind) (items_at cfg b)) (is_data kind && in_heap (owned_by b) cfg.board.heap a 1 owners) it.1) [
        | inl item ↦ absurd (no-item cfg.board.heap refl b a kind inside item)
        | inr page ↦ (and_parts (is_data kind) (in_heap (owned_by b) cfg.board.heap a 1 owners) page).1
      ]

  one-box : (heap : Option HeapPart) → IfSome heap (IsHeap cfg.board.sram) → (a b c : ℕ) → in_heap (owned_by b) heap a 1 owners ≡ true → in_heap (owned_by c) heap a 1 owners ≡ true → b ≡ c
  one-box None it a b c first second = absurd (false≢true first)
  one-box (Some h) it a b c first second =
      let some : 0 < h.page = omega (arith, it.least_page) in
      one-owner (owner_of owners ((a - h.base) / h.page)) b c (page-owner h owners b a some first) (page-owner h owners c a some second)

  HasOneOwner-from : length owners ≡ frame_count cfg.board.heap → HasOneOwner cfg owners
  HasOneOwner-from places = record {
    places = places;
    one = λ frame b c first second. one-owner (owner_of owners frame) b c first second;
    held = λ a b c kind other inside first second.
        one-box cfg.board.heap is_sound.board.heap a b c (held-page b a kind inside first) (held-page c a other inside second);
  }

-- ---- one event

owner_at : (owners : List (Option BoxId)) (frame : ℕ) (owner : Option BoxId) → slice_get owners frame ≡ Some owner → owner_of owners frame ≡ owner
owner_at owners frame owner found = ap (λ (o : Option (Option BoxId)). unwrap_or o None) found

owner_same : (new old : List (Option BoxId)) (frame : ℕ) → slice_get new frame ≡ slice_get old frame → owner_of new frame ≡ owner_of old frame
owner_same new old frame same = ap (λ (o : Option (Option BoxId)). unwrap_or o None) same

owner_cleared : (owners : List (Option BoxId)) (frame : ℕ) → owner_of (slice_set owners frame None) frame ≡ None
owner_cleared [] frame = refl
owner_cleared (owner ∷ owners) zero = refl
owner_cleared (owner ∷ owners) (suc frame) = owner_cleared owners frame

abbrev box_with : ℕ → BoxId
box_with n = record { 0 = n }

same_box : (b c : BoxId) → b.0 ≡ c.0 → b ≡ c
same_box b c same = ap box_with same

-- the owners are as they were
quiet-owners : (cfg : Config) (old new : List (Option BoxId)) (empties : Bool) (entry : Entry) → new ≡ old → MovesOwners cfg old new empties entry
quiet-owners cfg old new empties entry same = record {
  kept = λ none. same;
  gained = λ frame b now before. absurd (before (sym (ap (λ owners. owner_of owners frame) same) ∙ now));
  lost = λ frame b before now. absurd (now (ap (λ owners. owner_of owners frame) same ∙ before));
}

module _ (cfg : Config) (home : BoxId) (part : BoxPart) (old new : Shared) (empties : Bool) (entry : Entry) (acts : acting_box cfg entry.choice ≡ Some home) (done : empties ≡ true) where
  giving-owners : IsGiving cfg home.0 part old new entry.reply → MovesOwners cfg old.owners new.owners empties entry
  giving-owners giving = record {
    kept = λ none. absurd (true≢false (sym done ∙ none));
    gained = λ frame b now before. elim (cases_Bool (is_among frame giving.frames)) [
      | inl on ↦ (acts ∙ sym (on-owner frame on) ∙ now, ap (is_among frame) giving.told ∙ on)
      | inr off ↦ absurd (before (sym (off-owner frame off) ∙ now))
    ];
    lost = λ frame b before now. elim (cases_Bool (is_among frame giving.frames)) [
      | inl on ↦ absurd (none-some b (sym (owner_at old.owners frame None (each-among (IsFree old.owners) giving.frames frame free on)) ∙ before))
      | inr off ↦ absurd (now (off-owner frame off ∙ before))
    ];
  }
    where
      is : new.owners ≡ with_owner (Some home) giving.frames old.owners
      is = ap (λ (m : Shared). m.owners) giving.shared

      free : AllByRecursion (IsFree old.owners) giving.frames
      free = subst (AllByRecursion (IsFree old.owners)) (sym giving.first) (each-free giving.count old.owners)

      on-owner : (frame : ℕ) → is_among frame giving.frames ≡ true → owner_of new.owners frame ≡ Some home
      on-owner frame on =
          ap (λ owners. owner_of owners frame) is
          ∙ owner_at (with_owner (Some home) giving.frames old.owners) frame (Some home)
          (each-among (λ f. slice_get (with_owner (Some home) giving.frames old.owners) f ≡ Some (Some home)) giving.frames frame
          (with_owner-given (Some home) giving.frames old.owners free) on)

      off-owner : (frame : ℕ) → is_among frame giving.frames ≡ false → owner_of new.owners frame ≡ owner_of old.owners frame
      off-owner frame off =
          ap (λ owners. owner_of owners frame) is
          ∙ owner_same (with_owner (Some home) giving.frames old.owners) old.owners frame (with_owner-other (Some home) giving.frames old.owners frame off)

  taking-owners : IsTaking home.0 old new entry.reply → MovesOwners cfg old.owners new.owners empties entry
  taking-owners taking = record {
    kept = λ none. absurd (true≢false (sym done ∙ none));
    gained = λ frame b now before. elim (cases_Bool (nat_eq taking.frame frame)) [
      | inl here ↦ absurd (none-some b (sym (here-owner frame (eqb-true taking.frame frame here)) ∙ now))
      | inr there ↦ absurd (before (sym (there-owner frame (eqb-false taking.frame frame there)) ∙ now))
    ];
    lost = λ frame b before now. elim (cases_Bool (nat_eq taking.frame frame)) [
      | inl here ↦ (acts ∙ ap Some (sym (owned frame b (eqb-true taking.frame frame here) before)), taking.done)
      | inr there ↦ absurd (now (there-owner frame (eqb-false taking.frame frame there) ∙ before))
    ];
  }
    where
      here-owner : (frame : ℕ) → taking.frame ≡ frame → owner_of new.owners frame ≡ None
      here-owner frame here =
          ap (λ owners. owner_of owners frame) taking.owners
          ∙ ap (λ f. owner_of (slice_set old.owners f None) frame) here
          ∙ owner_cleared old.owners frame

      there-owner : (frame : ℕ) → taking.frame ≢ frame → owner_of new.owners frame ≡ owner_of old.owners frame
      there-owner frame there =
          ap (λ owners. owner_of owners frame) taking.owners
          ∙ owner_same (slice_set old.owners taking.frame None) old.owners frame
          (slice_get-set_other old.owners taking.frame frame None (λ same. there (sym same)))

      owned : (frame : ℕ) (b : BoxId) → taking.frame ≡ frame → owner_of old.owners frame ≡ Some b → b ≡ home
      owned frame b here before =
          let own : owned_by home.0 (Some b) ≡ true = sym (ap (owned_by home.0) (ap (owner_of old.owners) here ∙ before)) ∙ taking.own in
          same_box b home (eqb-true b.0 home.0 own)

-- what an event does to the owners
event-owners : (cfg : Config) (f : Flat) (c : Choice) → EventMoves cfg f c →
    MovesOwners cfg f.shared.owners (state_after cfg f c).shared.owners (empties_slots cfg f c) (record { choice = c; reply = reply_to cfg f c })
event-owners cfg f c (inl quiet) = quiet-owners cfg f.shared.owners (state_after cfg f c).shared.owners (empties_slots cfg f c) (record { choice = c; reply = reply_to cfg f c }) quiet.owners
event-owners cfg f c (inr event) = elim event.moves [
  | inl giving ↦ giving-owners cfg event.actor.program.home event.actor.part f.shared (state_after cfg f c).shared (empties_slots cfg f c) (record { choice = c; reply = reply_to cfg f c }) event.acts event.empties giving
  | inr taking ↦ taking-owners cfg event.actor.program.home event.actor.part f.shared (state_after cfg f c).shared (empties_slots cfg f c) (record { choice = c; reply = reply_to cfg f c }) event.acts event.empties taking
]

-- an event leaves as many places for owners
pub event-places : (cfg : Config) (f : Flat) (c : Choice) → EventMoves cfg f c → length (state_after cfg f c).shared.owners ≡ length f.shared.owners
event-places cfg f c (inl quiet) = ap length quiet.owners
event-places cfg f c (inr event) = elim event.moves [
  | inl giving ↦ ap (λ (m : Shared). length m.owners) giving.shared ∙ length-with_owner (Some event.actor.program.home) giving.frames f.shared.owners
  | inr taking ↦ ap length taking.owners ∙ length-set f.shared.owners taking.frame None
]

-- ---- whole logs

-- the lines of a sound configuration are named
pub lines-sound : (cfg : Config) → IsSound cfg → HasNamedLines cfg
lines-sound cfg is_sound =
    each_weaker (IsBox cfg.board (common_range cfg.board cfg.boxes)) (λ (part : BoxPart). HasLines part.irqs) (λ part it. it.lines) cfg.boxes is_sound.boxes

-- at the start there is a place for the owner of each frame
pub places-opening : (cfg : Config) → length (opening_state cfg).shared.owners ≡ frame_count cfg.board.heap
unfolding opening_state
places-opening cfg = length-replicate (frame_count cfg.board.heap) None

run-one_owner : (cfg : Config) (f : Flat) (cs : List Choice) → IsSound cfg → length f.shared.owners ≡ frame_count cfg.board.heap →
    KeepOneOwner cfg f (entries_of_run cfg f cs)
run-one_owner cfg f [] is_sound places = HasOneOwner-from cfg is_sound f.shared.owners places
run-one_owner cfg f (c ∷ cs) is_sound places =
    let moves = event-moves cfg f c (lines-sound cfg is_sound) in (
      HasOneOwner-from cfg is_sound f.shared.owners places,
      event-owners cfg f c moves,
      run-one_owner cfg (state_after cfg f c) cs is_sound (event-places cfg f c moves ∙ places),
    )

-- the entries of a legal log are those of a run
pub entries-legal : (cfg : Config) (log : Log) → IsLegal cfg log → entries_of log.items ≡ entries_of_run cfg (opening_state cfg) (choices_of log.items)
entries-legal cfg log legal = entries-run cfg (opening_state cfg) (entries_of log.items) legal.flat.replies

-- each state of a legal log has one owner a frame
pub legal-one_owner : (cfg : Config) (log : Log) → IsSound cfg → IsLegal cfg log → KeepOneOwner cfg (opening_state cfg) (entries_of log.items)
legal-one_owner cfg log is_sound legal =
    subst (KeepOneOwner cfg (opening_state cfg)) (sym (entries-legal cfg log legal))
    (run-one_owner cfg (opening_state cfg) (choices_of log.items) is_sound (places-opening cfg))
