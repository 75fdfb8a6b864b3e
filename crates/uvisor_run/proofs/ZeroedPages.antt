-- In a legal log the pages that a box gets have zero bytes: they are blanked, and the table lies beside them.
use Rattle.std.proofs.Common.{◌≡◌, ℕ, zero, suc, ◌+◌, ◌-◌, ◌*◌, ◌<◌, ◌≤◌, Bool, true, false, List, [], ◌∷◌, length, Option, Some, None, refl, sym, ◌∙◌, ap, subst, arith, inl, inr, ◌⊎◌}
use Rattle.std.specs.Prelude.{◌&&◌, ◌||◌, nat_eq, nat_le, nat_lt, slice_get, slice_index, slice_set}
use Rattle.std.specs.List.{AllByRecursion, list_any}
use Rattle.std.proofs.lemmas.Bool.{and_from, and_parts, cases_Bool, eqb-false, eqb-true, false_from_ne_true, false≢true, le-leb, lt-leb, lt-ltb, or_cases, or_left, or_right}
use Rattle.std.proofs.lemmas.List.Folds.{list_any-append}
use Rattle.std.proofs.lemmas.Nat.{mul-le}
use Rattle.std.proofs.lemmas.Option.{slice_get_within}
use Rattle.addr_base.specs.declared.identity.BoxId.{BoxId}
use Rattle.addr_base.specs.declared.rights.Kind.TheVariants.{Write}
use Rattle.addr_base.specs.Range.{in_range}
use Rattle.flat_model.specs.declared.boards.Board.{Board}
use Rattle.flat_model.specs.declared.boards.HeapPart.{HeapPart}
use Rattle.flat_model.specs.declared.events.Choice.{Choice}
use Rattle.flat_model.specs.declared.events.Reply.{Reply}
use Rattle.flat_model.specs.declared.logs.Log.{Log}
use Rattle.flat_model.specs.declared.parts.BoxPart.{BoxPart}
use Rattle.flat_model.specs.declared.parts.Config.{Config}
use Rattle.flat_model.specs.declared.parts.Item.{Item}
use Rattle.flat_model.specs.declared.states.Flat.{Flat}
use Rattle.flat_model.specs.declared.states.Memory.{Memory}
use Rattle.flat_model.specs.declared.states.Shared.{Shared}
use Rattle.flat_model.specs.Access.{in_heap, in_pages, is_aligned, is_data, item_holds, may_access, owned_by}
use Rattle.flat_model.specs.Cells.{Cell, cells_of, zero_cells}
use Rattle.flat_model.specs.Legal.{IsLegal}
use Rattle.flat_model.specs.Log.{ascends, choices_of, entries_of}
use Rattle.flat_model.specs.Memory.{byte_at, put_byte, put_cells}
use Rattle.flat_model.specs.OneLog.{entries_of_run}
use Rattle.flat_model.specs.Pages.{blank_cells, may_write_words, page_address, page_size, table_cells, with_owner}
use Rattle.flat_model.specs.Run.{opening_state}
use Rattle.flat_model.specs.Sound.{IsSound}
use Rattle.flat_model.specs.Step.{reply_to, state_after}
use Rattle.flat_model.proofs.Elements.{each-append, each_weaker}
use Rattle.flat_model.proofs.PageLemmas.{in_pages_past}
use Rattle.flat_model.proofs.Placed.{in_heap_range}
use Rattle.box_isolation.proofs.ListedBytes.{in_items}
use Rattle.box_isolation.proofs.MeetsMemory.{writes-zero_cells}
use Rattle.box_isolation.proofs.NotedBytes.{byte-put_cells_other, byte-put_other, writes}
use Rattle.box_isolation.proofs.SeenBytes.{heap-byte, items-byte}
use Rattle.box_isolation.proofs.Settled.{items-beside}
use Rattle.box_isolation.proofs.SparesRows.{written-cells_of}
use Rattle.uvisor_run.specs.FrameLaws.{AllArriveZeroed, ArriveZeroed, IsBlankPage, acting_box, frame_count, given_by, is_among}
use Rattle.uvisor_run.proofs.FrameEvents.{EventMoves, IsGiving, event-moves}
use Rattle.uvisor_run.proofs.FreeOnes.{IsFree, ascends-free, below-free, each-among, each-free, each-from_among, with_owner-given}
use Rattle.uvisor_run.proofs.OneOwner.{entries-legal, event-places, lines-sound, places-opening}

-- ---- zero bytes

index-blank : (xs : List ℕ) (i : ℕ) → slice_index (slice_set xs i 0) i ≡ 0
index-blank [] i = refl
index-blank (x ∷ xs) zero = refl
index-blank (x ∷ xs) (suc i) = index-blank xs i

byte-blank : (board : Board) (m : Memory) (a : ℕ) → byte_at board (put_byte board m (record { at = a; value = 0 })) a ≡ 0
unfolding byte_at put_byte
byte-blank board m a = elim (cases_Bool (in_range board.flash a)) [
  | inl f ↦ rw f (index-blank m.flash (a - board.flash.base))
  | inr nf ↦ elim (cases_Bool (in_range board.sram a)) [
    | inl s ↦ rw (nf, s) (index-blank m.sram (a - board.sram.base))
    | inr ns ↦ elim (cases_Bool (in_range board.peripherals a)) [
      | inl p ↦ rw (nf, ns, p) (index-blank m.peripherals (a - board.peripherals.base))
      | inr np ↦ rw (nf, ns, np) refl
    ]
  ]
]

abbrev AreZeros : List Cell → Type 0
AreZeros cells = AllByRecursion (λ (cell : Cell). cell.value ≡ 0) cells

-- a byte that was 0, or that one of these writes, is 0 once they are written
put-zeros : (board : Board) (m : Memory) (cells : List Cell) (a : ℕ) → AreZeros cells → (byte_at board m a ≡ 0) ⊎ (writes cells a ≡ true) →
    byte_at board (put_cells board m cells) a ≡ 0
put-zeros board m [] a each (inl before) = before
put-zeros board m [] a each (inr written) = absurd (false≢true written)
put-zeros board m (cell ∷ cells) a each agree = elim (cases_Bool (nat_eq cell.at a)) [
  | inl here ↦
      let blank : byte_at board (put_byte board m cell) cell.at ≡ 0 =
      subst (λ v. byte_at board (put_byte board m (record { at = cell.at; value = v })) cell.at ≡ 0) (sym each.0) (byte-blank board m cell.at) in
      put-zeros board (put_byte board m cell) cells a each.1
      (inl (subst (λ x. byte_at board (put_byte board m cell) x ≡ 0) (eqb-true cell.at a here) blank))
  | inr there ↦ put-zeros board (put_byte board m cell) cells a each.1 (elim agree [
    | inl before ↦ inl (byte-put_other board m cell a (eqb-false cell.at a there) ∙ before)
    | inr written ↦ inr (sym (rw there refl) ∙ written)
  ])
]

zeros-page : (at n : ℕ) → AreZeros (zero_cells at n)
zeros-page at zero = tt
zeros-page at (suc n) = (refl, zeros-page (at + 1) n)

zeros-blank : (heap : Option HeapPart) (frames : List ℕ) → AreZeros (blank_cells heap frames)
zeros-blank heap [] = tt
zeros-blank heap (frame ∷ frames) =
    each-append (λ (cell : Cell). cell.value ≡ 0) (zero_cells (page_address heap frame) (page_size heap)) (blank_cells heap frames)
    (zeros-page (page_address heap frame) (page_size heap)) (zeros-blank heap frames)

-- every byte of the pages is blanked
writes-blank : (heap : Option HeapPart) (frames : List ℕ) (frame a : ℕ) → is_among frame frames ≡ true →
    page_address heap frame ≤ a → a < page_address heap frame + page_size heap → writes (blank_cells heap frames) a ≡ true
writes-blank heap [] frame a on low high = absurd (false≢true on)
writes-blank heap (f ∷ frames) frame a on low high =
    let first : List Cell = zero_cells (page_address heap f) (page_size heap) in
    list_any-append (λ (cell : Cell). nat_eq cell.at a) first (blank_cells heap frames)
    ∙ elim (or_cases (nat_eq f frame) (is_among frame frames) on) [
      | inl here ↦
          let is : f ≡ frame = eqb-true f frame here in
          or_left (writes first a) (writes (blank_cells heap frames) a)
          (writes-zero_cells (page_address heap f) (page_size heap) a
          (subst (λ x. page_address heap x ≤ a) (sym is) low)
          (subst (λ x. a < page_address heap x + page_size heap) (sym is) high))
      | inr later ↦ or_right (writes first a) (writes (blank_cells heap frames) a) (writes-blank heap frames frame a later low high)
    ]

-- ---- the table

-- a word of the table has no byte that the box did not hold
table-off : (heap : Option HeapPart) (items : List Item) (b : ℕ) (owners : List (Option BoxId)) (a : ℕ) →
    ((at : ℕ) → may_access (owned_by b) items heap owners at 4 Write ≡ true → at ≤ a → a < at + 4 → ⊥) →
    (at : ℕ) (frames : List ℕ) → may_write_words (owned_by b) items heap owners at (length frames) ≡ true → writes (table_cells heap at frames) a ≡ false
table-off heap items b owners a off at [] may = refl
table-off heap items b owners a off at (frame ∷ frames) may =
    let it = and_parts (may_access (owned_by b) items heap owners at 4 Write) (may_write_words (owned_by b) items heap owners (at + 4) (length frames)) may in
    let first : writes (cells_of at 4 (page_address heap frame)) a ≡ false =
    false_from_ne_true (writes (cells_of at 4 (page_address heap frame)) a) (λ is.
    let w = written-cells_of at 4 (page_address heap frame) a is in
    off at it.0 w.0 w.1) in
    list_any-append (λ (cell : Cell). nat_eq cell.at a) (cells_of at 4 (page_address heap frame)) (table_cells heap (at + 4) frames)
    ∙ rw (first, table-off heap items b owners a off (at + 4) frames it.1) refl

-- the page of a free frame is no box's own
pages-free : (b base page a n : ℕ) (owners : List (Option BoxId)) → IsFree owners n → base + n * page ≤ a → a < base + n * page + page →
    in_pages (owned_by b) base page a 1 owners ≡ false
pages-free b base page a n [] free low high = refl
pages-free b base page a zero (None ∷ owners) free low high = in_pages_past (owned_by b) (base + page) page a 1 owners (omega (arith, high))
pages-free b base page a zero (Some owner ∷ owners) free low high = absurd (let e : Some (Some owner) ≡ Some None = free in cc)
pages-free b base page a (suc n) (owner ∷ owners) free low high =
    let more : suc n * page ≡ page + n * page = grind arith in
    let past : nat_le (a + 1) (base + page) ≡ false = lt-leb (a + 1) (base + page) (omega (arith, low, more)) in
    rw (past, pages-free b (base + page) page a n owners free (omega (arith, low, more)) (omega (arith, high, more))) (none (owned_by b owner && nat_le base a))
  where
    none : (x : Bool) → ((x && false) || false) ≡ false
    none true = refl
    none false = refl

heap-free : (b : ℕ) (heap : Option HeapPart) (a frame : ℕ) (owners : List (Option BoxId)) → IsFree owners frame →
    page_address heap frame ≤ a → a < page_address heap frame + page_size heap → in_heap (owned_by b) heap a 1 owners ≡ false
heap-free b None a frame owners free low high = refl
heap-free b (Some h) a frame owners free low high = pages-free b h.base h.page a frame owners free low high

page-in_heap : (heap : Option HeapPart) (a frame : ℕ) → frame < frame_count heap →
    page_address heap frame ≤ a → a < page_address heap frame + page_size heap → in_heap_range heap a ≡ true
page-in_heap None a frame below low high = absurd (omega (arith, below))
page-in_heap (Some h) a frame below low high =
    let whole : (frame + 1) * h.page ≤ h.count * h.page = mul-le (frame + 1) h.page h.count h.page (omega (arith, below)) (omega arith) in
    let more : (frame + 1) * h.page ≡ frame * h.page + h.page = grind arith in
    and_from (nat_le h.base a) (nat_lt a (h.base + h.count * h.page)) (le-leb h.base a (omega (arith, low))) (lt-ltb a (h.base + h.count * h.page) (omega (arith, high, whole, more)))

module _ (cfg : Config) (is_sound : IsSound cfg) (b : ℕ) (part : BoxPart) (found : slice_get cfg.boxes b ≡ Some part) where
  -- the box holds no byte of the page of a free frame
  free-not_held : (owners : List (Option BoxId)) (frame a : ℕ) → length owners ≡ frame_count cfg.board.heap → IsFree owners frame →
      page_address cfg.board.heap frame ≤ a → a < page_address cfg.board.heap frame + page_size cfg.board.heap →
      (at : ℕ) → may_access (owned_by b) part.items cfg.board.heap owners at 4 Write ≡ true → at ≤ a → a < at + 4 → ⊥
  free-not_held owners frame a places free low high at held from to =
      let place : at + (a - at) ≡ a = omega (arith, from) in
      let inside : in_heap_range cfg.board.heap a ≡ true =
      page-in_heap cfg.board.heap a frame (omega (arith, slice_get_within owners frame None free, places)) low high in
      let it = and_parts (is_aligned at 4) (list_any (item_holds at 4 Write) part.items || (is_data Write && in_heap (owned_by b) cfg.board.heap at 4 owners)) held in
      elim (or_cases (list_any (item_holds at 4 Write) part.items) (is_data Write && in_heap (owned_by b) cfg.board.heap at 4 owners) it.1) [
        | inl item ↦
            let has : in_items part.items a ≡ true = subst (λ x. in_items part.items x ≡ true) place (items-byte part.items at 4 (a - at) Write (omega (arith, from, to)) item) in
            false≢true (sym (items-beside cfg is_sound b part found a has) ∙ inside)
        | inr page ↦
            let own : in_heap (owned_by b) cfg.board.heap a 1 owners ≡ true =
            subst (λ x. in_heap (owned_by b) cfg.board.heap x 1 owners ≡ true) place (heap-byte (owned_by b) cfg.board.heap at 4 (a - at) owners (omega (arith, from, to)) page) in
            false≢true (sym (heap-free b cfg.board.heap a frame owners free low high) ∙ own)
      ]

  -- once the frames are given, each byte of their pages is 0
  given-zeroed : (m : Shared) (table : ℕ) (frames : List ℕ) → length m.owners ≡ frame_count cfg.board.heap → AllByRecursion (IsFree m.owners) frames →
      may_write_words (owned_by b) part.items cfg.board.heap m.owners table (length frames) ≡ true →
      AllByRecursion (IsBlankPage cfg.board (put_cells cfg.board (put_cells cfg.board m.memory (blank_cells cfg.board.heap frames)) (table_cells cfg.board.heap table frames))) frames
  given-zeroed m table frames places free may = each-from_among (IsBlankPage cfg.board (put_cells cfg.board (put_cells cfg.board m.memory blank) words)) frames
      (λ frame on a low high.
      byte-put_cells_other cfg.board (put_cells cfg.board m.memory blank) words a
      (table-off cfg.board.heap part.items b m.owners a
      (free-not_held m.owners frame a places (each-among (IsFree m.owners) frames frame free on) low high) table frames may)
      ∙ put-zeros cfg.board m.memory blank a (zeros-blank cfg.board.heap frames) (inr (writes-blank cfg.board.heap frames frame a on low high)))
    where
      blank : List Cell
      blank = blank_cells cfg.board.heap frames

      words : List Cell
      words = table_cells cfg.board.heap table frames

-- ---- one event

-- no frame arrives
none-arrive : (cfg : Config) (old new : Flat) (acting : Option BoxId) (frames : List ℕ) → frames ≡ [] → ArriveZeroed cfg old new acting frames
none-arrive cfg old new acting frames none = subst (ArriveZeroed cfg old new acting) (sym none) (record {
  ascend = refl;
  free = tt;
  least = λ frame free off. tt;
  own = tt;
  zeroed = tt;
})

giving-arrives : (cfg : Config) (old new : Flat) (acting : Option BoxId) (home : BoxId) (part : BoxPart) (r : Reply) → IsSound cfg →
    slice_get cfg.boxes home.0 ≡ Some part → acting ≡ Some home → length old.shared.owners ≡ frame_count cfg.board.heap →
    IsGiving cfg home.0 part old.shared new.shared r → ArriveZeroed cfg old new acting (given_by r)
giving-arrives cfg old new acting home part r is_sound found acts places giving = subst (ArriveZeroed cfg old new acting) (sym giving.told) (record {
  ascend = subst (λ xs. ascends xs ≡ true) (sym giving.first) (ascends-free giving.count old.shared.owners);
  free = free;
  least = λ frame is_free off. subst (AllByRecursion (λ (given : ℕ). given < frame)) (sym giving.first)
      (below-free giving.count old.shared.owners frame is_free (subst (λ xs. is_among frame xs ≡ false) giving.first off));
  own = each_weaker (λ f. slice_get (with_owner (Some home) giving.frames old.shared.owners) f ≡ Some (Some home)) (λ f. slice_get new.shared.owners f ≡ Some acting)
      (λ f has. ap (λ (m : Shared). slice_get m.owners f) giving.shared ∙ has ∙ ap Some (sym acts)) giving.frames
      (with_owner-given (Some home) giving.frames old.shared.owners free);
  zeroed = subst (λ (m : Shared). AllByRecursion (IsBlankPage cfg.board m.memory) giving.frames) (sym giving.shared)
      (given-zeroed cfg is_sound home.0 part found old.shared giving.table giving.frames places free giving.may_write);
})
  where
    free : AllByRecursion (IsFree old.shared.owners) giving.frames
    free = subst (AllByRecursion (IsFree old.shared.owners)) (sym giving.first) (each-free giving.count old.shared.owners)

event-arrives : (cfg : Config) (f : Flat) (c : Choice) → IsSound cfg → length f.shared.owners ≡ frame_count cfg.board.heap → EventMoves cfg f c →
    ArriveZeroed cfg f (state_after cfg f c) (acting_box cfg c) (given_by (reply_to cfg f c))
event-arrives cfg f c is_sound places (inl quiet) = none-arrive cfg f (state_after cfg f c) (acting_box cfg c) (given_by (reply_to cfg f c)) quiet.none
event-arrives cfg f c is_sound places (inr event) = elim event.moves [
  | inl giving ↦ giving-arrives cfg f (state_after cfg f c) (acting_box cfg c) event.actor.program.home event.actor.part (reply_to cfg f c) is_sound event.part event.acts places giving
  | inr taking ↦ none-arrive cfg f (state_after cfg f c) (acting_box cfg c) (given_by (reply_to cfg f c)) (ap given_by taking.done)
]

-- ---- whole logs

run-zeroed : (cfg : Config) (f : Flat) (cs : List Choice) → IsSound cfg → length f.shared.owners ≡ frame_count cfg.board.heap →
    AllArriveZeroed cfg f (entries_of_run cfg f cs)
run-zeroed cfg f [] is_sound places = tt
run-zeroed cfg f (c ∷ cs) is_sound places =
    let moves = event-moves cfg f c (lines-sound cfg is_sound) in
    (event-arrives cfg f c is_sound places moves, run-zeroed cfg (state_after cfg f c) cs is_sound (event-places cfg f c moves ∙ places))

-- the pages that the entries of a legal log give arrive zeroed
pub legal-zeroed : (cfg : Config) (log : Log) → IsSound cfg → IsLegal cfg log → AllArriveZeroed cfg (opening_state cfg) (entries_of log.items)
legal-zeroed cfg log is_sound legal =
    subst (AllArriveZeroed cfg (opening_state cfg)) (sym (entries-legal cfg log legal))
    (run-zeroed cfg (opening_state cfg) (choices_of log.items) is_sound (places-opening cfg))
