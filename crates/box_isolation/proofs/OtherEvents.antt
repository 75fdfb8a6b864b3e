-- An event of another box spares what is this box's own.
use Rattle.std.proofs.Common.{◌≡◌, ◌≢◌, ℕ, zero, suc, ◌+◌, ◌-◌, ◌*◌, ◌<◌, ◌≤◌, Bool, true, false, List, [], ◌∷◌, map, take, length, Option, Some, None, refl, sym, ◌∙◌, ap, subst, arith, inl, inr}
use Rattle.std.specs.Prelude.{◌&&◌, ◌||◌, nat_eq, nat_le, slice_get, slice_set}
use Rattle.std.specs.List.{AllByRecursion, list_any}
use Rattle.std.proofs.lemmas.Bool.{cases_Bool, and_parts, or_cases, false≢true, false_from_ne_true, eqb-true, ne_eqb, leb-true, lt-leb}
use Rattle.std.proofs.lemmas.List.{length-set}
use Rattle.std.proofs.lemmas.List.Folds.{list_any-append}
use Rattle.addr_base.specs.declared.identity.BoxId.{BoxId}
use Rattle.addr_base.specs.declared.rights.Kind.{Kind}
use Rattle.addr_base.specs.declared.rights.Kind.TheVariants.{Write}
use Rattle.flat_model.specs.declared.actors.Who.{Who}
use Rattle.flat_model.specs.declared.boards.HeapPart.{HeapPart}
use Rattle.flat_model.specs.declared.classes.KernelCall.{KernelCall}
use Rattle.flat_model.specs.declared.classes.KernelCall.TheVariants as call
use Rattle.flat_model.specs.declared.next.Next.{Next}
use Rattle.flat_model.specs.declared.next.Next.TheVariants as next
use Rattle.flat_model.specs.declared.parts.BoxPart.{BoxPart}
use Rattle.flat_model.specs.declared.parts.Config.{Config}
use Rattle.flat_model.specs.declared.states.Shared.{Shared}
use Rattle.flat_model.specs.declared.states.ThreadState.{ThreadState}
use Rattle.flat_model.specs.Access.{in_heap, in_pages, is_aligned, is_data, item_holds, may_access, owned_by, owner_of, owns}
use Rattle.box_isolation.specs.AloneState.{flag_at}
use Rattle.flat_model.specs.CallRows.{gateway_for, is_server, own_ticket, served_ticket, serving_of}
use Rattle.flat_model.specs.Calls.{collected_by}
use Rattle.flat_model.specs.Cells.{cells_of, zero_cells}
use Rattle.flat_model.specs.Interrupts.{handled_context, has_line}
use Rattle.flat_model.specs.Memory.{put_cells}
use Rattle.flat_model.specs.Next.{holds_access, holds_next}
use Rattle.flat_model.specs.PageRows.{page_free_row, pages_alloc_row, with_frames}
use Rattle.flat_model.specs.Pages.{allocation, blank_cells, frame_at, frames_or_none, free_frames, is_bad_count, least_free, may_write_words, own_frame, page_address, page_size, table_cells, with_owner}
use Rattle.box_isolation.specs.Reach.{is_thread_of}
use Rattle.flat_model.specs.Registers.{register_read}
use Rattle.flat_model.specs.Thread.{register}
use Rattle.flat_model.specs.ThreadEvents.{posted, posted_and_waiting}
use Rattle.flat_model.specs.Turn.{kernel_row, row_of}
use Rattle.box_isolation.proofs.AlikeBoxes.{Spares, Spares-refl, SparesCalls-same, SparesLines-refl, heap_count}
use Rattle.flat_model.proofs.Elements.{each_weaker}
use Rattle.box_isolation.proofs.ListedBytes.{in_items}
use Rattle.box_isolation.proofs.MeetsMemory.{flag-owner, map-set, pages-range, with_owner-count}
use Rattle.box_isolation.proofs.NotedBytes.{IsSized-put_cells, byte-put_cells_other, writes}
use Rattle.box_isolation.proofs.OwnEvents.{gateway-spares, off-pages}
use Rattle.flat_model.proofs.PageLemmas.{in_pages_past}
use Rattle.box_isolation.proofs.SeenBytes.{items-byte, pages-byte}
use Rattle.box_isolation.proofs.Settled.{IsSettled}
use Rattle.box_isolation.proofs.SparesRows.{access-spares, delivery-spares, enable-spares, irq_return-spares, post-spares, read-spares, result-spares, return-spares, take-spares, wait-spares, written-cells_of}

-- ---- one page has one owner

owned-apart : (b c : ℕ) (owner : Option BoxId) → c ≢ b → owned_by c owner ≡ true → owned_by b owner ≡ false
owned-apart b c None differs is = absurd (false≢true is)
owned-apart b c (Some id) differs is = ne_eqb id.0 b (λ e. differs (sym (eqb-true id.0 c is) ∙ e))

pages-apart : (b c base page at n a : ℕ) (owners : List (Option BoxId)) → c ≢ b → at ≤ a → a < at + n → in_pages (owned_by c) base page at n owners ≡ true →
    in_pages (owned_by b) base page a 1 owners ≡ false
pages-apart b c base page at n a [] differs low high is = absurd (false≢true is)
pages-apart b c base page at n a (owner ∷ owners) differs low high is = elim (or_cases (owned_by c owner && nat_le base at && nat_le (at + n) (base + page)) (in_pages (owned_by c) (base + page) page at n owners) is) [
  | inl here ↦
      let it = and_parts (owned_by c owner && nat_le base at) (nat_le (at + n) (base + page)) here in
      let other = owned-apart b c owner differs (and_parts (owned_by c owner) (nat_le base at) it.0).0 in
      let end : at + n ≤ base + page = leb-true (at + n) (base + page) it.1 in
      rw (other, in_pages_past (owned_by b) (base + page) page a 1 owners (omega (arith, end, high))) refl
  | inr later ↦
      let one = pages-range (owned_by c) (base + page) page at owners (at-byte later) in
      let past : nat_le (a + 1) (base + page) ≡ false = lt-leb (a + 1) (base + page) (omega (arith, one.0, low)) in
      rw (past, pages-apart b c (base + page) page at n a owners differs low high later) (none (owned_by b owner && nat_le base a))
]
  where
    none : (x : Bool) → ((x && false) || false) ≡ false
    none true = refl
    none false = refl

    at-byte : in_pages (owned_by c) (base + page) page at n owners ≡ true → in_pages (owned_by c) (base + page) page at 1 owners ≡ true
    at-byte later = subst (λ x. in_pages (owned_by c) (base + page) page x 1 owners ≡ true) (omega arith) (pages-byte (owned_by c) (base + page) page at n 0 owners (omega (arith, low, high)) later)

heap-apart : (b c : ℕ) (heap : Option HeapPart) (at n a : ℕ) (owners : List (Option BoxId)) → c ≢ b → at ≤ a → a < at + n → in_heap (owned_by c) heap at n owners ≡ true → in_heap (owned_by b) heap a 1 owners ≡ false
heap-apart b c None at n a owners differs low high is = absurd (false≢true is)
heap-apart b c (Some h) at n a owners differs low high is = pages-apart b c h.base h.page at n a owners differs low high is

-- a page that is not the box's own has no byte that it sees
page-not_own : (b base page a n : ℕ) (owners : List (Option BoxId)) → flag_at (map (owned_by b) owners) n ≡ false → base + n * page ≤ a → a < base + n * page + page → in_pages (owned_by b) base page a 1 owners ≡ false
page-not_own b base page a n [] off low high = refl
page-not_own b base page a zero (owner ∷ owners) off low high =
    rw (off, in_pages_past (owned_by b) (base + page) page a 1 owners (omega (arith, high))) refl
page-not_own b base page a (suc n) (owner ∷ owners) off low high =
    let more : suc n * page ≡ page + n * page = grind arith in
    let past : nat_le (a + 1) (base + page) ≡ false = lt-leb (a + 1) (base + page) (omega (arith, low, more)) in
    rw (past, page-not_own b (base + page) page a n owners off (omega (arith, low, more)) (omega (arith, high, more))) (none (owned_by b owner && nat_le base a))
  where
    none : (x : Bool) → ((x && false) || false) ≡ false
    none true = refl
    none false = refl

written-zero_cells : (at n a : ℕ) → writes (zero_cells at n) a ≡ true → (at ≤ a) × (a < at + n)
written-zero_cells at zero a is = absurd (false≢true is)
written-zero_cells at (suc n) a is = elim (or_cases (nat_eq at a) (writes (zero_cells (at + 1) n) a) is) [
  | inl here ↦ let same = eqb-true at a here in (omega (arith, same), omega (arith, same))
  | inr later ↦ let it = written-zero_cells (at + 1) n a later in (omega (arith, it.0), omega (arith, it.1))
]

-- the frames are not the box's own
abbrev AreNotOwn : ℕ → List (Option BoxId) → List ℕ → Type 0
AreNotOwn b owners frames = AllByRecursion (λ frame. flag_at (map (owned_by b) owners) frame ≡ false) frames

blank-off : (b : ℕ) (heap : Option HeapPart) (a : ℕ) (owners : List (Option BoxId)) (frames : List ℕ) → AreNotOwn b owners frames → in_heap (owned_by b) heap a 1 owners ≡ true → writes (blank_cells heap frames) a ≡ false
blank-off b heap a owners [] free page = refl
blank-off b heap a owners (frame ∷ frames) free page =
    list_any-append (λ cell. nat_eq cell.at a) (zero_cells (page_address heap frame) (page_size heap)) (blank_cells heap frames)
    ∙ rw (first heap page, blank-off b heap a owners frames free.1 page) refl
  where
    first : (heap : Option HeapPart) → in_heap (owned_by b) heap a 1 owners ≡ true → writes (zero_cells (page_address heap frame) (page_size heap)) a ≡ false
    first None page = absurd (false≢true page)
    first (Some h) page = false_from_ne_true (writes (zero_cells (h.base + frame * h.page) h.page) a) (λ is.
        let it = written-zero_cells (h.base + frame * h.page) h.page a is in
        false≢true (sym (page-not_own b h.base h.page a frame owners free.0 it.0 it.1) ∙ page))

set-off : (flags : List Bool) (n : ℕ) → flag_at flags n ≡ false → slice_set flags n false ≡ flags
set-off [] n off = refl
set-off (x ∷ flags) zero off = ap (λ y. y ∷ flags) (sym off)
set-off (x ∷ flags) (suc n) off = ap (λ rest. x ∷ rest) (set-off flags n off)

set-spares : (b : ℕ) (owners : List (Option BoxId)) (frame : ℕ) (owner : Option BoxId) → owned_by b owner ≡ false → flag_at (map (owned_by b) owners) frame ≡ false →
    map (owned_by b) (slice_set owners frame owner) ≡ map (owned_by b) owners
set-spares b owners frame owner other off =
    map-set (owned_by b) owners frame owner ∙ ap (slice_set (map (owned_by b) owners) frame) other ∙ set-off (map (owned_by b) owners) frame off

owners-spare : (b c : ℕ) (frames : List ℕ) (owners : List (Option BoxId)) → c ≢ b → AreNotOwn b owners frames → map (owned_by b) (with_owner (Some (record { 0 = c })) frames owners) ≡ map (owned_by b) owners
owners-spare b c [] owners differs free = refl
owners-spare b c (frame ∷ frames) owners differs free =
    let same = set-spares b owners frame (Some (record { 0 = c })) (ne_eqb c b differs) free.0 in
    owners-spare b c frames (slice_set owners frame (Some (record { 0 = c }))) differs
    (each_weaker (λ f. flag_at (map (owned_by b) owners) f ≡ false) (λ f. flag_at (map (owned_by b) (slice_set owners frame (Some (record { 0 = c })))) f ≡ false)
    (λ f off. ap (λ flags. flag_at flags f) same ∙ off) frames free.1) ∙ same

-- a frame without an owner is not the box's own
free-not_own : (b k : ℕ) (owners : List (Option BoxId)) → AllByRecursion (λ frame. (k ≤ frame) × (flag_at (map (owned_by b) owners) (frame - k) ≡ false)) (free_frames k owners)
free-not_own b k [] = tt
free-not_own b k (None ∷ owners) =
    let zeroth : k - k ≡ 0 = omega arith in
    ((omega arith, ap (flag_at (map (owned_by b) (None ∷ owners))) zeroth), past b k None owners (free-not_own b (k + 1) owners))
  where
    past : (b k : ℕ) (owner : Option BoxId) (owners : List (Option BoxId)) → AllByRecursion (λ frame. (k + 1 ≤ frame) × (flag_at (map (owned_by b) owners) (frame - (k + 1)) ≡ false)) (free_frames (k + 1) owners) →
        AllByRecursion (λ frame. (k ≤ frame) × (flag_at (map (owned_by b) (owner ∷ owners)) (frame - k) ≡ false)) (free_frames (k + 1) owners)
    past b k owner owners rest = each_weaker (λ frame. (k + 1 ≤ frame) × (flag_at (map (owned_by b) owners) (frame - (k + 1)) ≡ false)) (λ frame. (k ≤ frame) × (flag_at (map (owned_by b) (owner ∷ owners)) (frame - k) ≡ false))
        (λ frame it. let place : frame - k ≡ suc (frame - (k + 1)) = omega (arith, it.0) in (omega (arith, it.0), ap (flag_at (map (owned_by b) (owner ∷ owners))) place ∙ it.1)) (free_frames (k + 1) owners) rest
free-not_own b k (Some owner ∷ owners) = past b k (Some owner) owners (free-not_own b (k + 1) owners)
  where
    past : (b k : ℕ) (owner : Option BoxId) (owners : List (Option BoxId)) → AllByRecursion (λ frame. (k + 1 ≤ frame) × (flag_at (map (owned_by b) owners) (frame - (k + 1)) ≡ false)) (free_frames (k + 1) owners) →
        AllByRecursion (λ frame. (k ≤ frame) × (flag_at (map (owned_by b) (owner ∷ owners)) (frame - k) ≡ false)) (free_frames (k + 1) owners)
    past b k owner owners rest = each_weaker (λ frame. (k + 1 ≤ frame) × (flag_at (map (owned_by b) owners) (frame - (k + 1)) ≡ false)) (λ frame. (k ≤ frame) × (flag_at (map (owned_by b) (owner ∷ owners)) (frame - k) ≡ false))
        (λ frame it. let place : frame - k ≡ suc (frame - (k + 1)) = omega (arith, it.0) in (omega (arith, it.0), ap (flag_at (map (owned_by b) (owner ∷ owners))) place ∙ it.1)) (free_frames (k + 1) owners) rest

each-take : {X : Type 0} (P : X → Type 0) (n : ℕ) (xs : List X) → AllByRecursion P xs → AllByRecursion P (take n xs)
each-take P zero xs each = tt
each-take P (suc n) [] each = tt
each-take P (suc n) (x ∷ xs) each = (each.0, each-take P n xs each.1)

taken-not_own : (b n : ℕ) (owners : List (Option BoxId)) → AreNotOwn b owners (take n (free_frames 0 owners))
taken-not_own b n owners = each-take (λ frame. flag_at (map (owned_by b) owners) frame ≡ false) n (free_frames 0 owners)
    (each_weaker (λ frame. (0 ≤ frame) × (flag_at (map (owned_by b) owners) (frame - 0) ≡ false)) (λ frame. flag_at (map (owned_by b) owners) frame ≡ false)
    (λ frame it. let place : frame - 0 ≡ frame = omega arith in subst (λ x. flag_at (map (owned_by b) owners) x ≡ false) place it.1) (free_frames 0 owners) (free-not_own b 0 owners))

take-long : (n : ℕ) (xs : List ℕ) → n ≤ length xs → length (take n xs) ≡ n
take-long zero xs enough = refl
take-long (suc n) [] enough = absurd (omega (arith, enough))
take-long (suc n) (x ∷ xs) enough = ap suc (take-long n xs (omega (arith, enough)))

-- where a turn is a delivery, its line is one of the box's
abbrev pub DeliversOwn : BoxPart → Next → Type 0
DeliversOwn other next.Look = Unit {0}
DeliversOwn other (next.Deliver irq) = has_line irq.line.0 other.irqs ≡ true
DeliversOwn other (next.Local i) = Unit {0}
DeliversOwn other (next.Access access) = Unit {0}
DeliversOwn other (next.Unaligned at) = Unit {0}
DeliversOwn other (next.Kernel c) = Unit {0}
DeliversOwn other next.Nowhere = Unit {0}

-- ---- rows of another box

module _ (cfg : Config) (b : ℕ) (box : BoxPart) (settled : IsSettled cfg b box) where
  -- what another box holds has no byte of an own page
  held-off : (c : ℕ) (other : BoxPart) (m : Shared) (at n : ℕ) (kind : Kind) → slice_get cfg.boxes c ≡ Some other → c ≢ b → length m.owners ≡ heap_count cfg.board.heap →
      may_access (owned_by c) other.items cfg.board.heap m.owners at n kind ≡ true → (a : ℕ) → at ≤ a → a < at + n → in_heap (owned_by b) cfg.board.heap a 1 m.owners ≡ false
  held-off c other m at n kind there differs count held a low high =
      elim (or_cases (list_any (item_holds at n kind) other.items) (is_data kind && in_heap (owned_by c) cfg.board.heap at n m.owners)
      (and_parts (is_aligned at n) (list_any (item_holds at n kind) other.items || (is_data kind && in_heap (owned_by c) cfg.board.heap at n m.owners)) held).1) [
        | inl item ↦
            let place : at + (a - at) ≡ a = omega (arith, low) in
            let has = subst (λ x. in_items other.items x ≡ true) place (items-byte other.items at n (a - at) kind (omega (arith, low, high)) item) in
            off-pages cfg b a m.owners count (settled.items_beside c other there a has)
        | inr page ↦ heap-apart b c cfg.board.heap at n a m.owners differs low high (and_parts (is_data kind) (in_heap (owned_by c) cfg.board.heap at n m.owners) page).1
      ]

  table-off : (c : ℕ) (other : BoxPart) (m : Shared) (frames : List ℕ) (at a : ℕ) → slice_get cfg.boxes c ≡ Some other → c ≢ b → length m.owners ≡ heap_count cfg.board.heap →
      may_write_words (owned_by c) other.items cfg.board.heap m.owners at (length frames) ≡ true → in_heap (owned_by b) cfg.board.heap a 1 m.owners ≡ true → writes (table_cells cfg.board.heap at frames) a ≡ false
  table-off c other m [] at a there differs count may page = refl
  table-off c other m (frame ∷ frames) at a there differs count may page =
      let it = and_parts (may_access (owned_by c) other.items cfg.board.heap m.owners at 4 Write) (may_write_words (owned_by c) other.items cfg.board.heap m.owners (at + 4) (length frames)) may in
      let first : writes (cells_of at 4 (page_address cfg.board.heap frame)) a ≡ false =
      false_from_ne_true (writes (cells_of at 4 (page_address cfg.board.heap frame)) a) (λ is.
      let w = written-cells_of at 4 (page_address cfg.board.heap frame) a is in
      false≢true (sym (held-off c other m at 4 Write there differs count it.0 a w.0 w.1) ∙ page)) in
      list_any-append (λ cell. nat_eq cell.at a) (cells_of at 4 (page_address cfg.board.heap frame)) (table_cells cfg.board.heap (at + 4) frames)
      ∙ rw (first, table-off c other m frames (at + 4) a there differs count it.1 page) refl

  frames-spare : (c : ℕ) (other : BoxPart) (m : Shared) (table : ℕ) (frames : List ℕ) → slice_get cfg.boxes c ≡ Some other → c ≢ b → length m.owners ≡ heap_count cfg.board.heap →
      AreNotOwn b m.owners frames → may_write_words (owned_by c) other.items cfg.board.heap m.owners table (length frames) ≡ true → Spares cfg b box m (with_frames cfg.board c table frames m)
  frames-spare c other m table frames there differs count free may = record {
    pages = record {
      size = λ size. IsSized-put_cells cfg.board (put_cells cfg.board m.memory (blank_cells cfg.board.heap frames)) (table_cells cfg.board.heap table frames) (IsSized-put_cells cfg.board m.memory (blank_cells cfg.board.heap frames) size);
      count = with_owner-count (Some (record { 0 = c })) frames m.owners;
      own = owners-spare b c frames m.owners differs free;
      bytes = λ a page. byte-put_cells_other cfg.board (put_cells cfg.board m.memory (blank_cells cfg.board.heap frames)) (table_cells cfg.board.heap table frames) a (table-off c other m frames table a there differs count may page)
          ∙ byte-put_cells_other cfg.board m.memory (blank_cells cfg.board.heap frames) a (blank-off b cfg.board.heap a m.owners frames free page);
    };
    calls = SparesCalls-same b box m (with_frames cfg.board c table frames m) refl refl;
    lines = SparesLines-refl b box m.lines;
  }

  given-spares : (c : ℕ) (other : BoxPart) (m : Shared) (th : ThreadState) (table n : ℕ) (heap : Option HeapPart) → slice_get cfg.boxes c ≡ Some other → c ≢ b →
      length m.owners ≡ heap_count cfg.board.heap → may_write_words (owned_by c) other.items cfg.board.heap m.owners table n ≡ true →
      Spares cfg b box m (pages_alloc_row cfg.board c m th table (frames_or_none heap (least_free n m.owners))).shared
  given-spares c other m th table n None there differs count may = Spares-refl cfg b box m
  given-spares c other m th table n (Some heap) there differs count may = elim (cases_Bool (nat_le n (length (free_frames 0 m.owners)))) [
    | inr few ↦ rw few (Spares-refl cfg b box m)
    | inl enough ↦
        let long : length (take n (free_frames 0 m.owners)) ≡ n = take-long n (free_frames 0 m.owners) (leb-true n (length (free_frames 0 m.owners)) enough) in
        rw enough (frames-spare c other m table (take n (free_frames 0 m.owners)) there differs count (taken-not_own b n m.owners)
        (subst (λ l. may_write_words (owned_by c) other.items cfg.board.heap m.owners table l ≡ true) (sym long) may))
  ]

  alloc-spares : (c : ℕ) (other : BoxPart) (m : Shared) (th : ThreadState) (table n : ℕ) → slice_get cfg.boxes c ≡ Some other → c ≢ b → length m.owners ≡ heap_count cfg.board.heap →
      Spares cfg b box m (pages_alloc_row cfg.board c m th table (allocation cfg.board.heap (may_write_words (owned_by c) other.items cfg.board.heap m.owners table n) n m.owners)).shared
  alloc-spares c other m th table n there differs count = elim (cases_Bool (is_bad_count n)) [
    | inl bad ↦ rw bad (Spares-refl cfg b box m)
    | inr good ↦ elim (cases_Bool (may_write_words (owned_by c) other.items cfg.board.heap m.owners table n)) [
      | inr may_not ↦ rw (good, may_not) (Spares-refl cfg b box m)
      | inl may ↦ rw (good, may) (given-spares c other m th table n cfg.board.heap there differs count may)
    ]
  ]

  free-spares : (c : ℕ) (m : Shared) (th : ThreadState) (frame : Option ℕ) → c ≢ b → Spares cfg b box m (page_free_row m th (own_frame m.owners c frame)).shared
  free-spares c m th None differs = Spares-refl cfg b box m
  free-spares c m th (Some frame) differs = elim (cases_Bool (owns m.owners c frame)) [
    | inr other ↦ rw other (Spares-refl cfg b box m)
    | inl own ↦
        let off : flag_at (map (owned_by b) m.owners) frame ≡ false = flag-owner b m.owners frame ∙ owned-apart b c (owner_of m.owners frame) differs own in
        rw own (record {
          pages = record { size = λ size. size; count = length-set m.owners frame None; own = set-spares b m.owners frame None refl off; bytes = λ a page. refl };
          calls = SparesCalls-same b box m (record m { owners = slice_set m.owners frame None }) refl refl;
          lines = SparesLines-refl b box m.lines;
        })
  ]

  module _ (who : Who) (other : BoxPart) (there : slice_get cfg.boxes who.home.0 ≡ Some other) (differs : who.home.0 ≢ b) (far : is_thread_of box who.thread.0 ≡ false) where
    apart : (n : ℕ) → has_line n other.irqs ≡ true → has_line n box.irqs ≡ false
    apart n has = settled.lines who.home.0 other there differs n has

    kernel-spares : (m : Shared) (th : ThreadState) (c : KernelCall) → length m.owners ≡ heap_count cfg.board.heap → Spares cfg b box m (kernel_row cfg who other m th c).shared
    kernel-spares m th (call.PagesAlloc n t) count = alloc-spares who.home.0 other m th (register th t) (register th n) there differs count
    kernel-spares m th (call.PageFree a) count = free-spares who.home.0 m th (frame_at cfg.board.heap (register th a)) differs
    kernel-spares m th (call.IrqOn n) count = enable-spares cfg b box m th n true (has_line n other.irqs) (apart n)
    kernel-spares m th (call.IrqOff n) count = enable-spares cfg b box m th n false (has_line n other.irqs) (apart n)
    kernel-spares m th call.IrqReturn count = irq_return-spares cfg b box who.home.0 m th (handled_context m.lines other who.home.0 who.thread.0) differs
    kernel-spares m th (call.GwRead d n) count = read-spares cfg b box m th d (register_read cfg.registers cfg.board m.memory who.home.0 n)
    kernel-spares m th (call.GwWrite s n) count = gateway-spares cfg b box settled m th who.home.0 n (register th s) count
    kernel-spares m th (call.RpcCall d n) count = post-spares cfg b box who m th (posted th d) (gateway_for who.home.0 (slice_get cfg.gateways n)) far
    kernel-spares m th (call.RpcSync n looks) count = post-spares cfg b box who m th (posted_and_waiting th looks) (gateway_for who.home.0 (slice_get cfg.gateways n)) far
    kernel-spares m th call.RpcTake count = take-spares cfg b box m th (is_server who other) (served_ticket m.serving who.home.0)
    kernel-spares m th (call.RpcReturn s) count = return-spares cfg b box who.home.0 m th (register th s) (serving_of who other m.serving) differs
    kernel-spares m th (call.RpcResult d s) count = result-spares cfg b box m th d (own_ticket who (register th s)) (collected_by (own_ticket who (register th s)) m.calls) far

    -- every turn of another box, where a delivered line is one of its own
    pub row-spares : (m : Shared) (th : ThreadState) (n : Next) → length m.owners ≡ heap_count cfg.board.heap → DeliversOwn other n →
        Spares cfg b box m (row_of cfg who other m th (holds_next cfg.board who.home.0 other m.owners n) n).shared
    row-spares m th next.Look count own = wait-spares cfg b box who m th th.awaited far
    row-spares m th (next.Deliver irq) count own = delivery-spares cfg b box who.home.0 m th irq differs (apart irq.line.0 own)
    row-spares m th (next.Local i) count own = Spares-refl cfg b box m
    row-spares m th (next.Access access) count own = access-spares cfg b box m th access (holds_access cfg.board who.home.0 other m.owners access)
        (λ held a low high. held-off who.home.0 other m access.at access.size access.kind there differs count held a low high)
    row-spares m th (next.Unaligned at) count own = Spares-refl cfg b box m
    row-spares m th (next.Kernel c) count own = kernel-spares m th c count
    row-spares m th next.Nowhere count own = Spares-refl cfg b box m
