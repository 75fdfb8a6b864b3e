-- Accesses and pages: the flat machine's rows and those of the box by itself leave the same.
use Rattle.std.proofs.Common.{◌≡◌, ℕ, zero, suc, ◌+◌, ◌*◌, ◌<◌, ◌≤◌, Bool, true, false, List, [], ◌∷◌, ◌++◌, map, take, length, replicate, Option, Some, None, refl, sym, ◌∙◌, ap, subst, arith, inl, inr, ◌⊎◌}
use Rattle.std.specs.Prelude.{◌&&◌, nat_eq, nat_le, nat_lt, slice_set}
use Rattle.std.proofs.lemmas.Bool.{cases_Bool, and_parts, or_cases, or_parts, or_left, or_right, false≢true, leb-true, ltb-false, lt-ltb, eq-eqb, le-leb, and_from, eqb-false}
use Rattle.std.proofs.lemmas.List.{length-set, length-take, length-map}
use Rattle.std.proofs.lemmas.List.Folds.{list_any-append}
use Rattle.addr_base.specs.declared.identity.BoxId.{BoxId}
use Rattle.addr_base.specs.declared.rights.Kind.{Kind}
use Rattle.addr_base.specs.declared.rights.Kind.TheVariants.{Read, Write, Fetch}
use Rattle.box_isolation.specs.Arrivals.{supplied_frames}
use Rattle.flat_model.specs.declared.accesses.Access.{Access}
use Rattle.flat_model.specs.declared.boards.HeapPart.{HeapPart}
use Rattle.flat_model.specs.declared.parts.BoxPart.{BoxPart}
use Rattle.flat_model.specs.declared.parts.Config.{Config}
use Rattle.flat_model.specs.declared.events.Reply.{Reply}
use Rattle.flat_model.specs.declared.states.Shared.{Shared}
use Rattle.flat_model.specs.declared.states.ThreadState.{ThreadState}
use Rattle.flat_model.specs.Access.{in_heap, in_pages, owned_by, owns}
use Rattle.flat_model.specs.AccessRows.{access_row, performed_row}
use Rattle.box_isolation.specs.AloneMemory.{alone_access, alone_alloc, alone_free, alone_holds, alone_pages, alone_performed, blank_pages, holds_words, is_own_page, page_at, page_bytes, page_start, page_table, with_flags, with_pages}
use Rattle.box_isolation.specs.AloneState.{Kept, alone_refused, byte_in, flag_at, kept_noting, noted}
use Rattle.flat_model.specs.Cells.{Cell, cells_of, word_of, zero_cells}
use Rattle.flat_model.specs.Memory.{byte_at, put_cells}
use Rattle.flat_model.specs.Next.{holds_access}
use Rattle.flat_model.specs.Outcome.{refused_row}
use Rattle.flat_model.specs.PageRows.{page_free_row, pages_alloc_row, with_frames}
use Rattle.flat_model.specs.Pages.{allocation, blank_cells, frame_at, frames_or_none, free_frames, freeing, is_bad_count, least_free, may_write_words, own_frame, table_cells, with_owner}
use Rattle.box_isolation.specs.Part.{part_of}
use Rattle.flat_model.specs.Thread.{register}
use Rattle.box_isolation.specs.Supplies.{supply_of_pages}
use Rattle.box_isolation.proofs.AlikeBoxes.{IsAlike, Meets, heap_count}
use Rattle.box_isolation.proofs.ListedBytes.{in_items}
use Rattle.box_isolation.proofs.NotedBytes.{IsSized-put_cells, in_board, noted-put_cells, writes}
use Rattle.flat_model.proofs.Placed.{in_heap_range}
use Rattle.box_isolation.proofs.SeenBytes.{held-seen, holds_words-flags, may_access-flags, sees, word-same}
use Rattle.box_isolation.proofs.Settled.{IsSettled}

-- ---- where own pages lie

pub pages-range : {A : Type 0} (is_own : A → Bool) (base page a : ℕ) (xs : List A) → in_pages is_own base page a 1 xs ≡ true → (base ≤ a) × (a < base + length xs * page)
pages-range is_own base page a [] some = absurd (false≢true some)
pages-range is_own base page a (x ∷ xs) some = elim (or_cases (is_own x && nat_le base a && nat_le (a + 1) (base + page)) (in_pages is_own (base + page) page a 1 xs) some) [
  | inl here ↦
      let it = and_parts (is_own x && nat_le base a) (nat_le (a + 1) (base + page)) here in
      let low : base ≤ a = leb-true base a (and_parts (is_own x) (nat_le base a) it.0).1 in
      let high : a + 1 ≤ base + page = leb-true (a + 1) (base + page) it.1 in
      let more : suc (length xs) * page ≡ page + length xs * page = grind arith in
      (low, omega (arith, high, more))
  | inr later ↦
      let it = pages-range is_own (base + page) page a xs later in
      let more : suc (length xs) * page ≡ page + length xs * page = grind arith in
      (omega (arith, it.0), omega (arith, it.1, more))
]

pub heap-range : {A : Type 0} (is_own : A → Bool) (heap : Option HeapPart) (a : ℕ) (xs : List A) → length xs ≡ heap_count heap → in_heap is_own heap a 1 xs ≡ true → in_heap_range heap a ≡ true
heap-range is_own None a xs count some = absurd (false≢true some)
heap-range is_own (Some h) a xs count some =
    let it = pages-range is_own h.base h.page a xs some in
    let end : length xs * h.page ≡ h.count * h.page = ap (λ n. n * h.page) count in
    and_from (nat_le h.base a) (nat_lt a (h.base + h.count * h.page)) (le-leb h.base a it.0) (lt-ltb a (h.base + h.count * h.page) (omega (arith, it.1, end)))

-- ---- one flag set or cleared

pages-set : (base page a n : ℕ) (flags : List Bool) → in_pages is_own_page base page a 1 (slice_set flags n true) ≡ true →
    (in_pages is_own_page base page a 1 flags ≡ true) ⊎ ((base + n * page ≤ a) × (a < base + n * page + page))
pages-set base page a n [] some = inl some
pages-set base page a zero (x ∷ flags) some = elim (or_cases (true && nat_le base a && nat_le (a + 1) (base + page)) (in_pages is_own_page (base + page) page a 1 flags) some) [
  | inl here ↦
      let it = and_parts (nat_le base a) (nat_le (a + 1) (base + page)) here in
      inr (omega (arith, leb-true base a it.0), omega (arith, leb-true (a + 1) (base + page) it.1))
  | inr later ↦ inl (or_right (x && nat_le base a && nat_le (a + 1) (base + page)) (in_pages is_own_page (base + page) page a 1 flags) later)
]
pages-set base page a (suc n) (x ∷ flags) some = elim (or_cases (x && nat_le base a && nat_le (a + 1) (base + page)) (in_pages is_own_page (base + page) page a 1 (slice_set flags n true)) some) [
  | inl here ↦ inl (or_left (x && nat_le base a && nat_le (a + 1) (base + page)) (in_pages is_own_page (base + page) page a 1 flags) here)
  | inr later ↦ elim (pages-set (base + page) page a n flags later) [
    | inl kept ↦ inl (or_right (x && nat_le base a && nat_le (a + 1) (base + page)) (in_pages is_own_page (base + page) page a 1 flags) kept)
    | inr new ↦
        let more : suc n * page ≡ page + n * page = grind arith in
        inr (omega (arith, new.0, more), omega (arith, new.1, more))
  ]
]

pages-cleared : (base page a n : ℕ) (flags : List Bool) → in_pages is_own_page base page a 1 (slice_set flags n false) ≡ true → in_pages is_own_page base page a 1 flags ≡ true
pages-cleared base page a n [] some = some
pages-cleared base page a zero (x ∷ flags) some = or_right (x && nat_le base a && nat_le (a + 1) (base + page)) (in_pages is_own_page (base + page) page a 1 flags) some
pages-cleared base page a (suc n) (x ∷ flags) some = elim (or_cases (x && nat_le base a && nat_le (a + 1) (base + page)) (in_pages is_own_page (base + page) page a 1 (slice_set flags n false)) some) [
  | inl here ↦ or_left (x && nat_le base a && nat_le (a + 1) (base + page)) (in_pages is_own_page (base + page) page a 1 flags) here
  | inr later ↦ or_right (x && nat_le base a && nat_le (a + 1) (base + page)) (in_pages is_own_page (base + page) page a 1 flags) (pages-cleared (base + page) page a n flags later)
]

heap-cleared : (heap : Option HeapPart) (a n : ℕ) (flags : List Bool) → in_heap is_own_page heap a 1 (slice_set flags n false) ≡ true → in_heap is_own_page heap a 1 flags ≡ true
heap-cleared None a n flags some = some
heap-cleared (Some h) a n flags some = pages-cleared h.base h.page a n flags some

pub writes-zero_cells : (at n a : ℕ) → at ≤ a → a < at + n → writes (zero_cells at n) a ≡ true
writes-zero_cells at zero a low high = absurd (omega (arith, low, high))
writes-zero_cells at (suc n) a low high = elim (cases_Bool (nat_eq at a)) [
  | inl here ↦ rw here refl
  | inr there ↦ rw there (writes-zero_cells (at + 1) n a (omega (arith, low, eqb-false at a there)) (omega (arith, high)))
]

-- an own page was own before, or is zeroed now
heap-flags : (heap : Option HeapPart) (a : ℕ) (frames : List ℕ) (flags : List Bool) → in_heap is_own_page heap a 1 (with_flags frames flags) ≡ true →
    (in_heap is_own_page heap a 1 flags ≡ true) ⊎ (writes (blank_pages heap frames) a ≡ true)
heap-flags heap a [] flags some = inl some
heap-flags heap a (frame ∷ frames) flags some = elim (heap-flags heap a frames (slice_set flags frame true) some) [
  | inl here ↦ by_heap heap here
  | inr later ↦ inr (list_any-append (λ cell. nat_eq cell.at a) (zero_cells (page_start heap frame) (page_bytes heap)) (blank_pages heap frames) ∙ or_right (writes (zero_cells (page_start heap frame) (page_bytes heap)) a) (writes (blank_pages heap frames) a) later)
]
  where
    by_heap : (heap : Option HeapPart) → in_heap is_own_page heap a 1 (slice_set flags frame true) ≡ true →
        (in_heap is_own_page heap a 1 flags ≡ true) ⊎ (writes (blank_pages heap (frame ∷ frames)) a ≡ true)
    by_heap None here = absurd (false≢true here)
    by_heap (Some h) here = elim (pages-set h.base h.page a frame flags here) [
      | inl kept ↦ inl kept
      | inr new ↦ inr (list_any-append (λ cell. nat_eq cell.at a) (zero_cells (h.base + frame * h.page) h.page) (blank_pages (Some h) frames)
          ∙ or_left (writes (zero_cells (h.base + frame * h.page) h.page) a) (writes (blank_pages (Some h) frames) a) (writes-zero_cells (h.base + frame * h.page) h.page a new.0 new.1))
    ]

pub map-set : {A B : Type 0} (f : A → B) (xs : List A) (i : ℕ) (x : A) → map f (slice_set xs i x) ≡ slice_set (map f xs) i (f x)
map-set f [] i x = refl
map-set f (y ∷ xs) zero x = refl
map-set f (y ∷ xs) (suc i) x = ap (λ rest. f y ∷ rest) (map-set f xs i x)

flags-owners : (b : ℕ) (frames : List ℕ) (owners : List (Option BoxId)) → with_flags frames (map (owned_by b) owners) ≡ map (owned_by b) (with_owner (Some (record { 0 = b })) frames owners)
flags-owners b [] owners = refl
flags-owners b (frame ∷ frames) owners =
    ap (with_flags frames) (sym (map-set (owned_by b) owners frame (Some (record { 0 = b })) ∙ ap (slice_set (map (owned_by b) owners) frame) (eq-eqb b b refl)))
    ∙ flags-owners b frames (slice_set owners frame (Some (record { 0 = b })))

pub with_owner-count : (owner : Option BoxId) (frames : List ℕ) (owners : List (Option BoxId)) → length (with_owner owner frames owners) ≡ length owners
with_owner-count owner [] owners = refl
with_owner-count owner (frame ∷ frames) owners = with_owner-count owner frames (slice_set owners frame owner) ∙ length-set owners frame owner

pub flag-owner : (b : ℕ) (owners : List (Option BoxId)) (n : ℕ) → flag_at (map (owned_by b) owners) n ≡ owns owners b n
flag-owner b [] n = refl
flag-owner b (owner ∷ owners) zero = refl
flag-owner b (owner ∷ owners) (suc n) = flag-owner b owners n

table-same : (heap : Option HeapPart) (a : ℕ) (frames : List ℕ) → page_table heap a frames ≡ table_cells heap a frames
table-same heap a [] = refl
table-same heap a (frame ∷ frames) = ap (λ rest. cells_of a 4 (page_start heap frame) ++ rest) (table-same heap (a + 4) frames)

take-listed : (xs ys : List ℕ) (n : ℕ) → length xs ≤ n → take (length xs) (take n (xs ++ ys)) ≡ xs
take-listed [] ys n few = refl
take-listed (x ∷ xs) ys zero few = absurd (omega (arith, few))
take-listed (x ∷ xs) ys (suc n) few = ap (λ rest. x ∷ rest) (take-listed xs ys n (omega (arith, few)))

page_at-frame : (heap : Option HeapPart) (a : ℕ) → page_at heap a ≡ frame_at heap a
page_at-frame None a = refl
page_at-frame (Some h) a = refl

-- ---- bytes that are written and noted

module _ (cfg : Config) (b : ℕ) (box : BoxPart) (settled : IsSettled cfg b box) where
  pub seen-on : (m : Shared) (k : Kept) → IsAlike cfg b box m k → (a : ℕ) → sees (part_of cfg b box) k.pages a ≡ true → in_board cfg.board a ≡ true
  seen-on m k alike a seen = elim (or_cases (in_items box.items a) (in_heap is_own_page cfg.board.heap a 1 k.pages) seen) [
    | inl item ↦ settled.items_on a item
    | inr page ↦ settled.heap_on a (heap-range is_own_page cfg.board.heap a k.pages (ap length alike.pages.own ∙ length-map m.owners (owned_by b) ∙ alike.pages.count) page)
  ]

  -- bytes written to memory and noted by the box
  pub alike-noting : (m : Shared) (k : Kept) (cells : List Cell) → IsAlike cfg b box m k →
      IsAlike cfg b box (record m { memory = put_cells cfg.board m.memory cells }) (kept_noting cells k)
  alike-noting m k cells alike = record {
    memory = record {
      size = IsSized-put_cells cfg.board m.memory cells alike.memory.size;
      bytes = λ a seen. noted-put_cells cfg.board cells k.cells m.memory a alike.memory.size (seen-on m k alike a seen) (inl (alike.memory.bytes a seen));
    };
    pages = alike.pages;
    calls = alike.calls;
    lines = alike.lines;
  }

  same : (m : Shared) (k : Kept) (th : ThreadState) (r : Reply) → IsAlike cfg b box m k → Meets cfg b box (record { shared = m; thread = th; reply = r }) (record { kept = k; thread = th; reply = r })
  same m k th r alike = record { thread = refl; reply = refl; kept = alike }

  pub holds-alike : (m : Shared) (k : Kept) (access : Access) → IsAlike cfg b box m k →
      alone_holds (part_of cfg b box) k.pages access.at access.size access.kind ≡ holds_access cfg.board b box m.owners access
  holds-alike m k access alike =
      ap (λ pages. alone_holds (part_of cfg b box) pages access.at access.size access.kind) alike.pages.own
      ∙ sym (may_access-flags b box.items cfg.board.heap m.owners access.at access.size access.kind)

  performed-meets : (m : Shared) (k : Kept) (th : ThreadState) (access : Access) (kind : Kind) → IsAlike cfg b box m k →
      alone_holds (part_of cfg b box) k.pages access.at access.size kind ≡ true →
      Meets cfg b box (performed_row cfg.board m th access kind) (alone_performed k th access kind)
  performed-meets m k th access Read alike held =
      let word : word_of (byte_in k.cells) access.at access.size ≡ word_of (byte_at cfg.board m.memory) access.at access.size =
      word-same (byte_in k.cells) (byte_at cfg.board m.memory) access.at access.size
      (λ n below. alike.memory.bytes (access.at + n) (held-seen (part_of cfg b box) k.pages access.at access.size Read held n below)) in
      rw word (same m k _ _ alike)
  performed-meets m k th access Write alike held = record {
    thread = refl;
    reply = refl;
    kept = alike-noting m k (cells_of access.at access.size (register th access.register)) alike;
  }
  performed-meets m k th access Fetch alike held = same m k _ _ alike

  pub access-meets : (m : Shared) (k : Kept) (th : ThreadState) (access : Access) → IsAlike cfg b box m k →
      Meets cfg b box (access_row cfg.board m th access (holds_access cfg.board b box m.owners access))
      (alone_access k th access (alone_holds (part_of cfg b box) k.pages access.at access.size access.kind))
  access-meets m k th access alike =
      rw (← holds-alike m k access alike) (by_held (alone_holds (part_of cfg b box) k.pages access.at access.size access.kind) refl)
    where
      by_held : (t : Bool) → alone_holds (part_of cfg b box) k.pages access.at access.size access.kind ≡ t →
          Meets cfg b box (access_row cfg.board m th access t) (alone_access k th access t)
      by_held true held = performed-meets m k th access access.kind alike held
      by_held false held = by_kind access.kind
        where
          by_kind : (kind : Kind) → Meets cfg b box (access_row cfg.board m th (record access { kind = kind }) false) (alone_access k th (record access { kind = kind }) false)
          by_kind Read = same m k _ _ alike
          by_kind Write = same m k _ _ alike
          by_kind Fetch = same m k _ _ alike

  -- ---- pages

  refused-meets : (m : Shared) (k : Kept) (th : ThreadState) (status : ℕ) → IsAlike cfg b box m k → Meets cfg b box (refused_row m th status) (alone_refused k th status)
  refused-meets m k th status alike = same m k _ _ alike

  frames-alike : (m : Shared) (k : Kept) (table : ℕ) (frames : List ℕ) → IsAlike cfg b box m k →
      IsAlike cfg b box (with_frames cfg.board b table frames m) (with_pages (part_of cfg b box) table frames k)
  frames-alike m k table frames alike = record {
    memory = record {
      size = IsSized-put_cells cfg.board (put_cells cfg.board m.memory blank) (table_cells cfg.board.heap table frames) (IsSized-put_cells cfg.board m.memory blank alike.memory.size);
      bytes = λ a seen.
          let on : in_board cfg.board a ≡ true = seen-new a seen in
          ap (λ cells. byte_in (noted cells (noted blank k.cells)) a) (table-same cfg.board.heap table frames)
          ∙ noted-put_cells cfg.board (table_cells cfg.board.heap table frames) (noted blank k.cells) (put_cells cfg.board m.memory blank) a
          (IsSized-put_cells cfg.board m.memory blank alike.memory.size) on
          (inl (noted-put_cells cfg.board blank k.cells m.memory a alike.memory.size on (before a seen)));
    };
    pages = record { count = with_owner-count (Some (record { 0 = b })) frames m.owners ∙ alike.pages.count; own = own_now };
    calls = alike.calls;
    lines = alike.lines;
  }
    where
      blank : List Cell
      blank = blank_cells cfg.board.heap frames

      own_now : with_flags frames k.pages ≡ map (owned_by b) (with_owner (Some (record { 0 = b })) frames m.owners)
      own_now = ap (with_flags frames) alike.pages.own ∙ flags-owners b frames m.owners

      seen-new : (a : ℕ) → sees (part_of cfg b box) (with_flags frames k.pages) a ≡ true → in_board cfg.board a ≡ true
      seen-new a seen = elim (or_cases (in_items box.items a) (in_heap is_own_page cfg.board.heap a 1 (with_flags frames k.pages)) seen) [
        | inl item ↦ settled.items_on a item
        | inr page ↦ settled.heap_on a (heap-range is_own_page cfg.board.heap a (with_flags frames k.pages)
            (ap length own_now ∙ length-map (with_owner (Some (record { 0 = b })) frames m.owners) (owned_by b) ∙ with_owner-count (Some (record { 0 = b })) frames m.owners ∙ alike.pages.count) page)
      ]

      before : (a : ℕ) → sees (part_of cfg b box) (with_flags frames k.pages) a ≡ true → (byte_in k.cells a ≡ byte_at cfg.board m.memory a) ⊎ (writes (blank_cells cfg.board.heap frames) a ≡ true)
      before a seen = elim (or_cases (in_items box.items a) (in_heap is_own_page cfg.board.heap a 1 (with_flags frames k.pages)) seen) [
        | inl item ↦ inl (alike.memory.bytes a (or_left (in_items box.items a) (in_heap is_own_page cfg.board.heap a 1 k.pages) item))
        | inr page ↦ elim (heap-flags cfg.board.heap a frames k.pages page) [
          | inl old ↦ inl (alike.memory.bytes a (or_right (in_items box.items a) (in_heap is_own_page cfg.board.heap a 1 k.pages) old))
          | inr new ↦ inr new
        ]
      ]

  found-meets : (m : Shared) (k : Kept) (th : ThreadState) (table n : ℕ) (heap : Option HeapPart) (enough : Bool) → n ≤ 16 → IsAlike cfg b box m k → nat_le n (length (free_frames 0 m.owners)) ≡ enough →
      Meets cfg b box (pages_alloc_row cfg.board b m th table (frames_or_none heap (least_free n m.owners)))
      (alone_pages (part_of cfg b box) k th table (supplied_frames (supply_of_pages (pages_alloc_row cfg.board b m th table (frames_or_none heap (least_free n m.owners))).reply)))
  found-meets m k th table n None enough few alike is = refused-meets m k th 5 alike
  found-meets m k th table n (Some heap) false few alike is = rw is (refused-meets m k th 5 alike)
  found-meets m k th table n (Some heap) true few alike is =
      let frames : List ℕ = take n (free_frames 0 m.owners) in
      let short : length frames ≤ 16 = omega (arith, length-take n (free_frames 0 m.owners), few) in
      let taken : take (length frames) (take 16 (frames ++ replicate 16 0)) ≡ frames = take-listed frames (replicate 16 0) 16 short in
      rw is (record {
        thread = refl;
        reply = refl;
        kept = subst (λ fs. IsAlike cfg b box (with_frames cfg.board b table frames m) (with_pages (part_of cfg b box) table fs k)) (sym taken) (frames-alike m k table frames alike);
      })

  pub alloc-meets : (m : Shared) (k : Kept) (th : ThreadState) (n table : ℕ) → IsAlike cfg b box m k →
      Meets cfg b box (pages_alloc_row cfg.board b m th table (allocation cfg.board.heap (may_write_words (owned_by b) box.items cfg.board.heap m.owners table n) n m.owners))
      (alone_alloc (part_of cfg b box) k th n table (supply_of_pages (pages_alloc_row cfg.board b m th table (allocation cfg.board.heap (may_write_words (owned_by b) box.items cfg.board.heap m.owners table n) n m.owners)).reply))
  alloc-meets m k th n table alike = elim (cases_Bool (is_bad_count n)) [
    | inl bad ↦ rw bad (refused-meets m k th 13 alike)
    | inr good ↦
        let words : holds_words (part_of cfg b box) k.pages table n ≡ may_write_words (owned_by b) box.items cfg.board.heap m.owners table n =
        ap (λ pages. holds_words (part_of cfg b box) pages table n) alike.pages.own ∙ sym (holds_words-flags (part_of cfg b box) b m.owners table n) in
        let few : n ≤ 16 = ltb-false 16 n (or_parts (nat_eq n 0) (nat_lt 16 n) good).1 in
        elim (cases_Bool (may_write_words (owned_by b) box.items cfg.board.heap m.owners table n)) [
          | inl may ↦ rw (good, words, may) (found-meets m k th table n cfg.board.heap (nat_le n (length (free_frames 0 m.owners))) few alike refl)
          | inr not_may ↦ rw (good, words, not_may) (refused-meets m k th 6 alike)
        ]
  ]

  pub free-meets : (m : Shared) (k : Kept) (th : ThreadState) (a : ℕ) → IsAlike cfg b box m k →
      Meets cfg b box (page_free_row m th (freeing cfg.board.heap m.owners b a)) (alone_free k th (page_at cfg.board.heap a))
  free-meets m k th a alike = rw (page_at-frame cfg.board.heap a) (by_frame (frame_at cfg.board.heap a))
    where
      by_frame : (o : Option ℕ) → Meets cfg b box (page_free_row m th (own_frame m.owners b o)) (alone_free k th o)
      by_frame None = same m k _ _ alike
      by_frame (Some frame) =
          let flag : flag_at k.pages frame ≡ owns m.owners b frame = ap (λ pages. flag_at pages frame) alike.pages.own ∙ flag-owner b m.owners frame in
          elim (cases_Bool (owns m.owners b frame)) [
            | inl own ↦ rw (flag, own) (record { thread = refl; reply = refl; kept = freed frame })
            | inr other ↦ rw (flag, other) (same m k _ _ alike)
          ]
        where
          freed : (frame : ℕ) → IsAlike cfg b box (record m { owners = slice_set m.owners frame None }) (record k { pages = slice_set k.pages frame false })
          freed frame = record {
            memory = record {
              size = alike.memory.size;
              bytes = λ x seen. alike.memory.bytes x (elim (or_cases (in_items box.items x) (in_heap is_own_page cfg.board.heap x 1 (slice_set k.pages frame false)) seen) [
                | inl item ↦ or_left (in_items box.items x) (in_heap is_own_page cfg.board.heap x 1 k.pages) item
                | inr page ↦ or_right (in_items box.items x) (in_heap is_own_page cfg.board.heap x 1 k.pages) (heap-cleared cfg.board.heap x frame k.pages page)
              ]);
            };
            pages = record {
              count = length-set m.owners frame None ∙ alike.pages.count;
              own = ap (λ pages. slice_set pages frame false) alike.pages.own ∙ sym (map-set (owned_by b) m.owners frame None);
            };
            calls = alike.calls;
            lines = alike.lines;
          }
