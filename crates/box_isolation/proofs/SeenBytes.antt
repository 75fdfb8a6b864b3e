-- What a box sees: the bytes of its items and of its own pages.
use Rattle.std.proofs.Common.{◌≡◌, ℕ, zero, suc, ◌+◌, ◌<◌, ◌≤◌, Bool, true, false, List, [], ◌∷◌, map, Option, Some, None, refl, ap, subst, arith, inl, inr}
use Rattle.std.specs.Prelude.{◌&&◌, ◌||◌, nat_le, nat_lt}
use Rattle.std.specs.List.{list_any}
use Rattle.std.proofs.lemmas.Bool.{and_parts, and_from, or_cases, or_left, or_right, false≢true, leb-true, le-leb, lt-ltb}
use Rattle.addr_base.specs.declared.identity.BoxId.{BoxId}
use Rattle.addr_base.specs.declared.ranges.Range.{Range}
use Rattle.addr_base.specs.declared.rights.Kind.{Kind}
use Rattle.addr_base.specs.declared.rights.Kind.TheVariants.{Write}
use Rattle.addr_base.specs.Range.{end_of, holds_bytes, in_range}
use Rattle.addr_base.specs.Rights.{gives}
use Rattle.flat_model.specs.declared.boards.HeapPart.{HeapPart}
use Rattle.flat_model.specs.declared.parts.Item.{Item}
use Rattle.flat_model.specs.Access.{in_heap, in_pages, is_aligned, is_data, item_holds, may_access, owned_by}
use Rattle.box_isolation.specs.AloneMemory.{holds_words, is_own_page}
use Rattle.box_isolation.specs.Arrivals.{Part}
use Rattle.flat_model.specs.Cells.{word_of}
use Rattle.flat_model.specs.Pages.{may_write_words}
use Rattle.box_isolation.proofs.ListedBytes.{in_items}

-- whether the box sees the byte: an item or an own page has it
abbrev pub sees : Part → List Bool → ℕ → Bool
sees part pages a = in_items part.items a || in_heap is_own_page part.heap a 1 pages

-- ---- pages told by their owners, and by flags

pub in_pages-flags : (b base page a n : ℕ) (owners : List (Option BoxId)) → in_pages (owned_by b) base page a n owners ≡ in_pages is_own_page base page a n (map (owned_by b) owners)
in_pages-flags b base page a n [] = refl
in_pages-flags b base page a n (owner ∷ owners) =
    ap (λ rest. (owned_by b owner && nat_le base a && nat_le (a + n) (base + page)) || rest) (in_pages-flags b (base + page) page a n owners)

pub in_heap-flags : (b : ℕ) (heap : Option HeapPart) (a n : ℕ) (owners : List (Option BoxId)) → in_heap (owned_by b) heap a n owners ≡ in_heap is_own_page heap a n (map (owned_by b) owners)
in_heap-flags b None a n owners = refl
in_heap-flags b (Some heap) a n owners = in_pages-flags b heap.base heap.page a n owners

pub may_access-flags : (b : ℕ) (items : List Item) (heap : Option HeapPart) (owners : List (Option BoxId)) (a n : ℕ) (kind : Kind) →
    may_access (owned_by b) items heap owners a n kind ≡ may_access is_own_page items heap (map (owned_by b) owners) a n kind
may_access-flags b items heap owners a n kind =
    ap (λ rest. is_aligned a n && (list_any (item_holds a n kind) items || (is_data kind && rest))) (in_heap-flags b heap a n owners)

pub holds_words-flags : (part : Part) (b : ℕ) (owners : List (Option BoxId)) (a n : ℕ) →
    may_write_words (owned_by b) part.items part.heap owners a n ≡ holds_words part (map (owned_by b) owners) a n
holds_words-flags part b owners a zero = refl
holds_words-flags part b owners a (suc n) =
    rw (may_access-flags b part.items part.heap owners a 4 Write, holds_words-flags part b owners (a + 4) n) refl

-- ---- what is held is seen

item-byte : (range : Range) (a n k : ℕ) → k < n → holds_bytes range a n ≡ true → in_range range (a + k) ≡ true
item-byte range a n k below holds =
    let it = and_parts (nat_le range.base a) (nat_le (a + n) (end_of range)) holds in
    let low : range.base ≤ a = leb-true range.base a it.0 in
    let high : a + n ≤ end_of range = leb-true (a + n) (end_of range) it.1 in
    and_from (nat_le range.base (a + k)) (nat_lt (a + k) (end_of range)) (le-leb range.base (a + k) (omega (arith, low))) (lt-ltb (a + k) (end_of range) (omega (arith, high, below)))

pub items-byte : (items : List Item) (a n k : ℕ) (kind : Kind) → k < n → list_any (item_holds a n kind) items ≡ true → in_items items (a + k) ≡ true
items-byte [] a n k kind below some = absurd (false≢true some)
items-byte (item ∷ items) a n k kind below some = elim (or_cases (item_holds a n kind item) (list_any (item_holds a n kind) items) some) [
  | inl here ↦ or_left _ _ (item-byte item.range a n k below (and_parts (holds_bytes item.range a n) (gives item.rights kind) here).0)
  | inr later ↦ or_right _ _ (items-byte items a n k kind below later)
]

pub pages-byte : {A : Type 0} (is_own : A → Bool) (base page a n k : ℕ) (xs : List A) → k < n → in_pages is_own base page a n xs ≡ true → in_pages is_own base page (a + k) 1 xs ≡ true
pages-byte is_own base page a n k [] below some = some
pages-byte is_own base page a n k (x ∷ xs) below some = elim (or_cases (is_own x && nat_le base a && nat_le (a + n) (base + page)) (in_pages is_own (base + page) page a n xs) some) [
  | inl here ↦
      let it = and_parts (is_own x && nat_le base a) (nat_le (a + n) (base + page)) (regroup (is_own x) (nat_le base a) (nat_le (a + n) (base + page)) here) in
      let own = and_parts (is_own x) (nat_le base a) it.0 in
      let low : base ≤ a = leb-true base a own.1 in
      let high : a + n ≤ base + page = leb-true (a + n) (base + page) it.1 in
      let under : nat_le base (a + k) ≡ true = le-leb base (a + k) (omega (arith, low)) in
      let over : nat_le ((a + k) + 1) (base + page) ≡ true = le-leb ((a + k) + 1) (base + page) (omega (arith, high, below)) in
      or_left (is_own x && nat_le base (a + k) && nat_le ((a + k) + 1) (base + page)) (in_pages is_own (base + page) page (a + k) 1 xs) (rw (own.0, under, over) refl)
  | inr later ↦ or_right (is_own x && nat_le base (a + k) && nat_le ((a + k) + 1) (base + page)) (in_pages is_own (base + page) page (a + k) 1 xs) (pages-byte is_own (base + page) page a n k xs below later)
]
  where
    regroup : (x y z : Bool) → (x && y && z) ≡ true → ((x && y) && z) ≡ true
    regroup true true z e = e
    regroup true false z e = e
    regroup false y z e = e

pub heap-byte : {A : Type 0} (is_own : A → Bool) (heap : Option HeapPart) (a n k : ℕ) (xs : List A) → k < n → in_heap is_own heap a n xs ≡ true → in_heap is_own heap (a + k) 1 xs ≡ true
heap-byte is_own None a n k xs below some = some
heap-byte is_own (Some heap) a n k xs below some = pages-byte is_own heap.base heap.page a n k xs below some

-- each byte of an access that the box holds is one that it sees
pub held-seen : (part : Part) (pages : List Bool) (a n : ℕ) (kind : Kind) → may_access is_own_page part.items part.heap pages a n kind ≡ true → (k : ℕ) → k < n → sees part pages (a + k) ≡ true
held-seen part pages a n kind held k below =
    elim (or_cases (list_any (item_holds a n kind) part.items) (is_data kind && in_heap is_own_page part.heap a n pages)
    (and_parts (is_aligned a n) (list_any (item_holds a n kind) part.items || (is_data kind && in_heap is_own_page part.heap a n pages)) held).1) [
      | inl item ↦ or_left _ _ (items-byte part.items a n k kind below item)
      | inr page ↦ or_right (in_items part.items (a + k)) _ (heap-byte is_own_page part.heap a n k pages below (and_parts (is_data kind) _ page).1)
    ]

-- words of the same bytes
pub word-same : (f g : ℕ → ℕ) (a n : ℕ) → ((k : ℕ) → k < n → f (a + k) ≡ g (a + k)) → word_of f a n ≡ word_of g a n
word-same f g a zero same = refl
word-same f g a (suc n) same =
    let zeroth : a + 0 ≡ a = omega arith in
    let first : f a ≡ g a = subst (λ x. f x ≡ g x) zeroth (same 0 (omega arith)) in
    let next : (k : ℕ) → k < n → f ((a + 1) + k) ≡ g ((a + 1) + k) =
    λ k below. subst (λ x. f x ≡ g x) (omega arith) (same (suc k) (omega arith)) in
    let rest = word-same f g (a + 1) n next in
    cc
