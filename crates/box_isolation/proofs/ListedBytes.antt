-- The addresses of items, ascending, and the bytes that differ at them.
use Rattle.std.proofs.Common.{◌≡◌, ℕ, zero, suc, ◌+◌, ◌-◌, ◌<◌, ◌≤◌, max, Bool, true, false, List, [], ◌∷◌, ◌++◌, map, refl, ◌∙◌, ap, subst, arith, inl, inr, ◌⊎◌}
use Rattle.std.specs.Prelude.{◌||◌, nat_eq, nat_le}
use Rattle.std.specs.List.{AllByRecursion, list_any}
use Rattle.std.proofs.lemmas.Bool.{cases_Bool, cases_lt, or_cases, or_left, or_right, false≢true, eqb-true, eqb-false, leb-true, leb-false}
use Rattle.std.proofs.lemmas.List.Folds.{list_any-append}
use Rattle.addr_base.specs.declared.ranges.Range.{Range}
use Rattle.addr_base.specs.Range.{end_of, in_range}
use Rattle.flat_model.specs.declared.parts.Item.{Item}
use Rattle.flat_model.specs.Cells.{Cell}
use Rattle.box_isolation.specs.Part.{addresses_from, addresses_of, addresses_past, by_base, cells_at, with_item}
use Rattle.box_isolation.specs.Reach.{changed_cells}
use Rattle.flat_model.proofs.Elements.{each_weaker}
use Rattle.box_isolation.proofs.NotedBytes.{writes}
use Rattle.flat_model.proofs.Placed.{bounds_of}

-- whether the address is among these
abbrev pub has_address : ℕ → List ℕ → Bool
has_address a addresses = list_any (λ x. nat_eq x a) addresses

-- whether one of the items has the address
abbrev pub in_items : List Item → ℕ → Bool
in_items items a = list_any (λ item. in_range item.range a) items

-- ---- items in the order of their bases

list_any-with_item : (p : Item → Bool) (item : Item) (items : List Item) → list_any p (with_item item items) ≡ (p item || list_any p items)
list_any-with_item p item [] = refl
list_any-with_item p item (other ∷ items) = elim (cases_Bool (nat_le item.range.base other.range.base)) [
  | inl before ↦ rw before refl
  | inr after ↦ rw after (ap (λ rest. p other || rest) (list_any-with_item p item items) ∙ turned (p other) (p item) (list_any p items))
]
  where
    turned : (x y z : Bool) → (x || (y || z)) ≡ (y || (x || z))
    turned true true z = refl
    turned true false z = refl
    turned false y z = refl

list_any-by_base : (p : Item → Bool) (items : List Item) → list_any p (by_base items) ≡ list_any p items
list_any-by_base p [] = refl
list_any-by_base p (item ∷ items) =
    list_any-with_item p item (by_base items) ∙ ap (λ rest. p item || rest) (list_any-by_base p items)

-- each item begins at or past this base
abbrev BeginPast : ℕ → List Item → Type 0
BeginPast base items = AllByRecursion (λ (other : Item). base ≤ other.range.base) items

-- the items are in the order of their bases
abbrev AreOrdered : List Item → Type 0
AreOrdered [] = Unit {0}
AreOrdered (item ∷ items) = BeginPast item.range.base items × AreOrdered items

BeginPast-with_item : (base : ℕ) (item : Item) (items : List Item) → base ≤ item.range.base → BeginPast base items → BeginPast base (with_item item items)
BeginPast-with_item base item [] first rest = (first, tt)
BeginPast-with_item base item (other ∷ items) first rest = elim (cases_Bool (nat_le item.range.base other.range.base)) [
  | inl before ↦ rw before (first, rest)
  | inr after ↦ rw after (rest.0, BeginPast-with_item base item items first rest.1)
]

AreOrdered-with_item : (item : Item) (items : List Item) → AreOrdered items → AreOrdered (with_item item items)
AreOrdered-with_item item [] ordered = (tt, tt)
AreOrdered-with_item item (other ∷ items) ordered = elim (cases_Bool (nat_le item.range.base other.range.base)) [
  | inl before ↦
      let le : item.range.base ≤ other.range.base = leb-true item.range.base other.range.base before in
      rw before
      ((le, each_weaker (λ (o : Item). other.range.base ≤ o.range.base) (λ (o : Item). item.range.base ≤ o.range.base) (λ o past. omega (arith, le, past)) items ordered.0), ordered)
  | inr after ↦
      let lt : other.range.base < item.range.base = leb-false item.range.base other.range.base after in
      rw after (BeginPast-with_item other.range.base item items (omega (arith, lt)) ordered.0, AreOrdered-with_item item items ordered.1)
]

AreOrdered-by_base : (items : List Item) → AreOrdered (by_base items)
AreOrdered-by_base [] = tt
AreOrdered-by_base (item ∷ items) = AreOrdered-with_item item (by_base items) (AreOrdered-by_base items)

-- ---- their addresses

has-addresses_from : (low n a : ℕ) → low ≤ a → a < low + n → has_address a (addresses_from low n) ≡ true
has-addresses_from low zero a under over = absurd (omega (arith, under, over))
has-addresses_from low (suc n) a under over = elim (cases_Bool (nat_eq low a)) [
  | inl here ↦ rw here refl
  | inr there ↦ rw there (has-addresses_from (low + 1) n a (omega (arith, under, eqb-false low a there)) (omega (arith, over)))
]

begins_past : (base a : ℕ) (items : List Item) → BeginPast base items → in_items items a ≡ true → base ≤ a
begins_past base a [] past some = absurd (false≢true some)
begins_past base a (item ∷ items) past some = elim (or_cases (in_range item.range a) (in_items items a) some) [
  | inl here ↦ let it = bounds_of item.range a here in omega (arith, it, past.0)
  | inr later ↦ begins_past base a items past.1 later
]

has-first : (low a : ℕ) (range : Range) → low ≤ a → range.base ≤ a → a < end_of range → has_address a (addresses_from (max low range.base) (end_of range - max low range.base)) ≡ true
has-first low a range from under over =
    has-addresses_from (max low range.base) (end_of range - max low range.base) a (omega (arith, from, under)) (omega (arith, from, under, over))

has-addresses_past : (low a : ℕ) (items : List Item) → AreOrdered items → low ≤ a → in_items items a ≡ true → has_address a (addresses_past low items) ≡ true
has-addresses_past low a [] ordered from some = absurd (false≢true some)
has-addresses_past low a (item ∷ items) ordered from some =
    let first : List ℕ = addresses_from (max low item.range.base) (end_of item.range - max low item.range.base) in
    let rest : List ℕ = addresses_past (max low (end_of item.range)) items in
    list_any-append (λ x. nat_eq x a) first rest ∙ elim (or_cases (in_range item.range a) (in_items items a) some) [
      | inl here ↦ let it = bounds_of item.range a here in
          or_left (has_address a first) (has_address a rest) (has-first low a item.range from it.0 it.1)
      | inr later ↦ elim (cases_lt a (end_of item.range)) [
        | inl inside ↦ or_left (has_address a first) (has_address a rest) (has-first low a item.range from (begins_past item.range.base a items ordered.0 later) inside)
        | inr past ↦ or_right (has_address a first) (has_address a rest) (has-addresses_past (max low (end_of item.range)) a items ordered.1 (omega (arith, from, past)) later)
      ]
    ]

-- every address of an item is listed
pub has-addresses_of : (a : ℕ) (items : List Item) → in_items items a ≡ true → has_address a (addresses_of items) ≡ true
unfolding addresses_of
has-addresses_of a items some =
    has-addresses_past 0 a (by_base items) (AreOrdered-by_base items) (omega arith)
    (list_any-by_base (λ item. in_range item.range a) items ∙ some)

-- ---- bytes at addresses

pub each-cells_at : (f : ℕ → ℕ) (addresses : List ℕ) → AllByRecursion (λ (cell : Cell). cell.value ≡ f cell.at) (cells_at f addresses)
each-cells_at f [] = tt
each-cells_at f (a ∷ addresses) = (refl, each-cells_at f addresses)

pub writes-cells_at : (f : ℕ → ℕ) (addresses : List ℕ) (a : ℕ) → has_address a addresses ≡ true → writes (cells_at f addresses) a ≡ true
writes-cells_at f [] a has = absurd (false≢true has)
writes-cells_at f (x ∷ addresses) a has = elim (or_cases (nat_eq x a) (has_address a addresses) has) [
  | inl here ↦ or_left _ _ here
  | inr later ↦ or_right _ _ (writes-cells_at f addresses a later)
]

-- the bytes that changed are the new ones
pub each-changed_cells : (old new : ℕ → ℕ) (addresses : List ℕ) → AllByRecursion (λ (cell : Cell). cell.value ≡ new cell.at) (changed_cells old new addresses)
each-changed_cells old new [] = tt
each-changed_cells old new (a ∷ addresses) = elim (cases_Bool (nat_eq (old a) (new a))) [
  | inl same ↦ rw same (each-changed_cells old new addresses)
  | inr other ↦ rw other (refl, each-changed_cells old new addresses)
]

-- a byte at one of the addresses is as it was, or listed
pub changed_or_same : (old new : ℕ → ℕ) (addresses : List ℕ) (a : ℕ) → has_address a addresses ≡ true → (old a ≡ new a) ⊎ (writes (changed_cells old new addresses) a ≡ true)
changed_or_same old new [] a has = absurd (false≢true has)
changed_or_same old new (x ∷ addresses) a has = elim (or_cases (nat_eq x a) (has_address a addresses) has) [
  | inl here ↦
      let is : x ≡ a = eqb-true x a here in
      elim (cases_Bool (nat_eq (old x) (new x))) [
        | inl same ↦ inl (subst (λ y. old y ≡ new y) is (eqb-true (old x) (new x) same))
        | inr other ↦ inr (rw (other, here) refl)
      ]
  | inr later ↦ elim (changed_or_same old new addresses a later) [
    | inl same ↦ inl same
    | inr listed ↦ inr (elim (cases_Bool (nat_eq (old x) (new x))) [
      | inl same ↦ rw same listed
      | inr other ↦ rw other (or_right _ _ listed)
    ])
  ]
]

-- ---- listed bytes ascend

-- the addresses ascend, and none is before this one
abbrev pub AscendPast : ℕ → List ℕ → Type 0
AscendPast low [] = Unit {0}
AscendPast low (a ∷ addresses) = (low ≤ a) × AscendPast (a + 1) addresses

AscendPast-more : (low high : ℕ) (addresses : List ℕ) → low ≤ high → AscendPast high addresses → AscendPast low addresses
AscendPast-more low high [] less it = tt
AscendPast-more low high (a ∷ addresses) less it = (omega (arith, less, it.0), it.1)

AscendPast-from : (low a n : ℕ) (more : List ℕ) → low ≤ a → AscendPast (a + n) more → AscendPast low (addresses_from a n ++ more)
AscendPast-from low a zero more less it = AscendPast-more low (a + 0) more (omega (arith, less)) it
AscendPast-from low a (suc n) more less it =
    let place : a + suc n ≡ (a + 1) + n = omega arith in
    (less, AscendPast-from (a + 1) (a + 1) n more (omega arith) (subst (λ m. AscendPast m more) place it))

AscendPast-items : (low : ℕ) (items : List Item) → AscendPast low (addresses_past low items)
AscendPast-items low [] = tt
AscendPast-items low (item ∷ items) =
    AscendPast-from low (max low item.range.base) (end_of item.range - max low item.range.base) (addresses_past (max low (end_of item.range)) items) (omega arith)
    (AscendPast-more (max low item.range.base + (end_of item.range - max low item.range.base)) (max low (end_of item.range)) (addresses_past (max low (end_of item.range)) items) (omega arith)
    (AscendPast-items (max low (end_of item.range)) items))

-- the addresses of items ascend, and none comes twice
pub addresses_of-ascend : (items : List Item) → AscendPast 0 (addresses_of items)
unfolding addresses_of
addresses_of-ascend items = AscendPast-items 0 (by_base items)

-- so do the bytes that changed
pub changed_cells-ascend : (low : ℕ) (old new : ℕ → ℕ) (addresses : List ℕ) → AscendPast low addresses → AscendPast low (map (λ (cell : Cell). cell.at) (changed_cells old new addresses))
changed_cells-ascend low old new [] it = tt
changed_cells-ascend low old new (a ∷ addresses) it = elim (cases_Bool (nat_eq (old a) (new a))) [
  | inl same ↦ rw same (changed_cells-ascend low old new addresses (AscendPast-more low (a + 1) addresses (omega (arith, it.0)) it.1))
  | inr other ↦ rw other (it.0, changed_cells-ascend (a + 1) old new addresses it.1)
]
