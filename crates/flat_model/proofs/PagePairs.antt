-- The regions of a box's page groups: they have exactly the addresses of its pages.
use Rattle.std.proofs.Common.{◌≡◌, ℕ, zero, suc, ◌+◌, ◌-◌, ◌*◌, ◌/◌, ◌%◌, ◌^◌, ◌<◌, ◌≤◌, Bool, true, false, List, [], ◌∷◌, Option, Some, refl, sym, ◌∙◌, ap, subst, arith, inl, inr}
use Rattle.std.specs.Prelude.{◌&&◌, ◌||◌, nat_eq, nat_le, nat_lt, if◌then◌else◌}
use Rattle.std.specs.List.{AllByRecursion, flat_map, list_any, range_with_len, slice_get}
use Rattle.std.proofs.lemmas.Bool.{and_parts, and_from, cases_lt, eqb-true, leb-true, ltb-true, le-leb, lt-ltb, or_left, or_right}
use Rattle.std.proofs.lemmas.List.Folds.{list_any-append}
use Rattle.std.proofs.lemmas.Nat.{div-mul-add, div_below, div-add-mod', mod_below, mul-le, pow_pos}
use Rattle.std.proofs.lemmas.Nat.Bits.{bit_at_cat_low, bit_at_cat_high}
use Rattle.std.proofs.Math.Nat.{add-mul-mod_self_right, pow-suc, zero-div}
use Rattle.addr_base.specs.declared.identity.BoxId.{BoxId}
use Rattle.addr_base.specs.declared.pairs.Pair.{Pair}
use Rattle.addr_base.specs.declared.rights.Kind.{Kind}
use Rattle.flat_model.specs.declared.boards.HeapPart.{HeapPart}
use Rattle.flat_model.specs.Cover.{group_pair}
use Rattle.flat_model.specs.Decision.{is_region, matches, pair_gives}
use Rattle.flat_model.specs.Access.{owns}
use Rattle.flat_model.specs.Plan.{owned_mask, page_group, page_pairs}
use Rattle.flat_model.specs.Circle.{IsGrouped, IsPage}
use Rattle.flat_model.proofs.Elements.{each-flat_map}
use Rattle.flat_model.proofs.PageGroups.{gives_pages, in_group, is_region-group, matches-group, pair_gives-group}

-- whether the address is in the heap
abbrev pub in_all_pages : HeapPart → ℕ → Bool
in_all_pages heap a = nat_le heap.base a && nat_lt a (heap.base + heap.count * heap.page)

-- whether the address is in a page of the box
abbrev pub own_page : HeapPart → List (Option BoxId) → ℕ → ℕ → Bool
own_page heap owners b a = in_all_pages heap a && owns owners b ((a - heap.base) / heap.page)

-- ---- the mask

mask_step : (m n : ℕ) (o : Bool) → m + (if o then 2 ^ n else 0) ≡ (if o then 1 else 0) * 2 ^ n + m
mask_step m n true = omega arith
mask_step m n false = omega arith

mask_more : (m n : ℕ) (o : Bool) → m < 2 ^ n → m + (if o then 2 ^ n else 0) < 2 ^ suc n
mask_more m n true below = omega (arith, below, pow-suc 2 n)
mask_more m n false below = omega (arith, below, pow-suc 2 n, pow_pos n)

pub owned_mask_below : (owners : List (Option BoxId)) (b first n : ℕ) → owned_mask owners b first n < 2 ^ n
owned_mask_below owners b first zero = omega arith
owned_mask_below owners b first (suc n) =
    mask_more (owned_mask owners b first n) n (owns owners b (first + n)) (owned_mask_below owners b first n)

pub owned_mask_bit : (owners : List (Option BoxId)) (b first n i : ℕ) → i < n → nat_eq (owned_mask owners b first n / 2 ^ i % 2) 1 ≡ owns owners b (first + i)
owned_mask_bit owners b first zero i below = absurd (omega arith)
owned_mask_bit owners b first (suc n) i below = elim (cases_lt i n) [
  | inl less ↦
      ap (λ m. nat_eq (m / 2 ^ i % 2) 1) (mask_step (owned_mask owners b first n) n (owns owners b (first + n)))
      ∙ ap (λ x. nat_eq x 1) (bit_at_cat_low (if owns owners b (first + n) then 1 else 0) n (owned_mask owners b first n) i less)
      ∙ owned_mask_bit owners b first n i less
  | inr last ↦
      let same : i ≡ n = omega arith in
      ap (λ m. nat_eq (m / 2 ^ i % 2) 1) (mask_step (owned_mask owners b first n) n (owns owners b (first + n)))
      ∙ ap (λ x. nat_eq x 1) (bit_at_cat_high (if owns owners b (first + n) then 1 else 0) n (owned_mask owners b first n) i (owned_mask_below owners b first n) (omega arith))
      ∙ ap (λ d. nat_eq ((if owns owners b (first + n) then 1 else 0) / 2 ^ d % 2) 1) (zero_less i n same)
      ∙ highest (owns owners b (first + n))
      ∙ ap (λ j. owns owners b (first + j)) (sym same)
]
  where
    zero_less : (i n : ℕ) → i ≡ n → i - n ≡ 0
    zero_less i n same = omega arith

    highest : (o : Bool) → nat_eq ((if o then 1 else 0) / 2 ^ 0 % 2) 1 ≡ o
    highest true = refl
    highest false = refl

-- ---- one group

-- whether the address is in a page of the box in this group
abbrev pub in_own_group : HeapPart → List (Option BoxId) → ℕ → ℕ → ℕ → Bool
in_own_group heap owners b g a =
    in_group (heap.base + 8 * g * heap.page) heap.page (owned_mask owners b (8 * g) 8) a

-- a pair of the page groups of a box
pub record OfPages (heap : HeapPart) (owners : List (Option BoxId)) (b : ℕ) (p : Pair) : Type 0 where
  pub valid : is_region p ≡ true
  pub given : (kind : Kind) → pair_gives p kind ≡ gives_pages kind
  pub inside : (a : ℕ) → matches p a ≡ true → own_page heap owners b a ≡ true

-- the frame of an address of a group
record InGroup (heap : HeapPart) (owners : List (Option BoxId)) (b g a : ℕ) : Type 0 where
  after : heap.base + 8 * g * heap.page ≤ a
  before : a < heap.base + 8 * g * heap.page + 8 * heap.page
  owned : owns owners b (8 * g + (a - (heap.base + 8 * g * heap.page)) / heap.page) ≡ true
  within : (a - (heap.base + 8 * g * heap.page)) / heap.page < 8

InGroup-from : (heap : HeapPart) (owners : List (Option BoxId)) (b g a : ℕ) → IsPage heap.page → in_own_group heap owners b g a ≡ true → InGroup heap owners b g a
InGroup-from heap owners b g a page found =
    let low : ℕ = heap.base + 8 * g * heap.page in
    let outer = and_parts (nat_le low a && nat_lt a (low + 8 * heap.page)) (nat_eq (owned_mask owners b (8 * g) 8 / 2 ^ ((a - low) / heap.page) % 2) 1) found in
    let inner = and_parts (nat_le low a) (nat_lt a (low + 8 * heap.page)) outer.0 in
    let after : low ≤ a = leb-true low a inner.0 in
    let before : a < low + 8 * heap.page = ltb-true a (low + 8 * heap.page) inner.1 in
    let within : (a - low) / heap.page < 8 = div_below (a - low) heap.page 8 (omega (arith, page.is_power, pow_pos page.exponent)) (omega arith) in
    record {
      after = after;
      before = before;
      owned = sym (owned_mask_bit owners b (8 * g) 8 ((a - low) / heap.page) within) ∙ outer.1;
      within = within;
    }

-- the frame counted in the heap is the one counted in the group, past the groups before
frame_of : (d g page i : ℕ) → 0 < page → 8 * g * page ≤ d → (d - 8 * g * page) / page ≡ i → d / page ≡ 8 * g + i
frame_of d g page i some after is =
    let r : ℕ = (d - 8 * g * page) % page in
    let low : r < page = mod_below (d - 8 * g * page) page some in
    let whole : (d - 8 * g * page) / page * page + r ≡ d - 8 * g * page = div-add-mod' (d - 8 * g * page) page in
    let part : i * page + r ≡ d - 8 * g * page = subst (λ q. q * page + r ≡ d - 8 * g * page) is whole in
    let sum : d ≡ (8 * g + i) * page + r = omega (arith, part, after) in
    ap (λ x. x / page) sum ∙ div-mul-add (8 * g + i) page r low

in_own_group-page : (heap : HeapPart) (owners : List (Option BoxId)) (b g a : ℕ) → IsPage heap.page → g < heap.count / 8 → in_own_group heap owners b g a ≡ true → own_page heap owners b a ≡ true
in_own_group-page heap owners b g a page below found =
    let it = InGroup-from heap owners b g a page found in
    let low : ℕ = heap.base + 8 * g * heap.page in
    let offset : (a - heap.base) - 8 * g * heap.page ≡ a - low = omega arith in
    let some : 0 < heap.page = omega (arith, page.is_power, pow_pos page.exponent) in
    let frame : (a - heap.base) / heap.page ≡ 8 * g + (a - low) / heap.page =
    frame_of (a - heap.base) g heap.page ((a - low) / heap.page) some (omega (arith, it.after)) (ap (λ x. x / heap.page) offset) in
    let up_to : (8 * (g + 1)) * heap.page ≤ heap.count * heap.page = mul-le (8 * (g + 1)) heap.page heap.count heap.page (omega arith) (omega arith) in
    and_from (in_all_pages heap a) (owns owners b ((a - heap.base) / heap.page))
    (and_from (nat_le heap.base a) (nat_lt a (heap.base + heap.count * heap.page))
    (le-leb heap.base a (omega (arith, it.after)))
    (lt-ltb a (heap.base + heap.count * heap.page) (omega (arith, up_to, it.before))))
    (ap (owns owners b) frame ∙ it.owned)

-- an address of a page of the box is in its group
page_in_own_group : (heap : HeapPart) (owners : List (Option BoxId)) (b a : ℕ) → IsGrouped heap → own_page heap owners b a ≡ true → (g : ℕ) × (g < heap.count / 8) × (in_own_group heap owners b g a ≡ true)
page_in_own_group heap owners b a it found =
    let page : ℕ = heap.page in
    let outer = and_parts (in_all_pages heap a) (owns owners b ((a - heap.base) / page)) found in
    let inner = and_parts (nat_le heap.base a) (nat_lt a (heap.base + heap.count * page)) outer.0 in
    let after : heap.base ≤ a = leb-true heap.base a inner.0 in
    let before : a < heap.base + heap.count * page = ltb-true a (heap.base + heap.count * page) inner.1 in
    let some : 0 < page = omega (arith, it.page_is.is_power, pow_pos it.page_is.exponent) in
    let f : ℕ = (a - heap.base) / page in
    let r : ℕ = (a - heap.base) % page in
    let in_count : f < heap.count = div_below (a - heap.base) page heap.count some (omega arith) in
    let sum : f * page + r ≡ a - heap.base = div-add-mod' (a - heap.base) page in
    let small : r < page = mod_below (a - heap.base) page some in
    let g : ℕ = f / 8 in
    let i : ℕ = f % 8 in
    let parts : 8 * g + i ≡ f = omega arith in
    let low : ℕ = heap.base + 8 * g * page in
    let turned : (8 * g + i) * page + r ≡ a - heap.base = subst (λ q. q * page + r ≡ a - heap.base) (sym parts) sum in
    let place : a - low ≡ i * page + r = omega (arith, turned, after) in
    let within : i < 8 = omega arith in
    let top : i * page ≤ 7 * page = mul-le i page 7 page (omega arith) (omega arith) in
    let number : (a - low) / page ≡ i = ap (λ x. x / page) place ∙ div-mul-add i page r small in (
      g,
      omega (arith, it.groups, in_count),
      and_from (nat_le low a && nat_lt a (low + 8 * page)) (nat_eq (owned_mask owners b (8 * g) 8 / 2 ^ ((a - low) / page) % 2) 1)
          (and_from (nat_le low a) (nat_lt a (low + 8 * page))
          (le-leb low a (omega (arith, turned, after)))
          (lt-ltb a (low + 8 * page) (omega (arith, turned, after, top, small))))
          (ap (λ n. nat_eq (owned_mask owners b (8 * g) 8 / 2 ^ n % 2) 1) number
          ∙ owned_mask_bit owners b (8 * g) 8 i within ∙ ap (owns owners b) parts ∙ outer.1),
    )

-- ---- all groups

no_group : (base page a : ℕ) → in_group base page 0 a ≡ false
no_group base page a = rw (zero-div (2 ^ ((a - base) / page))) (last (nat_le base a && nat_lt a (base + 8 * page)))
  where
    last : (b : Bool) → (b && false) ≡ false
    last true = refl
    last false = refl

OfPages-group : (heap : HeapPart) (owners : List (Option BoxId)) (b g : ℕ) → IsGrouped heap → g < heap.count / 8 → OfPages heap owners b (group_pair (heap.base + 8 * g * heap.page) heap.page (owned_mask owners b (8 * g) 8))
OfPages-group heap owners b g it below =
    let low : ℕ = heap.base + 8 * g * heap.page in
    let mask : ℕ = owned_mask owners b (8 * g) 8 in
    let small : mask < 256 = owned_mask_below owners b (8 * g) 8 in
    let steps : low ≡ heap.base + g * (8 * heap.page) = omega arith in
    record {
      valid = is_region-group low heap.page mask it.page_is small (ap (λ x. x % (8 * heap.page)) steps ∙ add-mul-mod_self_right heap.base g (8 * heap.page) ∙ it.whole);
      given = pair_gives-group low heap.page mask it.page_is small;
      inside = λ a found. in_own_group-page heap owners b g a it.page_is below (sym (matches-group low heap.page mask a it.page_is small) ∙ found);
    }

each-page_group : (heap : HeapPart) (owners : List (Option BoxId)) (b g : ℕ) → IsGrouped heap → g < heap.count / 8 → AllByRecursion (OfPages heap owners b) (page_group heap owners b g)
each-page_group heap owners b g it below = either (nat_eq (owned_mask owners b (8 * g) 8) 0)
  where
    either : (t : Bool) → AllByRecursion (OfPages heap owners b) (if t then [] else (group_pair (heap.base + 8 * g * heap.page) heap.page (owned_mask owners b (8 * g) 8) ∷ []))
    either true = tt
    either false = (OfPages-group heap owners b g it below, tt)

list_any-page_group : (heap : HeapPart) (owners : List (Option BoxId)) (b g a : ℕ) → IsGrouped heap → list_any (λ p. matches p a) (page_group heap owners b g) ≡ in_own_group heap owners b g a
list_any-page_group heap owners b g a it = either (nat_eq (owned_mask owners b (8 * g) 8) 0) refl
  where
    low : ℕ
    low = heap.base + 8 * g * heap.page

    small : owned_mask owners b (8 * g) 8 < 256
    small = owned_mask_below owners b (8 * g) 8

    plain : (x : Bool) → (x || false) ≡ x
    plain true = refl
    plain false = refl

    either : (t : Bool) → nat_eq (owned_mask owners b (8 * g) 8) 0 ≡ t → list_any (λ p. matches p a) (if t then [] else (group_pair (heap.base + 8 * g * heap.page) heap.page (owned_mask owners b (8 * g) 8) ∷ [])) ≡ in_own_group heap owners b g a
    either true is =
        sym (ap (λ m. in_group (heap.base + 8 * g * heap.page) heap.page m a) (eqb-true (owned_mask owners b (8 * g) 8) 0 is) ∙ no_group (heap.base + 8 * g * heap.page) heap.page a)
    either false is =
        plain (matches (group_pair (heap.base + 8 * g * heap.page) heap.page (owned_mask owners b (8 * g) 8)) a)
        ∙ matches-group (heap.base + 8 * g * heap.page) heap.page (owned_mask owners b (8 * g) 8) a it.page_is (owned_mask_below owners b (8 * g) 8)

each-range : (P : ℕ → Type 0) (a n : ℕ) → ((k : ℕ) → a ≤ k → k < a + n → P k) → AllByRecursion P (range_with_len a n)
each-range P a zero at = tt
each-range P a (suc n) at = (at a (omega arith) (omega arith), each-range P (a + 1) n (λ k low high. at k (omega arith) (omega arith)))

slice_get-range : (a n i : ℕ) → i < n → slice_get (range_with_len a n) i ≡ Some (a + i)
slice_get-range a zero i below = absurd (omega arith)
slice_get-range a (suc n) zero below = ap Some (omega arith)
slice_get-range a (suc n) (suc i) below = slice_get-range (a + 1) n i (omega arith) ∙ ap Some (omega arith)

module _ {X Y : Type 0} (p : Y → Bool) (f : X → List Y) where
  -- what passes in one part passes in the whole
  pub list_any-flat_map_at : (xs : List X) (i : ℕ) (x : X) → slice_get xs i ≡ Some x → list_any p (f x) ≡ true → list_any p (flat_map f xs) ≡ true
  list_any-flat_map_at [] i x found some = absurd (cc)
  list_any-flat_map_at (y ∷ ys) zero x found some =
      let same : y ≡ x = cc in
      list_any-append p (f y) (flat_map f ys) ∙ or_left (list_any p (f y)) (list_any p (flat_map f ys)) (ap (λ z. list_any p (f z)) same ∙ some)
  list_any-flat_map_at (y ∷ ys) (suc i) x found some =
      list_any-append p (f y) (flat_map f ys) ∙ or_right (list_any p (f y)) (list_any p (flat_map f ys)) (list_any-flat_map_at ys i x found some)

-- each pair of the page groups is valid, gives reads and writes, and stays in the box's pages
pub each-page_pairs : (heap : HeapPart) (owners : List (Option BoxId)) (b : ℕ) → IsGrouped heap → AllByRecursion (OfPages heap owners b) (page_pairs (Some heap) owners b)
each-page_pairs heap owners b it =
    each-flat_map (page_group heap owners b) (λ g. g < heap.count / 8) (OfPages heap owners b)
    (λ g below. each-page_group heap owners b g it below) (range_with_len 0 (heap.count / 8))
    (each-range (λ g. g < heap.count / 8) 0 (heap.count / 8) (λ k low high. omega arith))

-- and together they have every address of them
pub list_any-page_pairs : (heap : HeapPart) (owners : List (Option BoxId)) (b a : ℕ) → IsGrouped heap → own_page heap owners b a ≡ true → list_any (λ p. matches p a) (page_pairs (Some heap) owners b) ≡ true
list_any-page_pairs heap owners b a it found =
    let place = page_in_own_group heap owners b a it found in
    list_any-flat_map_at (λ p. matches p a) (page_group heap owners b) (range_with_len 0 (heap.count / 8)) place.0 place.0
    (slice_get-range 0 (heap.count / 8) place.0 place.1 ∙ ap Some (omega arith))
    (list_any-page_group heap owners b place.0 a it ∙ place.2)
