-- Only the page group in which an address lies can serve it.
use Rattle.std.proofs.Common.{◌≡◌, ℕ, zero, suc, ◌+◌, ◌-◌, ◌*◌, ◌/◌, ◌<◌, ◌≤◌, ◌⊎◌, false, List, ◌++◌, Option, Some, None, refl, ◌∙◌, ap, arith, inl, inr}
use Rattle.std.specs.List.{flat_map, range_with_len}
use Rattle.std.proofs.lemmas.Bool.{cases_eq}
use Rattle.std.proofs.lemmas.Bool.Decides.{nat_tests}
use Rattle.std.proofs.lemmas.Nat.{mul-le}
use Rattle.std.proofs.Math.Nat.{div-mul-le_self, lt-div-mul-add, lt_of_lt_of_le}
use Rattle.addr_base.specs.declared.identity.BoxId.{BoxId}
use Rattle.addr_base.specs.declared.pairs.Pair.{Pair}
use Rattle.addr_base.specs.declared.rights.Kind.{Kind}
use Rattle.flat_model.specs.declared.boards.HeapPart.{HeapPart}
use Rattle.flat_model.specs.Cover.{group_pair}
use Rattle.flat_model.specs.Decision.{matches}
use Rattle.flat_model.specs.Plan.{first_serving, owned_mask, page_group, page_pairs, serves}
use Rattle.flat_model.proofs.PageGroups.{in_group, matches-group}
use Rattle.flat_model.proofs.PagePairs.{owned_mask_below}
use Rattle.flat_model.proofs.Powers.{at_least_32}
use Rattle.region_rotation.specs.Ready.{IsHeapBelow}
use Rattle.region_rotation.proofs.Groups.{first_serving-empty, first_serving-none, first_serving-off, groups_from, groups_more}
use Rattle.region_rotation.proofs.Serving.{first_serving-left, first_serving-right}

module _ (heap : HeapPart) (owners : List (Option BoxId)) (b a : ℕ) (kind : Kind) (it : IsHeapBelow heap) where
  abbrev pair_at : ℕ → Pair
  pair_at g = group_pair (heap.base + 8 * g * heap.page) heap.page (owned_mask owners b (8 * g) 8)

  mask-small : (g : ℕ) → owned_mask owners b (8 * g) 8 < 256
  mask-small g = owned_mask_below owners b (8 * g) 8

  apart : (base page mask : ℕ) → (a < base) ⊎ (base + 8 * page ≤ a) → in_group base page mask a ≡ false
  apart base page mask (inl low) = grind (arith, nat_tests)
  apart base page mask (inr high) = grind (arith, nat_tests)

  -- a group that doesn't have the address serves nothing there
  off : (g : ℕ) → (a < heap.base + 8 * g * heap.page) ⊎ (heap.base + 8 * g * heap.page + 8 * heap.page ≤ a) → serves a kind (pair_at g) ≡ false
  off g away =
      let none : matches (pair_at g) a ≡ false =
      matches-group (heap.base + 8 * g * heap.page) heap.page (owned_mask owners b (8 * g) 8) a it.grouped.page_is (mask-small g)
      ∙ apart (heap.base + 8 * g * heap.page) heap.page (owned_mask owners b (8 * g) 8) away in
      rw none refl

  skip : (g : ℕ) → g < heap.count / 8 → serves a kind (pair_at g) ≡ false →
      first_serving a kind (groups_from heap owners b g) ≡ first_serving a kind (groups_from heap owners b (g + 1))
  skip g below none = elim (cases_eq (owned_mask owners b (8 * g) 8) 0) [
    | inl empty ↦ first_serving-empty heap owners b a kind g below empty
    | inr some ↦ first_serving-off heap owners b a kind g below some none
  ]

  skip-to : (n g : ℕ) → g + n ≤ heap.count / 8 → ((i : ℕ) → g ≤ i → i < g + n → serves a kind (pair_at i) ≡ false) →
      first_serving a kind (groups_from heap owners b g) ≡ first_serving a kind (groups_from heap owners b (g + n))
  skip-to zero g fits none = let same : g ≡ g + 0 = omega arith in ap (λ x. first_serving a kind (groups_from heap owners b x)) same
  skip-to (suc n) g fits none =
      let step : g + 1 + n ≡ g + suc n = omega arith in
      skip g (omega arith) (none g (omega arith) (omega arith))
      ∙ skip-to n (g + 1) (omega arith) (λ i low high. none i (omega (arith, low)) (omega (arith, high)))
      ∙ ap (λ x. first_serving a kind (groups_from heap owners b x)) step

  all_pairs : first_serving a kind (page_pairs (Some heap) owners b) ≡ first_serving a kind (groups_from heap owners b 0)
  all_pairs = let none : heap.count / 8 ≡ heap.count / 8 - 0 = omega arith in
      ap (λ n. first_serving a kind (flat_map (page_group heap owners b) (range_with_len 0 n))) none

  -- where no group has the address there is none
  pub first_serving-away : ((i : ℕ) → i < heap.count / 8 → (a < heap.base + 8 * i * heap.page) ⊎ (heap.base + 8 * i * heap.page + 8 * heap.page ≤ a)) →
      first_serving a kind (page_pairs (Some heap) owners b) ≡ None
  first_serving-away away =
      all_pairs ∙ skip-to (heap.count / 8) 0 (omega arith) (λ i low high. off i (away i (omega (arith, high))))
      ∙ first_serving-none heap owners b a kind (0 + heap.count / 8) (omega arith)

  -- the group that has the address alone decides
  pub first_serving-alone : (g : ℕ) → g < heap.count / 8 → heap.base + 8 * g * heap.page ≤ a → a < heap.base + 8 * g * heap.page + 8 * heap.page →
      first_serving a kind (page_pairs (Some heap) owners b) ≡ first_serving a kind (page_group heap owners b g)
  first_serving-alone g below low high =
      let start : 0 + g ≡ g = omega arith in
      let rest : heap.count / 8 ≡ g + 1 + (heap.count / 8 - (g + 1)) = omega (arith, below) in
      let tail : first_serving a kind (groups_from heap owners b (g + 1)) ≡ None =
      skip-to (heap.count / 8 - (g + 1)) (g + 1) (omega (arith, rest)) (λ i from to. off i (inl (later i (omega (arith, from)))))
      ∙ first_serving-none heap owners b a kind (g + 1 + (heap.count / 8 - (g + 1))) (omega (arith, rest)) in
      all_pairs
      ∙ skip-to g 0 (omega (arith, below)) (λ i from to. off i (inr (earlier i (omega (arith, to)))))
      ∙ ap (λ x. first_serving a kind (groups_from heap owners b x)) start
      ∙ ap (first_serving a kind) (groups_more heap owners b g below)
      ∙ joined (first_serving a kind (page_group heap owners b g)) refl tail
    where
      later : (i : ℕ) → g + 1 ≤ i → a < heap.base + 8 * i * heap.page
      later i h =
          let more : 8 * (g + 1) * heap.page ≤ 8 * i * heap.page = mul-le (8 * (g + 1)) heap.page (8 * i) heap.page (omega (arith, h)) (omega arith) in
          omega (arith, more, high)

      earlier : (i : ℕ) → i < g → heap.base + 8 * i * heap.page + 8 * heap.page ≤ a
      earlier i h =
          let more : 8 * (i + 1) * heap.page ≤ 8 * g * heap.page = mul-le (8 * (i + 1)) heap.page (8 * g) heap.page (omega (arith, h)) (omega arith) in
          omega (arith, more, low)

      joined : (o : Option Pair) → first_serving a kind (page_group heap owners b g) ≡ o → first_serving a kind (groups_from heap owners b (g + 1)) ≡ None →
          first_serving a kind (page_group heap owners b g ++ groups_from heap owners b (g + 1)) ≡ o
      joined None here rest = first_serving-right a kind (page_group heap owners b g) (groups_from heap owners b (g + 1)) here ∙ rest
      joined (Some p) here rest = first_serving-left a kind (page_group heap owners b g) (groups_from heap owners b (g + 1)) p here

  -- ---- and division finds it

  -- before the heap there is none
  pub first_serving-before : a < heap.base → first_serving a kind (page_pairs (Some heap) owners b) ≡ None
  first_serving-before low = first_serving-away (λ i below. inl (omega (arith, low)))

  behind : (q i : ℕ) → q * (8 * heap.page) ≤ a - heap.base → heap.base ≤ a → i < q → heap.base + 8 * i * heap.page + 8 * heap.page ≤ a
  behind q i down from less =
      let up : (i + 1) * (8 * heap.page) ≤ q * (8 * heap.page) = mul-le (i + 1) (8 * heap.page) q (8 * heap.page) (omega (arith, less)) (omega arith) in
      omega (arith, up, down, from)

  inside : (q : ℕ) → q * (8 * heap.page) ≤ a - heap.base → heap.base ≤ a → heap.base + 8 * q * heap.page ≤ a
  inside q down from = omega (arith, down, from)

  ahead : (q : ℕ) → a - heap.base < q * (8 * heap.page) + 8 * heap.page → a < heap.base + 8 * q * heap.page + 8 * heap.page
  ahead q up = omega (arith, up)

  some_bytes : 0 < 8 * heap.page
  some_bytes = omega (arith, it.grouped.page_is.is_power, at_least_32 it.grouped.page_is.exponent it.grouped.page_is.low)

  -- behind the last group there is none
  pub first_serving-beyond : heap.base ≤ a → heap.count / 8 ≤ (a - heap.base) / (8 * heap.page) → first_serving a kind (page_pairs (Some heap) owners b) ≡ None
  first_serving-beyond from past =
      first_serving-away (λ i below.
      inr (behind ((a - heap.base) / (8 * heap.page)) i (div-mul-le_self (a - heap.base) (8 * heap.page)) from (lt_of_lt_of_le below past)))

  -- the group at the quotient decides
  pub first_serving-divided : heap.base ≤ a → (a - heap.base) / (8 * heap.page) < heap.count / 8 →
      first_serving a kind (page_pairs (Some heap) owners b) ≡ first_serving a kind (page_group heap owners b ((a - heap.base) / (8 * heap.page)))
  first_serving-divided from below =
      first_serving-alone ((a - heap.base) / (8 * heap.page)) below
      (inside ((a - heap.base) / (8 * heap.page)) (div-mul-le_self (a - heap.base) (8 * heap.page)) from)
      (ahead ((a - heap.base) / (8 * heap.page)) (lt-div-mul-add {a = a - heap.base} {b = 8 * heap.page} some_bytes))
