-- The first page group that serves an access, group by group.
use Rattle.std.proofs.Common.{◌≡◌, ℕ, suc, ◌+◌, ◌-◌, ◌*◌, ◌/◌, ◌<◌, ◌≤◌, false, List, [], ◌∷◌, ◌++◌, Option, None, ◌∙◌, ap, arith}
use Rattle.std.specs.Prelude.{if◌then◌else◌}
use Rattle.std.specs.List.{flat_map, range_with_len}
use Rattle.std.proofs.lemmas.Bool.{ne_eqb, eq-eqb}
use Rattle.addr_base.specs.declared.identity.BoxId.{BoxId}
use Rattle.addr_base.specs.declared.pairs.Pair.{Pair}
use Rattle.addr_base.specs.declared.rights.Kind.{Kind}
use Rattle.flat_model.specs.declared.boards.HeapPart.{HeapPart}
use Rattle.flat_model.specs.Cover.{group_pair}
use Rattle.flat_model.specs.Plan.{first_serving, owned_mask, page_group, serves}
use Rattle.region_rotation.proofs.Serving.{first_serving-past}

-- the pairs of the page groups from g on
abbrev pub groups_from : HeapPart → List (Option BoxId) → ℕ → ℕ → List Pair
groups_from heap owners b g = flat_map (page_group heap owners b) (range_with_len g (heap.count / 8 - g))

module _ (heap : HeapPart) (owners : List (Option BoxId)) (b : ℕ) where
  pub groups_more : (g : ℕ) → g < heap.count / 8 → groups_from heap owners b g ≡ page_group heap owners b g ++ groups_from heap owners b (g + 1)
  groups_more g below =
      let step : heap.count / 8 - g ≡ suc (heap.count / 8 - (g + 1)) = omega arith in
      ap (λ n. flat_map (page_group heap owners b) (range_with_len g n)) step

  group_empty : (g : ℕ) → owned_mask owners b (8 * g) 8 ≡ 0 → page_group heap owners b g ≡ []
  group_empty g none = ap (λ t. if t then [] else (group_pair (heap.base + 8 * g * heap.page) heap.page (owned_mask owners b (8 * g) 8) ∷ [])) (eq-eqb (owned_mask owners b (8 * g) 8) 0 none)

  group_full : (g : ℕ) → (owned_mask owners b (8 * g) 8 ≡ 0 → ⊥) → page_group heap owners b g ≡ group_pair (heap.base + 8 * g * heap.page) heap.page (owned_mask owners b (8 * g) 8) ∷ []
  group_full g some = ap (λ t. if t then [] else (group_pair (heap.base + 8 * g * heap.page) heap.page (owned_mask owners b (8 * g) 8) ∷ [])) (ne_eqb (owned_mask owners b (8 * g) 8) 0 some)

  module _ (a : ℕ) (kind : Kind) where
    -- a group without a page of the box is passed
    pub first_serving-empty : (g : ℕ) → g < heap.count / 8 → owned_mask owners b (8 * g) 8 ≡ 0 → first_serving a kind (groups_from heap owners b g) ≡ first_serving a kind (groups_from heap owners b (g + 1))
    first_serving-empty g below none =
        ap (first_serving a kind) (groups_more g below ∙ ap (λ ps. ps ++ groups_from heap owners b (g + 1)) (group_empty g none))

    -- and so is one whose pair doesn't serve
    pub first_serving-off : (g : ℕ) → g < heap.count / 8 → (owned_mask owners b (8 * g) 8 ≡ 0 → ⊥) → serves a kind (group_pair (heap.base + 8 * g * heap.page) heap.page (owned_mask owners b (8 * g) 8)) ≡ false → first_serving a kind (groups_from heap owners b g) ≡ first_serving a kind (groups_from heap owners b (g + 1))
    first_serving-off g below some off =
        ap (first_serving a kind) (groups_more g below ∙ ap (λ ps. ps ++ groups_from heap owners b (g + 1)) (group_full g some))
        ∙ first_serving-past a kind (group_pair (heap.base + 8 * g * heap.page) heap.page (owned_mask owners b (8 * g) 8)) (groups_from heap owners b (g + 1)) off

    -- past the last group there is none
    pub first_serving-none : (g : ℕ) → heap.count / 8 ≤ g → first_serving a kind (groups_from heap owners b g) ≡ None
    first_serving-none g past =
        let none : heap.count / 8 - g ≡ 0 = omega arith in
        ap (λ n. first_serving a kind (flat_map (page_group heap owners b) (range_with_len g n))) none
