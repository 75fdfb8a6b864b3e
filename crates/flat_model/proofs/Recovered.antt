-- What a denial and a rotation tell of a box, also where pages that it freed still stand in the circle.
use Rattle.std.proofs.Common.{◌≡◌, ℕ, ◌-◌, ◌/◌, true, false, List, Option, Some, None, refl, sym, ◌∙◌, arith, inl, inr}
use Rattle.std.specs.Prelude.{is_some, IfSome}
use Rattle.std.specs.List.{Contains, slice_get}
use Rattle.std.proofs.lemmas.Bool.{and_parts, cases_Bool, false_from_ne_true, false≢true}
use Rattle.std.proofs.lemmas.List.Elements.{All-contains, All-from_recursion, Contains-append_cases}
use Rattle.addr_base.specs.declared.identity.BoxId.{BoxId}
use Rattle.addr_base.specs.declared.pairs.Pair.{Pair}
use Rattle.addr_base.specs.declared.pairs.Verdict.TheVariants.{Denied}
use Rattle.addr_base.specs.declared.rights.Kind.{Kind}
use Rattle.addr_base.specs.Range.{in_range}
use Rattle.flat_model.specs.declared.boards.HeapPart.{HeapPart}
use Rattle.flat_model.specs.declared.parts.BoxPart.{BoxPart}
use Rattle.flat_model.specs.declared.parts.Config.{Config}
use Rattle.flat_model.specs.Access.{holds, owns}
use Rattle.flat_model.specs.Decision.{decision, is_granted}
use Rattle.flat_model.specs.Plan.{REGIONS, first_serving, flash_pair, grant_pairs, overlay_pair, own_pair, page_pairs, plan_of, switch_slots}
use Rattle.flat_model.proofs.Granted.{holds-held}
use Rattle.flat_model.specs.Pages.{HasOwners}
use Rattle.flat_model.specs.Circle.{IsGrouped, IsTurnedBy, OnCircle}
use Rattle.flat_model.proofs.PageGroups.{gives_pages}
use Rattle.flat_model.proofs.PagePairs.{OfPages, each-page_pairs, in_all_pages}
use Rattle.flat_model.proofs.Pieces.{held_by, held_by-at, none_held}
use Rattle.flat_model.proofs.Placed.{IsPlaced, in_heap_range}
use Rattle.flat_model.proofs.Recovery.{IsHeapApart, IsHonest, IsLoose, IsLoose-from_honest, granted-recovered, recovers}
use Rattle.flat_model.proofs.Suited.{ArePiecesApart-pieces_of, IsSuited-placed, each_grant_pair, each_piece_off, in_own_pages, matches-flash, matches-own, page_piece, pieces_of}
use Rattle.flat_model.proofs.Turning.{IsTurnedBy-weaker, touched_pairs}

-- the pair is of the box's plan for some owners
abbrev pub IsPlanned : Config → ℕ → BoxPart → Pair → Type 0
IsPlanned cfg b part p = (others : List (Option BoxId)) × Contains (plan_of cfg others b part) p

module _ (cfg : Config) (owners : List (Option BoxId)) (b : ℕ) (part : BoxPart) (placed : IsPlaced cfg.board part) where
  -- an address of the heap is in no other piece
  only_pages : (a : ℕ) (kind : Kind) → in_heap_range cfg.board.heap a ≡ true → held_by (pieces_of cfg.board part owners b) a kind ≡ true → gives_pages kind ≡ true
  only_pages a kind heap held = elim (cases_Bool (in_own_pages cfg.board.heap owners b a)) [
    | inl own ↦ sym (held_by-at (pieces_of cfg.board part owners b) a kind 2 (page_piece cfg.board.heap owners b) (ArePiecesApart-pieces_of cfg.board part owners b placed) refl own) ∙ held
    | inr off ↦
        let flash : in_range cfg.board.flash a ≡ false = false_from_ne_true (in_range cfg.board.flash a) (λ is. false≢true (sym (placed.flash_heap a is) ∙ heap)) in
        let own : in_range part.own a ≡ false = false_from_ne_true (in_range part.own a) (λ is. false≢true (sym (placed.own_heap a is) ∙ heap)) in
        absurd (false≢true (sym (none_held (pieces_of cfg.board part owners b) a kind ((rw flash refl), (own, (off, each_piece_off part.grants a (placed.heap_grants a heap))))) ∙ held))
  ]

  pub IsHeapApart-placed : IsHeapApart (held_by (pieces_of cfg.board part owners b)) (in_heap_range cfg.board.heap) (flash_pair cfg.board) (own_pair part)
  IsHeapApart-placed = record {
    flash_off = λ a heap. matches-flash cfg.board part owners b placed a ∙ false_from_ne_true (in_range cfg.board.flash a) (λ is. false≢true (sym (placed.flash_heap a is) ∙ heap));
    own_off = λ a heap. matches-own cfg.board part owners b placed a ∙ false_from_ne_true (in_range part.own a) (λ is. false≢true (sym (placed.own_heap a is) ∙ heap));
    no_fetch = only_pages;
  }

  loose_pages : (others : List (Option BoxId)) (p : Pair) → Contains (page_pairs cfg.board.heap others b) p → IsLoose (held_by (pieces_of cfg.board part owners b)) (in_heap_range cfg.board.heap) p
  loose_pages others p is = from_heap cfg.board.heap placed.heap is
    where
      from_heap : (heap : Option HeapPart) → IfSome heap IsGrouped → Contains (page_pairs heap others b) p → IsLoose (held_by (pieces_of cfg.board part owners b)) (in_heap_range heap) p
      from_heap None it is = absurd (omega (arith, is.1))
      from_heap (Some h) it is =
          let of = All-contains (OfPages h others b) (page_pairs (Some h) others b) p (All-from_recursion (OfPages h others b) (page_pairs (Some h) others b) (each-page_pairs h others b it)) is in
          λ a found. inr ((and_parts (in_all_pages h a) (owns others b ((a - h.base) / h.page)) (of.inside a found)).0, of.given)

  -- a pair of the plan, whoever owned the pages then
  pub IsLoose-planned : (p : Pair) → IsPlanned cfg b part p → IsLoose (held_by (pieces_of cfg.board part owners b)) (in_heap_range cfg.board.heap) p
  IsLoose-planned p planned = elim (Contains-append_cases (grant_pairs part.grants) (page_pairs cfg.board.heap planned.0 b) p planned.1) [
    | inl grant ↦ IsLoose-from_honest (held_by (pieces_of cfg.board part owners b)) (in_heap_range cfg.board.heap) p
        (All-contains (IsHonest (held_by (pieces_of cfg.board part owners b))) (grant_pairs part.grants) p
        (All-from_recursion (IsHonest (held_by (pieces_of cfg.board part owners b))) (grant_pairs part.grants) (each_grant_pair cfg.board part owners b placed)) grant)
    | inr page ↦ loose_pages planned.0 p page
  ]

  module _ (found : slice_get cfg.boxes b ≡ Some part) (all : HasOwners cfg.board.heap owners) (pairs : List Pair) (turned : IsTurnedBy (IsPlanned cfg b part) (switch_slots cfg part) pairs) (a : ℕ) (kind : Kind) (denied : decision pairs a kind ≡ Denied) where
    loose : IsTurnedBy (IsLoose (held_by (pieces_of cfg.board part owners b)) (in_heap_range cfg.board.heap)) (switch_slots cfg part) pairs
    loose = IsTurnedBy-weaker (IsPlanned cfg b part) (IsLoose (held_by (pieces_of cfg.board part owners b)) (in_heap_range cfg.board.heap)) IsLoose-planned (switch_slots cfg part) pairs turned

    -- After a denial a pair of the plan serves exactly where the box holds the byte.
    pub is_some-recovered : is_some (first_serving a kind (plan_of cfg owners b part)) ≡ holds cfg owners b a 1 kind
    is_some-recovered =
        recovers (held_by (pieces_of cfg.board part owners b)) (in_heap_range cfg.board.heap) REGIONS (flash_pair cfg.board) (own_pair part) (overlay_pair cfg.board part) (plan_of cfg owners b part)
        (omega arith) (IsSuited-placed cfg.board part owners b placed) IsHeapApart-placed pairs a kind loose denied
        ∙ sym (holds-held cfg owners b a 1 kind part found placed all (inl refl) (omega arith))

    -- With that pair in the circle the unit grants exactly what the box holds.
    pub is_granted-recovered : (c : ℕ) → OnCircle REGIONS c → is_granted (decision (touched_pairs (plan_of cfg owners b part) pairs c a kind) a kind) ≡ holds cfg owners b a 1 kind
    is_granted-recovered c on =
        granted-recovered (held_by (pieces_of cfg.board part owners b)) (in_heap_range cfg.board.heap) REGIONS (flash_pair cfg.board) (own_pair part) (overlay_pair cfg.board part) (plan_of cfg owners b part)
        (omega arith) (IsSuited-placed cfg.board part owners b placed) IsHeapApart-placed pairs a kind c loose on denied
        ∙ sym (holds-held cfg owners b a 1 kind part found placed all (inl refl) (omega arith))
