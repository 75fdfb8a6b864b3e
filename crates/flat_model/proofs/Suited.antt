-- The regions of a switch and the plan of a box fit what the box holds.
use Rattle.std.proofs.Common.{◌≡◌, ℕ, zero, suc, Bool, true, false, List, [], ◌∷◌, ◌++◌, map, Option, Some, None, refl, sym, ◌∙◌, ap, arith, inl, inr, ◌⊎◌}
use Rattle.std.specs.Prelude.{◌&&◌, not, IfSome, if◌then◌else◌}
use Rattle.std.specs.List.{AllByRecursion, list_any, slice_get}
use Rattle.std.specs.Option.{option_map, option_map_or}
use Rattle.std.proofs.lemmas.Bool.{and_parts, and_from, false≢true, not_from_false, or_left, or_right}
use Rattle.std.proofs.lemmas.List.Folds.{list_any-append}
use Rattle.std.proofs.lemmas.Option.{same_Some, slice_get-map}
use Rattle.addr_base.specs.declared.identity.BoxId.{BoxId}
use Rattle.addr_base.specs.declared.pairs.Pair.{Pair}
use Rattle.addr_base.specs.declared.ranges.Range.{Range}
use Rattle.addr_base.specs.declared.rights.Kind.{Kind}
use Rattle.addr_base.specs.Range.{in_range}
use Rattle.addr_base.specs.Rights.{gives, read_execute, read_write}
use Rattle.flat_model.specs.declared.boards.Board.{Board}
use Rattle.flat_model.specs.declared.boards.HeapPart.{HeapPart}
use Rattle.flat_model.specs.declared.parts.BoxPart.{BoxPart}
use Rattle.flat_model.specs.declared.parts.Item.{Item}
use Rattle.flat_model.specs.Cover.{NO_ACCESS, cover_of, pair_of}
use Rattle.flat_model.specs.Decision.{matches, pair_gives}
use Rattle.flat_model.specs.Plan.{flash_pair, grant_pairs, no_pair, overlay_pair, own_pair, page_pairs, serves}
use Rattle.flat_model.specs.Sound.{AreGrantsApart}
use Rattle.flat_model.specs.Circle.{IsGrouped}
use Rattle.flat_model.proofs.Covers.{OfCover, each-cover_of, list_any-cover_of, matches-hidden, matches-pair_of_rights, pair_gives-hidden, pair_gives-pair_of_rights}
use Rattle.flat_model.proofs.Elements.{each-append, each-flat_map, each-from_get, each-get, each-map, each_weaker, list_any_at_get, list_any_found}
use Rattle.flat_model.proofs.HeldBytes.{is_hidden}
use Rattle.flat_model.proofs.PageGroups.{gives_pages}
use Rattle.flat_model.proofs.PagePairs.{OfPages, each-page_pairs, in_all_pages, list_any-flat_map_at, list_any-page_pairs, own_page}
use Rattle.flat_model.proofs.Pieces.{ArePiecesApart, IsIn, IsIn-held_by, Piece, held_by, held_by-at, none_held}
use Rattle.flat_model.proofs.Placed.{IsPlaced, IsSecretOf, IsTiledGrant, bounds_of, in_heap_range, in_range-from}
use Rattle.flat_model.proofs.Recovery.{IsHonest, IsSuited}

-- whether there is a heap and the address is in a page of the box
abbrev pub in_own_pages : Option HeapPart → List (Option BoxId) → ℕ → ℕ → Bool
in_own_pages None owners b a = false
in_own_pages (Some heap) owners b a = own_page heap owners b a

abbrev pub flash_piece : Board → BoxPart → Piece
flash_piece board part = record {
  has = λ a. in_range board.flash a && not (is_hidden board.secret part.secret a);
  gives = gives read_execute;
}

abbrev pub own_piece : BoxPart → Piece
own_piece part = record { has = in_range part.own; gives = gives read_write }

abbrev pub page_piece : Option HeapPart → List (Option BoxId) → ℕ → Piece
page_piece heap owners b = record { has = in_own_pages heap owners b; gives = gives_pages }

abbrev pub grant_piece : Item → Piece
grant_piece g = record { has = in_range g.range; gives = gives g.rights }

-- what a box holds, as pieces
abbrev pub pieces_of : Board → BoxPart → List (Option BoxId) → ℕ → List Piece
pieces_of board part owners b =
    flash_piece board part ∷ own_piece part ∷ page_piece board.heap owners b ∷ map grant_piece part.grants

-- ---- the pieces are apart

own_pages-in_heap : (heap : Option HeapPart) (owners : List (Option BoxId)) (b a : ℕ) → in_heap_range heap a ≡ false → in_own_pages heap owners b a ≡ false
own_pages-in_heap None owners b a off = refl
own_pages-in_heap (Some h) owners b a off = rw off refl

in_heap-own_pages : (heap : Option HeapPart) (owners : List (Option BoxId)) (b a : ℕ) → in_own_pages heap owners b a ≡ true → in_heap_range heap a ≡ true
in_heap-own_pages None owners b a on = absurd (false≢true on)
in_heap-own_pages (Some h) owners b a on = (and_parts (in_all_pages h a) _ on).0

pub each_piece_off : (grants : List Item) (a : ℕ) → AllByRecursion (λ g. in_range g.range a ≡ false) grants → AllByRecursion (λ y. y.has a ≡ false) (map grant_piece grants)
each_piece_off grants a each =
    each-map grant_piece (λ g. in_range g.range a ≡ false) (λ y. y.has a ≡ false) (λ g off. off) grants each

ArePiecesApart-grants : (grants : List Item) → AreGrantsApart grants → ArePiecesApart (map grant_piece grants)
ArePiecesApart-grants [] apart = tt
ArePiecesApart-grants (g ∷ grants) apart = (
  λ a is. each_piece_off grants a (each_weaker _ (λ other. in_range other.range a ≡ false) (λ other off. off a is) grants apart.0),
  ArePiecesApart-grants grants apart.1,
)

module _ (board : Board) (part : BoxPart) (owners : List (Option BoxId)) (b : ℕ) (placed : IsPlaced board part) where
  pub ArePiecesApart-pieces_of : ArePiecesApart (pieces_of board part owners b)
  ArePiecesApart-pieces_of = (
    λ a is. let flash = (and_parts (in_range board.flash a) (not (is_hidden board.secret part.secret a)) is).0 in
        (placed.flash_own a flash, (own_pages-in_heap board.heap owners b a (placed.flash_heap a flash), each_piece_off part.grants a (placed.flash_grants a flash))),
    (
      λ a is. (own_pages-in_heap board.heap owners b a (placed.own_heap a is), each_piece_off part.grants a (placed.own_grants a is)),
      (
        λ a is. each_piece_off part.grants a (placed.heap_grants a (in_heap-own_pages board.heap owners b a is)),
        ArePiecesApart-grants part.grants placed.grants_apart,
      ),
    ),
  )

  -- at an address of a piece, what is held is what that piece gives
  held-at : (i : ℕ) (x : Piece) → slice_get (pieces_of board part owners b) i ≡ Some x → (a : ℕ) → x.has a ≡ true → (kind : Kind) → held_by (pieces_of board part owners b) a kind ≡ x.gives kind
  held-at i x found a here kind = held_by-at (pieces_of board part owners b) a kind i x ArePiecesApart-pieces_of found here

  grant_at : (i : ℕ) (g : Item) → slice_get part.grants i ≡ Some g → slice_get (pieces_of board part owners b) (suc (suc (suc i))) ≡ Some (grant_piece g)
  grant_at i g found = slice_get-map grant_piece part.grants i ∙ ap (option_map grant_piece) found

  pub matches-flash : (a : ℕ) → matches (flash_pair board) a ≡ in_range board.flash a
  matches-flash a = matches-pair_of_rights board.flash read_execute placed.flash a

  pub matches-own : (a : ℕ) → matches (own_pair part) a ≡ in_range part.own a
  matches-own a = matches-pair_of_rights part.own read_write placed.own a

  -- the overlay has exactly the addresses that are hidden from the box, and gives nothing there
  pub matches-overlay : (a : ℕ) → matches (overlay_pair board part) a ≡ is_hidden board.secret part.secret a
  matches-overlay a = from_secret board.secret part.secret placed.secret
    where
      from_secret : (secret : Option Range) (owned : Bool) → IfSome secret (IsSecretOf board.flash) → matches (if owned then no_pair else option_map_or (λ s. pair_of s NO_ACCESS) secret no_pair) a ≡ is_hidden secret owned a
      from_secret None true it = refl
      from_secret None false it = refl
      from_secret (Some s) true it = refl
      from_secret (Some s) false it = matches-hidden s it.block a

  gives_nothing : (a : ℕ) → matches (overlay_pair board part) a ≡ true → (kind : Kind) → pair_gives (overlay_pair board part) kind ≡ false
  gives_nothing a found kind = from_secret board.secret part.secret placed.secret found
    where
      from_secret : (secret : Option Range) (owned : Bool) → IfSome secret (IsSecretOf board.flash) → matches (if owned then no_pair else option_map_or (λ s. pair_of s NO_ACCESS) secret no_pair) a ≡ true → pair_gives (if owned then no_pair else option_map_or (λ s. pair_of s NO_ACCESS) secret no_pair) kind ≡ false
      from_secret None true it found = absurd (false≢true found)
      from_secret None false it found = absurd (false≢true found)
      from_secret (Some s) true it found = absurd (false≢true found)
      from_secret (Some s) false it found = pair_gives-hidden s it.block kind

  hidden_in_flash : (a : ℕ) → is_hidden board.secret part.secret a ≡ true → in_range board.flash a ≡ true
  hidden_in_flash a is = from_secret board.secret part.secret placed.secret is
    where
      from_secret : (secret : Option Range) (owned : Bool) → IfSome secret (IsSecretOf board.flash) → is_hidden secret owned a ≡ true → in_range board.flash a ≡ true
      from_secret None owned it is = absurd (false≢true is)
      from_secret (Some s) true it is = absurd (false≢true is)
      from_secret (Some s) false it is =
          let at = bounds_of s a is in
          in_range-from board.flash a (omega (arith, it.low, at.0)) (omega (arith, it.high, at.1))

  -- nothing is held where the secret range hides flash
  none_hidden : (a : ℕ) → is_hidden board.secret part.secret a ≡ true → (kind : Kind) → held_by (pieces_of board part owners b) a kind ≡ false
  none_hidden a is kind =
      let flash : in_range board.flash a ≡ true = hidden_in_flash a is in
      none_held (pieces_of board part owners b) a kind (
        (rw (flash, is) refl),
        (placed.flash_own a flash, (own_pages-in_heap board.heap owners b a (placed.flash_heap a flash), each_piece_off part.grants a (placed.flash_grants a flash))),
      )

  -- each pair of the grants gives what is held
  pub each_grant_pair : AllByRecursion (IsHonest (held_by (pieces_of board part owners b))) (grant_pairs part.grants)
  each_grant_pair =
      each-flat_map (λ g. cover_of g.range g.rights)
      (λ g. IsTiledGrant g × ((a : ℕ) → in_range g.range a ≡ true → (kind : Kind) → held_by (pieces_of board part owners b) a kind ≡ gives g.rights kind))
      (IsHonest (held_by (pieces_of board part owners b)))
      (λ g it. each_weaker (OfCover g.range g.rights) (IsHonest (held_by (pieces_of board part owners b)))
      (λ p of a found kind. of.given kind ∙ sym (it.1 a (of.inside a found) kind))
      (cover_of g.range g.rights) (each-cover_of g.range g.rights it.0.tiled it.0.reads))
      part.grants
      (each-from_get _ part.grants (λ i g found. (
        each-get IsTiledGrant part.grants i g placed.grants found,
        λ a is kind. held-at (suc (suc (suc i))) (grant_piece g) (grant_at i g found) a is kind,
      )))

  each_page_pair : AllByRecursion (IsHonest (held_by (pieces_of board part owners b))) (page_pairs board.heap owners b)
  each_page_pair = from_heap board.heap refl placed.heap
    where
      from_heap : (heap : Option HeapPart) → board.heap ≡ heap → IfSome heap IsGrouped → AllByRecursion (IsHonest (held_by (pieces_of board part owners b))) (page_pairs heap owners b)
      from_heap None is it = tt
      from_heap (Some h) is it =
          each_weaker (OfPages h owners b) (IsHonest (held_by (pieces_of board part owners b)))
          (λ p of a found kind. of.given kind ∙ sym (held-at 2 (page_piece board.heap owners b) refl a (ap (λ o. in_own_pages o owners b a) is ∙ of.inside a found) kind))
          (page_pairs (Some h) owners b) (each-page_pairs h owners b it)

  -- some pair that matches and gives a kind serves it
  served_by : (a : ℕ) (kind : Kind) (ps : List Pair) → list_any (λ p. matches p a) ps ≡ true → AllByRecursion (λ p. pair_gives p kind ≡ true) ps → list_any (serves a kind) ps ≡ true
  served_by a kind ps some each =
      let it = list_any_found (λ p. matches p a) ps some in
      list_any_at_get (serves a kind) ps it.0 it.1 it.2
      (and_from (matches it.1 a) (pair_gives it.1 kind) it.3 (each-get (λ p. pair_gives p kind ≡ true) ps it.0 it.1 each it.2))

  -- what a grant holds a pair of its cover serves
  grant_served : (i : ℕ) (g : Item) (a : ℕ) (kind : Kind) → slice_get part.grants i ≡ Some g → in_range g.range a ≡ true → gives g.rights kind ≡ true → list_any (serves a kind) (grant_pairs part.grants) ≡ true
  grant_served i g a kind found here given =
      let it : IsTiledGrant g = each-get IsTiledGrant part.grants i g placed.grants found in
      list_any-flat_map_at (serves a kind) (λ g. cover_of g.range g.rights) part.grants i g found
      (served_by a kind (cover_of g.range g.rights) (list_any-cover_of g.range g.rights it.tiled a ∙ here)
      (each_weaker (OfCover g.range g.rights) (λ p. pair_gives p kind ≡ true) (λ p of. of.given kind ∙ given)
      (cover_of g.range g.rights) (each-cover_of g.range g.rights it.tiled it.reads)))

  -- what a page holds a pair of its group serves
  page_served : (a : ℕ) (kind : Kind) → in_own_pages board.heap owners b a ≡ true → gives_pages kind ≡ true → list_any (serves a kind) (page_pairs board.heap owners b) ≡ true
  page_served a kind here given = from_heap board.heap placed.heap here
    where
      from_heap : (heap : Option HeapPart) → IfSome heap IsGrouped → in_own_pages heap owners b a ≡ true → list_any (serves a kind) (page_pairs heap owners b) ≡ true
      from_heap None it here = absurd (false≢true here)
      from_heap (Some h) it here =
          served_by a kind (page_pairs (Some h) owners b) (list_any-page_pairs h owners b a it here)
          (each_weaker (OfPages h owners b) (λ p. pair_gives p kind ≡ true) (λ p of. of.given kind ∙ given)
          (page_pairs (Some h) owners b) (each-page_pairs h owners b it))

  plan_served : (a : ℕ) (kind : Kind) → (list_any (serves a kind) (grant_pairs part.grants) ≡ true) ⊎ (list_any (serves a kind) (page_pairs board.heap owners b) ≡ true) → list_any (serves a kind) (grant_pairs part.grants ++ page_pairs board.heap owners b) ≡ true
  plan_served a kind either =
      list_any-append (serves a kind) (grant_pairs part.grants) (page_pairs board.heap owners b)
      ∙ elim either [
        | inl grant ↦ or_left _ _ grant
        | inr page ↦ or_right _ _ page
      ]

  -- all that is held is in flash, in own memory or in the plan
  all_served : (a : ℕ) (kind : Kind) → IsIn (pieces_of board part owners b) a kind → (matches (flash_pair board) a ≡ true) ⊎ ((matches (own_pair part) a ≡ true) ⊎ (list_any (serves a kind) (grant_pairs part.grants ++ page_pairs board.heap owners b) ≡ true))
  all_served a kind it = at_place it.place it.piece it.at it.here it.given
    where
      at_place : (i : ℕ) (x : Piece) → slice_get (pieces_of board part owners b) i ≡ Some x → x.has a ≡ true → x.gives kind ≡ true → (matches (flash_pair board) a ≡ true) ⊎ ((matches (own_pair part) a ≡ true) ⊎ (list_any (serves a kind) (grant_pairs part.grants ++ page_pairs board.heap owners b) ≡ true))
      at_place zero x at here given =
          let same : flash_piece board part ≡ x = same_Some (flash_piece board part) x at in
          inl (matches-flash a ∙ (and_parts (in_range board.flash a) (not (is_hidden board.secret part.secret a)) (ap (λ y. y.has a) same ∙ here)).0)
      at_place (suc zero) x at here given =
          let same : own_piece part ≡ x = same_Some (own_piece part) x at in
          inr (inl (matches-own a ∙ ap (λ y. y.has a) same ∙ here))
      at_place (suc (suc zero)) x at here given =
          let same : page_piece board.heap owners b ≡ x = same_Some (page_piece board.heap owners b) x at in
          inr (inr (plan_served a kind (inr (page_served a kind (ap (λ y. y.has a) same ∙ here) (ap (λ y. y.gives kind) same ∙ given)))))
      at_place (suc (suc (suc i))) x at here given =
          from_grant (slice_get part.grants i) refl (sym (slice_get-map grant_piece part.grants i) ∙ at)
        where
          from_grant : (o : Option Item) → slice_get part.grants i ≡ o → option_map grant_piece o ≡ Some x → (matches (flash_pair board) a ≡ true) ⊎ ((matches (own_pair part) a ≡ true) ⊎ (list_any (serves a kind) (grant_pairs part.grants ++ page_pairs board.heap owners b) ≡ true))
          from_grant None is e = absurd (cc)
          from_grant (Some g) is e =
              let same : grant_piece g ≡ x = same_Some (grant_piece g) x e in
              inr (inr (plan_served a kind (inl (grant_served i g a kind is (ap (λ y. y.has a) same ∙ here) (ap (λ y. y.gives kind) same ∙ given)))))

  -- the regions of a switch and the plan fit what the box holds
  pub IsSuited-placed : IsSuited (held_by (pieces_of board part owners b)) (flash_pair board) (own_pair part) (overlay_pair board part) (grant_pairs part.grants ++ page_pairs board.heap owners b)
  IsSuited-placed = record {
    flash_gives = λ a found off kind.
        let flash : in_range board.flash a ≡ true = sym (matches-flash a) ∙ found in
        let seen : not (is_hidden board.secret part.secret a) ≡ true = not_from_false (is_hidden board.secret part.secret a) (sym (matches-overlay a) ∙ off) in
        pair_gives-pair_of_rights board.flash read_execute refl placed.flash kind
        ∙ sym (held-at 0 (flash_piece board part) refl a (and_from (in_range board.flash a) (not (is_hidden board.secret part.secret a)) flash seen) kind);
    own_gives = λ a found kind.
        pair_gives-pair_of_rights part.own read_write refl placed.own kind
        ∙ sym (held-at 1 (own_piece part) refl a (sym (matches-own a) ∙ found) kind);
    top_gives = λ a found kind. gives_nothing a found kind ∙ sym (none_hidden a (sym (matches-overlay a) ∙ found) kind);
    plan_gives = each-append (IsHonest (held_by (pieces_of board part owners b))) (grant_pairs part.grants) (page_pairs board.heap owners b) each_grant_pair each_page_pair;
    all = λ a kind held. all_served a kind (IsIn-held_by (pieces_of board part owners b) a kind held);
  }
