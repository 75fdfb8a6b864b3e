-- Over every run of the unit: an access is granted exactly where the box holds it, once it recovered.
use Rattle.std.proofs.Common.{◌≡◌, ℕ, ◌+◌, ◌-◌, ◌*◌, ◌/◌, ◌%◌, ◌^◌, ◌<◌, ◌≤◌, Bool, true, false, List, [], ◌∷◌, map, Option, Some, None, refl, sym, ◌∙◌, ap, subst, arith, inl, inr}
use Rattle.std.specs.Prelude.{◌&&◌, ◌||◌, not, nat_le, nat_lt, IfSome, if◌then◌else◌, slice_set}
use Rattle.std.specs.List.{AllByRecursion, Contains, list_any, slice_get}
use Rattle.std.specs.Option.{option_map_or}
use Rattle.std.proofs.lemmas.Bool.{cases_Bool, eq-eqb, eqb-true, false≢true, ltb-true}
use Rattle.std.proofs.lemmas.List.Folds.{list_any-append}
use Rattle.std.proofs.lemmas.List.Elements.{All-contains, All-from_recursion}
use Rattle.std.proofs.lemmas.Nat.{pow_pos, pow-add}
use Rattle.std.proofs.lemmas.Option.{get_or_from_slice_get, same_Some, slice_get_within}
use Rattle.std.proofs.Math.Nat.{mod_self}
use Rattle.addr_base.specs.declared.identity.BoxId.{BoxId}
use Rattle.addr_base.specs.declared.pairs.Pair.{Pair}
use Rattle.addr_base.specs.declared.ranges.Range.{Range}
use Rattle.addr_base.specs.declared.rights.Kind.{Kind}
use Rattle.addr_base.specs.declared.rights.Kind.TheVariants.{Read, Write, Fetch}
use Rattle.addr_base.specs.Range.{end_of, in_range}
use Rattle.addr_base.specs.Rights.{gives, read_execute, read_write}
use Rattle.flat_model.specs.declared.accesses.Access.{Access}
use Rattle.flat_model.specs.declared.boards.Board.{Board}
use Rattle.flat_model.specs.declared.boards.HeapPart.{HeapPart}
use Rattle.flat_model.specs.declared.parts.BoxPart.{BoxPart}
use Rattle.flat_model.specs.declared.parts.Config.{Config}
use Rattle.flat_model.specs.declared.parts.Item.{Item}
use Rattle.flat_model.specs.Access.{holds, in_heap, is_aligned, is_data, item_holds, items_at, owned_by, owns}
use Rattle.flat_model.specs.Decision.{decision, is_granted}
use Rattle.flat_model.specs.Items.{code_between, flash_items, items_of}
use Rattle.flat_model.specs.Pages.{HasOwners}
use Rattle.flat_model.specs.Plan.{REGIONS, first_serving, flash_pair, overlay_pair, own_pair, plan_of, switch_slots}
use Rattle.flat_model.specs.UnitRun.{UnitState, accessed, entered, flushed, is_last, rotated, rotating_pair, unit_after_event}
use Rattle.flat_model.specs.Circle.{IsGrouped, IsTurnedBy, OnCircle}
use Rattle.flat_model.proofs.Covers.{IsOneBlock}
use Rattle.flat_model.proofs.Elements.{each-append, each_weaker}
use Rattle.flat_model.proofs.Flushing.{OnCircle-next, flushed_pairs-turned}
use Rattle.flat_model.proofs.HeldBytes.{HasWholeWords, IsSize, flash_items-holds, holds_one, in_pages-one, in_pages-own, is_hidden, list_any-item_holds-one}
use Rattle.flat_model.proofs.PageGroups.{gives_pages}
use Rattle.flat_model.proofs.Pieces.{held_by}
use Rattle.flat_model.proofs.Placed.{IsPlaced, IsSecretOf, IsTiledGrant}
use Rattle.flat_model.proofs.Powers.{divides_below}
use Rattle.flat_model.proofs.Recovery.{IsFirst-first_serving, IsHonest, granted-touched}
use Rattle.flat_model.proofs.Suited.{IsSuited-placed, grant_piece, in_own_pages, pieces_of}
use Rattle.flat_model.proofs.Turning.{IsTurnedBy-set, IsTurnedBy-switch, IsTurnedBy-weaker}

-- ---- what a box holds at a byte, as pieces

same_data : (kind : Kind) → is_data kind ≡ gives_pages kind
same_data Read = refl
same_data Write = refl
same_data Fetch = refl

grants_held : (grants : List Item) (a : ℕ) (kind : Kind) → list_any (item_holds a 1 kind) grants ≡ held_by (map grant_piece grants) a kind
grants_held [] a kind = refl
grants_held (g ∷ grants) a kind = rw (holds_one g.range a, grants_held grants a kind) refl

pages_held : (heap : Option HeapPart) (owners : List (Option BoxId)) (b a : ℕ) → IfSome heap IsGrouped → HasOwners heap owners → in_heap (owned_by b) heap a 1 owners ≡ in_own_pages heap owners b a
pages_held None owners b a it all = refl
pages_held (Some h) owners b a it all =
    in_pages-own b h.base h.page a owners (omega (arith, it.page_is.is_power, pow_pos it.page_is.exponent))
    ∙ ap (λ n. nat_le h.base a && nat_lt a (h.base + n * h.page) && owns owners b ((a - h.base) / h.page)) all

regrouped : (f o g d h : Bool) → ((f || (o || g)) || (d && h)) ≡ (f || (o || ((h && d) || g)))
regrouped true o g d h = refl
regrouped false true g d h = refl
regrouped false false g true true = either g
  where
    either : (g : Bool) → (g || true) ≡ true
    either true = refl
    either false = refl
regrouped false false g true false = either g
  where
    either : (g : Bool) → (g || false) ≡ g
    either true = refl
    either false = refl
regrouped false false g false true = either g
  where
    either : (g : Bool) → (g || false) ≡ g
    either true = refl
    either false = refl
regrouped false false g false false = either g
  where
    either : (g : Bool) → (g || false) ≡ g
    either true = refl
    either false = refl

inside_of : (flash : Range) (secret : Option Range) → IfSome secret (IsSecretOf flash) → IfSome secret (λ s. (flash.base ≤ s.base) × (end_of s ≤ end_of flash))
inside_of flash None it = tt
inside_of flash (Some s) it = (it.low, it.high)

-- what a box holds at one byte
pub held_by-pieces_of : (board : Board) (part : BoxPart) (owners : List (Option BoxId)) (b a : ℕ) (kind : Kind) → IsPlaced board part → HasOwners board.heap owners → (list_any (item_holds a 1 kind) part.items || (is_data kind && in_heap (owned_by b) board.heap a 1 owners)) ≡ held_by (pieces_of board part owners b) a kind
held_by-pieces_of board part owners b a kind placed all =
    let items : list_any (item_holds a 1 kind) part.items ≡ list_any (item_holds a 1 kind) (items_of board part) = ap (list_any (item_holds a 1 kind)) placed.items in
    let parts = list_any-append (item_holds a 1 kind) (flash_items board.flash board.secret part.secret) (record { range = part.own; rights = read_write } ∷ part.grants) in
    let flash = flash_items-holds board.flash board.secret part.secret a kind (inside_of board.flash board.secret placed.secret) in
    let own = holds_one part.own a in
    let grants = grants_held part.grants a kind in
    let pages = pages_held board.heap owners b a placed.heap all in
    rw (items, parts, flash, own, grants, pages, same_data kind)
    (regrouped (in_range board.flash a && not (is_hidden board.secret part.secret a) && gives read_execute kind) (in_range part.own a && gives read_write kind)
    (held_by (map grant_piece part.grants) a kind) (gives_pages kind) (in_own_pages board.heap owners b a))

-- ---- aligned accesses

whole_block : (range : Range) → IsOneBlock range → HasWholeWords range
whole_block range it =
    let base : range.base % 4 ≡ 0 = divides_below 2 it.exponent range.base (omega (arith, it.enough)) it.whole in
    let len : range.len % 4 ≡ 0 =
    subst (λ n. n % 4 ≡ 0) (sym it.is_power) (divides_below 2 it.exponent (2 ^ it.exponent) (omega (arith, it.enough)) (mod_self (2 ^ it.exponent))) in
    (base, omega (arith, base, len))

each_code_whole : (from to : ℕ) → from % 4 ≡ 0 → to % 4 ≡ 0 → AllByRecursion (λ item. HasWholeWords item.range) (code_between from to)
each_code_whole from to low high = either (nat_lt from to) refl
  where
    either : (t : Bool) → nat_lt from to ≡ t → AllByRecursion (λ (item : Item). HasWholeWords item.range) (if t then record { range = record { base = from; len = to - from }; rights = read_execute } ∷ [] else [])
    either true is = let order : from < to = ltb-true from to is in ((low, omega (arith, low, high)), tt)
    either false is = tt

each_flash_whole : (flash : Range) (secret : Option Range) (owned : Bool) → HasWholeWords flash → IfSome secret (IsSecretOf flash) → AllByRecursion (λ item. HasWholeWords item.range) (flash_items flash secret owned)
each_flash_whole flash None owned whole it = (whole, tt)
each_flash_whole flash (Some s) true whole it = (whole, tt)
each_flash_whole flash (Some s) false whole it =
    let inner = whole_block s it.block in
    each-append (λ item. HasWholeWords item.range) (code_between flash.base s.base) (code_between (end_of s) (end_of flash))
    (each_code_whole flash.base s.base whole.0 inner.0) (each_code_whole (end_of s) (end_of flash) inner.1 whole.1)

each_item_whole : (board : Board) (part : BoxPart) → IsPlaced board part → AllByRecursion (λ item. HasWholeWords item.range) (items_of board part)
each_item_whole board part placed =
    each-append (λ item. HasWholeWords item.range) (flash_items board.flash board.secret part.secret) (record { range = part.own; rights = read_write } ∷ part.grants)
    (each_flash_whole board.flash board.secret part.secret (whole_block board.flash placed.flash) placed.secret) (
      whole_block part.own placed.own,
      each_weaker IsTiledGrant (λ item. HasWholeWords item.range) (λ g it. (omega (arith, it.tiled.base_whole), omega (arith, it.tiled.base_whole, it.tiled.len_whole))) part.grants placed.grants,
    )

in_heap-one : (heap : Option HeapPart) (owners : List (Option BoxId)) (b a n : ℕ) → IfSome heap IsGrouped → IsSize n → a % n ≡ 0 → in_heap (owned_by b) heap a n owners ≡ in_heap (owned_by b) heap a 1 owners
in_heap-one None owners b a n it size aligned = refl
in_heap-one (Some h) owners b a n it size aligned =
    let k : ℕ = it.page_is.exponent in
    let page : h.page % 4 ≡ 0 =
    subst (λ m. m % 4 ≡ 0) (sym it.page_is.is_power) (divides_below 2 k (2 ^ k) (omega (arith, it.page_is.low)) (mod_self (2 ^ k))) in
    let eight : 8 * h.page ≡ 2 ^ (k + 3) = omega (arith, pow-add 2 k 3, it.page_is.is_power) in
    let base : h.base % 4 ≡ 0 =
    divides_below 2 (k + 3) h.base (omega (arith, it.page_is.low)) (subst (λ m. h.base % m ≡ 0) eight it.whole) in
    in_pages-one (owned_by b) h.base h.page a n owners base page size aligned

-- An aligned access is held exactly where its first byte is.
pub holds-held : (cfg : Config) (owners : List (Option BoxId)) (b a n : ℕ) (kind : Kind) (part : BoxPart) → slice_get cfg.boxes b ≡ Some part → IsPlaced cfg.board part → HasOwners cfg.board.heap owners → IsSize n → a % n ≡ 0 → holds cfg owners b a n kind ≡ held_by (pieces_of cfg.board part owners b) a kind
holds-held cfg owners b a n kind part found placed all size aligned =
    let even : is_aligned a n ≡ true = eq-eqb (a % n) 0 aligned in
    let items : items_at cfg b ≡ items_of cfg.board part = ap (λ o. option_map_or (λ p. p.items) o []) found ∙ placed.items in
    let one = list_any-item_holds-one a n kind (items_of cfg.board part) (each_item_whole cfg.board part placed) size aligned in
    let pages = in_heap-one cfg.board.heap owners b a n placed.heap size aligned in
    rw (even, items, one, pages, ← placed.items) (held_by-pieces_of cfg.board part owners b a kind placed all)

-- ---- the unit of a box

-- the regions are those of the box, or of its plan, and the circle's slot is on the circle
pub record IsReady (cfg : Config) (owners : List (Option BoxId)) (b : ℕ) (part : BoxPart) (u : UnitState) : Type 0 where
  pub turned : IsTurnedBy (Contains (plan_of cfg owners b part)) (switch_slots cfg part) u.pairs
  pub on : OnCircle REGIONS u.circle

pairs-rotated : (u : UnitState) (o : Option Pair) → (rotated u o).pairs ≡ option_map_or (slice_set u.pairs u.circle) o u.pairs
pairs-rotated u None = refl
pairs-rotated u (Some p) = refl

-- An access is granted exactly where the box holds it, whatever rotations came before.
pub granted-held : (cfg : Config) (owners : List (Option BoxId)) (b : ℕ) (part : BoxPart) (u : UnitState) (access : Access) → IsPlaced cfg.board part → HasOwners cfg.board.heap owners → slice_get cfg.boxes b ≡ Some part → IsReady cfg owners b part u → IsSize access.size → access.at % access.size ≡ 0 → is_granted (decision (accessed (plan_of cfg owners b part) u (Some access)).pairs access.at access.kind) ≡ holds cfg owners b access.at access.size access.kind
granted-held cfg owners b part u access placed all found ready size aligned =
    let held : ℕ → Kind → Bool = held_by (pieces_of cfg.board part owners b) in
    let suited = IsSuited-placed cfg.board part owners b placed in
    let honest = IsTurnedBy-weaker (Contains (plan_of cfg owners b part)) (IsHonest held)
    (λ p in_plan. All-contains (IsHonest held) (plan_of cfg owners b part) p (All-from_recursion (IsHonest held) (plan_of cfg owners b part) suited.plan_gives) in_plan)
    (switch_slots cfg part) u.pairs ready.turned in
    ap (λ ps. is_granted (decision ps access.at access.kind)) (pairs-rotated u (rotating_pair (plan_of cfg owners b part) u access))
    ∙ granted-touched held REGIONS (flash_pair cfg.board) (own_pair part) (overlay_pair cfg.board part) (plan_of cfg owners b part) u.pairs access.at access.kind u.circle
    (omega arith) suited honest ready.on
    ∙ sym (holds-held cfg owners b access.at access.size access.kind part found placed all size aligned)

-- ---- a switch, an access and a flush keep it

IsReady-switch : (cfg : Config) (owners : List (Option BoxId)) (b : ℕ) (part : BoxPart) (last : Option BoxId) → IsReady cfg owners b part (record { last = last; pairs = switch_slots cfg part; circle = 2 })
IsReady-switch cfg owners b part last =
    record { turned = IsTurnedBy-switch (Contains (plan_of cfg owners b part)) (switch_slots cfg part); on = (omega arith, omega arith) }

Contains-get : (ps : List Pair) (i : ℕ) (p : Pair) → slice_get ps i ≡ Some p → Contains ps p
Contains-get ps i p found = (i, slice_get_within ps i p found, get_or_from_slice_get ps i p p found)

IsReady-rotated : (cfg : Config) (owners : List (Option BoxId)) (b : ℕ) (part : BoxPart) (u : UnitState) (p : Pair) → IsReady cfg owners b part u → Contains (plan_of cfg owners b part) p → IsReady cfg owners b part (rotated u (Some p))
IsReady-rotated cfg owners b part u p ready in_plan = record {
  turned = IsTurnedBy-set (Contains (plan_of cfg owners b part)) (switch_slots cfg part) u.pairs u.circle p ready.turned ready.on in_plan;
  on = rw ready.turned.same_length (OnCircle-next REGIONS u.circle (omega arith) ready.on);
}

rotating_pair-first : (plan : List Pair) (u : UnitState) (access : Access) (p : Pair) → rotating_pair plan u access ≡ Some p → first_serving access.at access.kind plan ≡ Some p
rotating_pair-first plan u access p is = elim (cases_Bool (is_granted (decision u.pairs access.at access.kind))) [
  | inl granted ↦ absurd (let e : None ≡ Some p = sym (ap (λ t. if t then None else first_serving access.at access.kind plan) granted) ∙ is in cc)
  | inr not_granted ↦ sym (ap (λ t. if t then None else first_serving access.at access.kind plan) not_granted) ∙ is
]

pub IsReady-accessed : (cfg : Config) (owners : List (Option BoxId)) (b : ℕ) (part : BoxPart) (u : UnitState) (access : Option Access) → IsReady cfg owners b part u → IsReady cfg owners b part (accessed (plan_of cfg owners b part) u access)
IsReady-accessed cfg owners b part u None ready = ready
IsReady-accessed cfg owners b part u (Some access) ready = from_pair (rotating_pair (plan_of cfg owners b part) u access) refl
  where
    from_pair : (o : Option Pair) → rotating_pair (plan_of cfg owners b part) u access ≡ o → IsReady cfg owners b part (rotated u o)
    from_pair None is = ready
    from_pair (Some p) is =
        let it = IsFirst-first_serving access.at access.kind (plan_of cfg owners b part) p (rotating_pair-first (plan_of cfg owners b part) u access p is) in
        IsReady-rotated cfg owners b part u p ready (Contains-get (plan_of cfg owners b part) it.place p it.at)

-- after a flush the regions fit any owners
pub IsReady-flushed : (cfg : Config) (owners other : List (Option BoxId)) (b : ℕ) (part : BoxPart) (u : UnitState) → IsReady cfg owners b part u → IsReady cfg other b part (flushed true u)
IsReady-flushed cfg owners other b part u ready =
    let same = flushed_pairs-turned (Contains (plan_of cfg owners b part)) REGIONS (flash_pair cfg.board) (own_pair part) (overlay_pair cfg.board part) u.pairs (omega arith) ready.turned in
    record {
      turned = subst (IsTurnedBy (Contains (plan_of cfg other b part)) (switch_slots cfg part)) (sym same) (IsTurnedBy-switch (Contains (plan_of cfg other b part)) (switch_slots cfg part));
      on = (omega arith, omega arith);
    }

-- the unit is ready for the box that was last switched to
abbrev pub IsUnitReady : Config → List (Option BoxId) → UnitState → Type 0
IsUnitReady cfg owners u =
    (b : ℕ) (part : BoxPart) → is_last u.last b ≡ true → slice_get cfg.boxes b ≡ Some part → IsReady cfg owners b part u

pub IsReady-entered : (cfg : Config) (owners : List (Option BoxId)) (b : BoxId) (part : BoxPart) (u : UnitState) → slice_get cfg.boxes b.0 ≡ Some part → IsUnitReady cfg owners u → IsReady cfg owners b.0 part (entered cfg part u b)
IsReady-entered cfg owners b part u found ready = elim (cases_Bool (is_last u.last b.0)) [
  | inl last ↦ rw last (ready b.0 part last found)
  | inr other ↦ rw other (IsReady-switch cfg owners b.0 part (Some b))
]

same_last : (last : Option BoxId) (b c : ℕ) → is_last last b ≡ true → is_last last c ≡ true → c ≡ b
same_last None b c first second = absurd (false≢true first)
same_last (Some l) b c first second = sym (eqb-true l.0 c second) ∙ eqb-true l.0 b first

is_last-entered : (cfg : Config) (b : BoxId) (part : BoxPart) (u : UnitState) → is_last (entered cfg part u b).last b.0 ≡ true
is_last-entered cfg b part u = elim (cases_Bool (is_last u.last b.0)) [
  | inl last ↦ rw last last
  | inr other ↦ rw other (eq-eqb b.0 b.0 refl)
]

last-rotated : (u : UnitState) (o : Option Pair) → (rotated u o).last ≡ u.last
last-rotated u None = refl
last-rotated u (Some p) = refl

last-accessed : (plan : List Pair) (u : UnitState) (access : Option Access) → (accessed plan u access).last ≡ u.last
last-accessed plan u None = refl
last-accessed plan u (Some access) = last-rotated u (rotating_pair plan u access)

last-flushed : (empties : Bool) (u : UnitState) → (flushed empties u).last ≡ u.last
last-flushed true u = refl
last-flushed false u = refl

-- Every event keeps the unit ready, where the owners change only with a flush.
pub IsUnitReady-after_event : (cfg : Config) (owners other : List (Option BoxId)) (b : BoxId) (part : BoxPart) (u : UnitState) (access : Option Access) (empties : Bool) → slice_get cfg.boxes b.0 ≡ Some part → (empties ≡ false → other ≡ owners) → IsUnitReady cfg owners u → IsUnitReady cfg other (unit_after_event cfg b part (plan_of cfg owners b.0 part) u access empties)
IsUnitReady-after_event cfg owners other b part u access empties found unless ready c its last its_found =
    let v : UnitState = accessed (plan_of cfg owners b.0 part) (entered cfg part u b) access in
    let kept : (flushed empties v).last ≡ (entered cfg part u b).last = last-flushed empties v ∙ last-accessed (plan_of cfg owners b.0 part) (entered cfg part u b) access in
    let same : c ≡ b.0 = same_last (entered cfg part u b).last b.0 c (is_last-entered cfg b part u) (sym (ap (λ l. is_last l c) kept) ∙ last) in
    let one : part ≡ its = same_Some part its (sym found ∙ sym (ap (slice_get cfg.boxes) same) ∙ its_found) in
    let now : IsReady cfg owners b.0 part v = IsReady-accessed cfg owners b.0 part (entered cfg part u b) access (IsReady-entered cfg owners b part u found ready) in
    subst (λ n. IsReady cfg other n its (flushed empties v)) (sym same)
    (subst (λ p. IsReady cfg other b.0 p (flushed empties v)) one (ended empties unless v now))
  where
    ended : (empties : Bool) → (empties ≡ false → other ≡ owners) → (v : UnitState) → IsReady cfg owners b.0 part v → IsReady cfg other b.0 part (flushed empties v)
    ended true unless v now = IsReady-flushed cfg owners other b.0 part v now
    ended false unless v now = subst (λ o. IsReady cfg o b.0 part v) (sym (unless refl)) now

-- a unit that no box was switched to is ready
pub IsUnitReady-opening : (cfg : Config) (owners : List (Option BoxId)) (pairs : List Pair) (circle : ℕ) → IsUnitReady cfg owners (record { last = None; pairs = pairs; circle = circle })
IsUnitReady-opening cfg owners pairs circle b part last found = absurd (false≢true last)
