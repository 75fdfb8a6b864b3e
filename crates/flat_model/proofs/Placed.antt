-- What a sound configuration says of one box on its board: which ranges are blocks, and which are apart.
use Rattle.std.proofs.Common.{◌≡◌, ℕ, zero, suc, ◌+◌, ◌*◌, ◌%◌, ◌^◌, ◌<◌, ◌≤◌, Bool, true, false, List, [], ◌∷◌, Option, Some, None, refl, sym, ◌∙◌, ap, subst, arith, inl, inr, ◌⊎◌}
use Rattle.std.specs.Prelude.{nat_le, nat_lt, IfSome}
use Rattle.std.specs.Int.{IsPowerOfTwo}
use Rattle.std.specs.List.{AllByRecursion, slice_get}
use Rattle.std.proofs.lemmas.Bool.{and_parts, and_from, false_from_ne_true, false≢true, leb-true, ltb-true, le-leb, lt-ltb}
use Rattle.addr_base.specs.declared.ranges.Range.{Range}
use Rattle.addr_base.specs.declared.rights.Rights.{Rights}
use Rattle.addr_base.specs.Range.{ADDRESS_END, end_of, in_range}
use Rattle.addr_base.specs.Rights.{may_read}
use Rattle.flat_model.specs.declared.boards.Board.{Board}
use Rattle.flat_model.specs.declared.boards.HeapPart.{HeapPart}
use Rattle.flat_model.specs.declared.parts.BoxPart.{BoxPart}
use Rattle.flat_model.specs.declared.parts.Config.{Config}
use Rattle.flat_model.specs.declared.parts.Item.{Item}
use Rattle.flat_model.specs.Items.{items_of}
use Rattle.flat_model.specs.Placing.{ArePlaced, common_range, limit_of, placed_end}
use Rattle.flat_model.specs.Sound as sound
use Rattle.flat_model.specs.Circle.{IsGrouped, IsPage}
use Rattle.flat_model.proofs.Covers.{IsOneBlock, IsTiled}
use Rattle.flat_model.proofs.Elements.{each-get, each_weaker}
use Rattle.flat_model.proofs.PagePairs.{in_all_pages}
use Rattle.flat_model.proofs.Powers.{smaller}

-- whether there is a heap and the address is in it
abbrev pub in_heap_range : Option HeapPart → ℕ → Bool
in_heap_range None a = false
in_heap_range (Some heap) a = in_all_pages heap a

-- a grant of whole pieces of 32 bytes, with the right to read
pub record IsTiledGrant (grant : Item) : Type 0 where
  pub tiled : IsTiled grant.range
  pub reads : may_read grant.rights ≡ true

-- a secret range that is one block of flash
pub record IsSecretOf (flash secret : Range) : Type 0 where
  pub block : IsOneBlock secret
  pub low : flash.base ≤ secret.base
  pub high : end_of secret ≤ end_of flash

-- the box's ranges are blocks, and apart from one another
pub record IsPlaced (board : Board) (part : BoxPart) : Type 0 where
  pub flash : IsOneBlock board.flash
  pub own : IsOneBlock part.own
  pub secret : IfSome board.secret (IsSecretOf board.flash)
  pub heap : IfSome board.heap IsGrouped
  pub grants : AllByRecursion IsTiledGrant part.grants
  pub items : part.items ≡ items_of board part
  pub flash_own : (a : ℕ) → in_range board.flash a ≡ true → in_range part.own a ≡ false
  pub flash_heap : (a : ℕ) → in_range board.flash a ≡ true → in_heap_range board.heap a ≡ false
  pub flash_grants : (a : ℕ) → in_range board.flash a ≡ true → AllByRecursion (λ g. in_range g.range a ≡ false) part.grants
  pub own_heap : (a : ℕ) → in_range part.own a ≡ true → in_heap_range board.heap a ≡ false
  pub own_grants : (a : ℕ) → in_range part.own a ≡ true → AllByRecursion (λ g. in_range g.range a ≡ false) part.grants
  pub heap_grants : (a : ℕ) → in_heap_range board.heap a ≡ true → AllByRecursion (λ g. in_range g.range a ≡ false) part.grants
  pub grants_apart : sound.AreGrantsApart part.grants

-- ---- ranges and their addresses

pub bounds_of : (range : Range) (a : ℕ) → in_range range a ≡ true → (range.base ≤ a) × (a < end_of range)
bounds_of range a found =
    let parts = and_parts (nat_le range.base a) (nat_lt a (end_of range)) found in
    (leb-true range.base a parts.0, ltb-true a (end_of range) parts.1)

pub in_range-from : (range : Range) (a : ℕ) → range.base ≤ a → a < end_of range → in_range range a ≡ true
in_range-from range a low high =
    and_from (nat_le range.base a) (nat_lt a (end_of range)) (le-leb range.base a low) (lt-ltb a (end_of range) high)

in_outer : (inner outer : Range) (a : ℕ) → outer.base ≤ inner.base → end_of inner ≤ end_of outer → in_range inner a ≡ true → in_range outer a ≡ true
in_outer inner outer a low high found =
    let it = bounds_of inner a found in in_range-from outer a (omega arith) (omega arith)

IsOneBlock-from : (range : Range) → IsPowerOfTwo range.len → 32 ≤ range.len → range.len < 2 ^ 32 → range.base % range.len ≡ 0 → IsOneBlock range
IsOneBlock-from range power enough limit whole =
    let low : 4 < power.0 = smaller 4 power.0 (omega (arith, power.1)) in
    record {
      exponent = power.0;
      enough = omega (arith, low);
      limit = smaller power.0 32 (omega (arith, power.1));
      is_power = power.1;
      whole = subst (λ n. range.base % n ≡ 0) power.1 whole;
    }

pub IsPage-from : (page : ℕ) → IsPowerOfTwo page → 32 ≤ page → page ≤ 65536 → IsPage page
IsPage-from page power low high =
    let more : 4 < power.0 = smaller 4 power.0 (omega (arith, power.1)) in
    let less : power.0 < 17 = smaller power.0 17 (omega (arith, power.1)) in
    record { exponent = power.0; low = omega (arith, more); high = omega (arith, less); is_power = power.1 }

-- ---- where own memory and the common part lie

start_le-placed_end : (start : ℕ) (parts : List BoxPart) → ArePlaced start parts → start ≤ placed_end start parts
start_le-placed_end start [] placed = omega arith
start_le-placed_end start (part ∷ parts) placed =
    let rest = start_le-placed_end (end_of part.own) parts placed.1 in
    omega (arith, placed.0.not_below, rest)

record IsOwnIn (low high : ℕ) (own : Range) : Type 0 where
  power : IsPowerOfTwo own.len
  enough : 256 ≤ own.len
  aligned : own.base % own.len ≡ 0
  below : low ≤ own.base
  above : end_of own ≤ high

IsOwnIn-placed : (start : ℕ) (parts : List BoxPart) (b : ℕ) (part : BoxPart) → ArePlaced start parts → slice_get parts b ≡ Some part → IsOwnIn start (placed_end start parts) part.own
IsOwnIn-placed start [] b part placed found = absurd (cc)
IsOwnIn-placed start (first ∷ parts) zero part placed found =
    let same : first ≡ part = cc in
    let rest = start_le-placed_end (end_of first.own) parts placed.1 in
    subst (λ p. IsOwnIn start (placed_end (end_of first.own) parts) p.own) same
    (record { power = placed.0.power; enough = placed.0.enough; aligned = placed.0.aligned; below = placed.0.not_below; above = rest })
IsOwnIn-placed start (first ∷ parts) (suc b) part placed found =
    let it = IsOwnIn-placed (end_of first.own) parts b part placed.1 found in
    record { power = it.power; enough = it.enough; aligned = it.aligned; below = omega (arith, it.below, placed.0.not_below); above = it.above }

-- the heap begins where the common part ends, and lies in SRAM with it
record IsLimit (board : Board) (heap : Option HeapPart) : Type 0 where
  ends : limit_of board ≤ end_of board.sram
  heap_low : IfSome heap (λ h. limit_of board ≡ h.base)

limit_from : (board : Board) (heap : Option HeapPart) → board.heap ≡ heap → IfSome heap (sound.IsHeap board.sram) → IsLimit board heap
limit_from board None is it = record { ends = rw is (omega arith); heap_low = tt }
limit_from board (Some h) is it = record {
  ends = rw is (omega (arith, it.high));
  heap_low = rw is refl;
}

pub reads_of : (rights : Rights) → sound.IsGrantRights rights → may_read rights ≡ true
reads_of rights (inl r) = ap may_read r
reads_of rights (inr (inl rw_)) = ap may_read rw_
reads_of rights (inr (inr (inl rx))) = ap may_read rx
reads_of rights (inr (inr (inr all))) = ap may_read all

pub IsTiled-from : (range : Range) → sound.IsTiledRange range → end_of range < 2 ^ 32 → IsTiled range
IsTiled-from range it limit = record { base_whole = it.base; len_whole = it.len; limit = limit }

pub IsGrouped-from : (sram : Range) (h : HeapPart) → sound.IsHeap sram h → IsGrouped h
IsGrouped-from sram h it =
    record { page_is = IsPage-from h.page it.power it.least_page it.greatest_page; groups = it.eights; whole = it.aligned }

-- ---- one box of a sound configuration

module _ (cfg : Config) (sound_cfg : sound.IsSound cfg) (b : ℕ) (part : BoxPart) (found : slice_get cfg.boxes b ≡ Some part) where
  pub box_of : sound.IsBox cfg.board (common_range cfg.board cfg.boxes) part
  box_of = each-get (sound.IsBox cfg.board (common_range cfg.board cfg.boxes)) cfg.boxes b part sound_cfg.boxes found

  own_of : IsOwnIn cfg.board.sram.base (placed_end cfg.board.sram.base cfg.boxes) part.own
  own_of = IsOwnIn-placed cfg.board.sram.base cfg.boxes b part sound_cfg.placed found

  limit : IsLimit cfg.board cfg.board.heap
  limit = limit_from cfg.board cfg.board.heap refl sound_cfg.board.heap

  common_end : end_of (common_range cfg.board cfg.boxes) ≡ limit_of cfg.board
  common_end = let room = sound_cfg.room in omega arith

  common_low : cfg.board.sram.base ≤ placed_end cfg.board.sram.base cfg.boxes
  common_low = start_le-placed_end cfg.board.sram.base cfg.boxes sound_cfg.placed

  pub own_in_sram : (a : ℕ) → in_range part.own a ≡ true → in_range cfg.board.sram a ≡ true
  own_in_sram a is =
      in_outer part.own cfg.board.sram a own_of.below (omega (arith, own_of.above, sound_cfg.room, limit.ends)) is

  pub common_in_sram : (a : ℕ) → in_range (common_range cfg.board cfg.boxes) a ≡ true → in_range cfg.board.sram a ≡ true
  common_in_sram a is =
      in_outer (common_range cfg.board cfg.boxes) cfg.board.sram a common_low (omega (arith, common_end, limit.ends)) is

  pub heap_in_sram : (a : ℕ) → in_heap_range cfg.board.heap a ≡ true → (in_range cfg.board.sram a ≡ true) × (limit_of cfg.board ≤ a)
  heap_in_sram a is = from_heap cfg.board.heap sound_cfg.board.heap limit.heap_low is
    where
      from_heap : (heap : Option HeapPart) → IfSome heap (sound.IsHeap cfg.board.sram) → IfSome heap (λ h. limit_of cfg.board ≡ h.base) → in_heap_range heap a ≡ true → (in_range cfg.board.sram a ≡ true) × (limit_of cfg.board ≤ a)
      from_heap None it low is = absurd (false≢true is)
      from_heap (Some h) it low is =
          let parts = and_parts (nat_le h.base a) (nat_lt a (h.base + h.count * h.page)) is in
          let after : h.base ≤ a = leb-true h.base a parts.0 in
          let before : a < h.base + h.count * h.page = ltb-true a (h.base + h.count * h.page) parts.1 in
          (in_range-from cfg.board.sram a (omega (arith, it.low)) (omega (arith, it.high)), omega (arith, low))

  -- where a grant lies
  pub grant_place : (g : Item) (a : ℕ) → sound.IsGrant cfg.board (common_range cfg.board cfg.boxes) g → in_range g.range a ≡ true → (in_range cfg.board.peripherals a ≡ true) ⊎ (in_range (common_range cfg.board cfg.boxes) a ≡ true)
  grant_place g a it is = elim it.placed [
    | inl inside ↦ inl (in_outer g.range cfg.board.peripherals a inside.0 inside.1 is)
    | inr inside ↦ inr (in_outer g.range (common_range cfg.board cfg.boxes) a inside.0 inside.1 is)
  ]

  pub grant_ends : (g : Item) → sound.IsGrant cfg.board (common_range cfg.board cfg.boxes) g → end_of g.range ≤ ADDRESS_END
  grant_ends g it =
      elim it.placed [
        | inl inside ↦ omega (arith, inside.1, sound_cfg.board.peripherals_bank.ends)
        | inr inside ↦ omega (arith, inside.1, common_end, limit.ends, sound_cfg.board.sram_bank.ends)
      ]

  grant_end : (g : Item) → sound.IsGrant cfg.board (common_range cfg.board cfg.boxes) g → end_of g.range < 2 ^ 32
  grant_end g it = omega (arith, grant_ends g it)

  -- an address that neither the peripherals nor the common part have is in no grant
  no_grant : (a : ℕ) → (in_range cfg.board.peripherals a ≡ true → ⊥) → (in_range (common_range cfg.board cfg.boxes) a ≡ true → ⊥) → AllByRecursion (λ g. in_range g.range a ≡ false) part.grants
  no_grant a outside beside =
      each_weaker (sound.IsGrant cfg.board (common_range cfg.board cfg.boxes)) (λ g. in_range g.range a ≡ false)
      (λ g it. false_from_ne_true (in_range g.range a) (λ is. elim (grant_place g a it is) [ inl p ↦ outside p | inr c ↦ beside c ]))
      part.grants box_of.grants

  sram_not_flash : (a : ℕ) → in_range cfg.board.flash a ≡ true → in_range cfg.board.sram a ≡ true → ⊥
  sram_not_flash a flash sram = false≢true (sym (sound_cfg.board.sram_apart a sram) ∙ flash)

  pub peripherals_not_sram : (a : ℕ) → in_range cfg.board.sram a ≡ true → in_range cfg.board.peripherals a ≡ true → ⊥
  peripherals_not_sram a sram is = false≢true (sym (sound_cfg.board.peripherals_beside a is) ∙ sram)

  -- the box is placed as the mathematics of the unit wants it
  pub IsPlaced-from_sound : IsPlaced cfg.board part
  IsPlaced-from_sound = record {
    flash = IsOneBlock-from cfg.board.flash sound_cfg.board.flash.power sound_cfg.board.flash.enough (omega (arith, sound_cfg.board.flash_bank.within)) sound_cfg.board.flash.aligned;
    own = IsOneBlock-from part.own own_of.power (omega (arith, own_of.enough)) (omega (arith, own_of.above, sound_cfg.room, limit.ends, sound_cfg.board.sram_bank.ends)) own_of.aligned;
    secret = secret_from cfg.board.secret sound_cfg.board.secret;
    heap = heap_from cfg.board.heap sound_cfg.board.heap;
    grants = each_weaker (sound.IsGrant cfg.board (common_range cfg.board cfg.boxes)) IsTiledGrant
        (λ g it. record { tiled = IsTiled-from g.range it.tiled (grant_end g it); reads = reads_of g.rights it.rights }) part.grants box_of.grants;
    items = box_of.items;
    flash_own = λ a is. false_from_ne_true (in_range part.own a) (λ own. sram_not_flash a is (own_in_sram a own));
    flash_heap = λ a is. false_from_ne_true (in_heap_range cfg.board.heap a) (λ heap. sram_not_flash a is (heap_in_sram a heap).0);
    flash_grants = λ a is. no_grant a (λ p. false≢true (sym (sound_cfg.board.peripherals_apart a p) ∙ is)) (λ c. sram_not_flash a is (common_in_sram a c));
    own_heap = λ a is. false_from_ne_true (in_heap_range cfg.board.heap a) (λ heap.
        let last = (bounds_of part.own a is).1 in
        let first = (heap_in_sram a heap).1 in
        absurd (omega (arith, own_of.above, sound_cfg.room)));
    own_grants = λ a is. no_grant a (peripherals_not_sram a (own_in_sram a is)) (λ c.
        let last = (bounds_of part.own a is).1 in
        let first = (bounds_of (common_range cfg.board cfg.boxes) a c).0 in
        absurd (omega (arith, own_of.above)));
    heap_grants = λ a is. no_grant a (peripherals_not_sram a (heap_in_sram a is).0) (λ c.
        let last = (bounds_of (common_range cfg.board cfg.boxes) a c).1 in
        let first = (heap_in_sram a is).1 in
        absurd (omega (arith, common_end)));
    grants_apart = box_of.grants_apart;
  }
    where
      secret_from : (secret : Option Range) → IfSome secret (λ s. sound.IsPowerRange s × sound.IsInside s cfg.board.flash) → IfSome secret (IsSecretOf cfg.board.flash)
      secret_from None it = tt
      secret_from (Some s) it = record {
        block = IsOneBlock-from s it.0.power it.0.enough (omega (arith, it.1.0, it.1.1, sound_cfg.board.flash_bank.within)) it.0.aligned;
        low = it.1.0;
        high = it.1.1;
      }

      heap_from : (heap : Option HeapPart) → IfSome heap (sound.IsHeap cfg.board.sram) → IfSome heap IsGrouped
      heap_from None it = tt
      heap_from (Some h) it = IsGrouped-from cfg.board.sram h it
