-- The region pairs of a range: how many, which addresses, which kinds, and that they are valid.
use Rattle.std.proofs.Common.{◌≡◌, ◌≢◌, ℕ, ◌+◌, ◌-◌, ◌*◌, ◌/◌, ◌%◌, ◌^◌, ◌<◌, ◌≤◌, Bool, true, false, List, [], ◌∷◌, length, map, refl, sym, ◌∙◌, ap, arith, inr}
use Rattle.std.specs.Prelude.{nat_le, nat_lt, if◌then◌else◌}
use Rattle.std.specs.List.{AllByRecursion, list_any}
use Rattle.std.proofs.lemmas.Bool.{and_parts, and_from, leb-true, ltb-true, le-leb, lt-ltb}
use Rattle.std.proofs.Math.ListN.{length-map}
use Rattle.addr_base.specs.Range.{end_of, in_range}
use Rattle.addr_base.specs.Rights.{gives, may_execute, may_read, may_write}
use Rattle.addr_base.specs.declared.pairs.Pair.{Pair}
use Rattle.addr_base.specs.declared.ranges.Range.{Range}
use Rattle.addr_base.specs.declared.rights.Kind.{Kind}
use Rattle.addr_base.specs.declared.rights.Rights.{Rights}
use Rattle.flat_model.specs.Cover.{Block, NO_ACCESS, permission_of, attributes, block_pair, cover_blocks, cover_of, exponent_of, never_of, pair_of}
use Rattle.flat_model.specs.Decision.{is_region, matches, pair_gives}
use Rattle.flat_model.proofs.Blocks.{IsBlock, IsSpan, each-blocks, in_block, length-blocks, list_any-blocks}
use Rattle.flat_model.proofs.Elements.{each-map}
use Rattle.flat_model.proofs.Fields.{HasFields, HasFields-from_rasr, exponent_of-pow, is_region-fields, matches-plain, pair_gives-attributes, pair_gives-nothing}

-- the range is made of whole pieces of 32 bytes, below 2 ^ 32
pub record IsTiled (range : Range) : Type 0 where
  pub base_whole : range.base % 32 ≡ 0
  pub len_whole : range.len % 32 ≡ 0
  pub limit : end_of range < 2 ^ 32

-- the range is one block of the unit
pub record IsOneBlock (range : Range) : Type 0 where
  pub exponent : ℕ
  pub enough : 5 ≤ exponent
  pub limit : exponent < 32
  pub is_power : range.len ≡ 2 ^ exponent
  pub whole : range.base % 2 ^ exponent ≡ 0

pub block_fields : (block : Block) (access never : ℕ) → 5 ≤ block.exponent → block.exponent < 32 → access < 8 → never < 2 → HasFields (block_pair (1 + 2 ^ 24 * access + 2 ^ 28 * never) block) (block.exponent - 1) 0 access never
block_fields block access never enough limit accesses nevers =
    HasFields-from_rasr (block_pair (1 + 2 ^ 24 * access + 2 ^ 28 * never) block) (block.exponent - 1) 0 access never
    (omega arith) (omega arith) accesses nevers (omega arith)

access_below : (rights : Rights) → permission_of rights < 8
access_below rights = below (may_write rights)
  where
    below : (w : Bool) → (if w then 3 else 6) < 8
    below true = omega arith
    below false = omega arith

access_known : (rights : Rights) → permission_of rights ≢ 4
access_known rights = known (may_write rights)
  where
    known : (w : Bool) → (let access : ℕ = if w then 3 else 6 in access ≢ 4)
    known true = λ e. absurd (omega (arith, e))
    known false = λ e. absurd (omega (arith, e))

never_below : (rights : Rights) → never_of rights < 2
never_below rights = below (may_execute rights)
  where
    below : (x : Bool) → (if x then 0 else 1) < 2
    below true = omega arith
    below false = omega arith

pub rights_fields : (block : Block) (rights : Rights) → 5 ≤ block.exponent → block.exponent < 32 → HasFields (block_pair (attributes rights) block) (block.exponent - 1) 0 (permission_of rights) (never_of rights)
rights_fields block rights enough limit =
    block_fields block (permission_of rights) (never_of rights) enough limit (access_below rights) (never_below rights)

-- a block's region has the block's addresses
pub matches-block : (block : Block) (rights : Rights) → 5 ≤ block.exponent → block.exponent < 32 → (a : ℕ) → matches (block_pair (attributes rights) block) a ≡ in_block block a
matches-block block rights enough limit a =
    matches-plain (block_pair (attributes rights) block) block.exponent (permission_of rights) (never_of rights) enough
    (rights_fields block rights enough limit) a

-- a pair of the cover of a range
pub record OfCover (range : Range) (rights : Rights) (p : Pair) : Type 0 where
  pub valid : is_region p ≡ true
  pub given : (kind : Kind) → pair_gives p kind ≡ gives rights kind
  pub inside : (a : ℕ) → matches p a ≡ true → in_range range a ≡ true

OfCover-block : (range : Range) (rights : Rights) → may_read rights ≡ true → (block : Block) → IsBlock range.base (end_of range) block → OfCover range rights (block_pair (attributes rights) block)
OfCover-block range rights reads block it =
    let has = rights_fields block rights it.enough it.limit in
    let p : Pair = block_pair (attributes rights) block in
    record {
      valid = is_region-fields p block.exponent 0 (permission_of rights) (never_of rights) it.enough (inr refl) (access_known rights) has it.whole;
      given = pair_gives-attributes p (block.exponent - 1) 0 rights reads has;
      inside = λ a found.
          let here = and_parts (nat_le block.base a) (nat_lt a (block.base + 2 ^ block.exponent)) (sym (matches-block block rights it.enough it.limit a) ∙ found) in
          and_from (nat_le range.base a) (nat_lt a (end_of range))
          (le-leb range.base a (omega (arith, it.after, leb-true block.base a here.0)))
          (lt-ltb a (end_of range) (omega (arith, it.within, ltb-true a (block.base + 2 ^ block.exponent) here.1)));
    }

pub IsSpan-range : (range : Range) → IsTiled range → IsSpan range.base (end_of range)
IsSpan-range range tiled =
    record { low = tiled.base_whole; high = omega (arith, tiled.base_whole, tiled.len_whole); limit = tiled.limit }

-- a cover has at most 54 pairs
pub length-cover_of : (range : Range) (rights : Rights) → IsTiled range → length (cover_of range rights) ≤ 54
length-cover_of range rights tiled =
    rw (length-map (cover_blocks range) (block_pair (attributes rights)))
    (length-blocks (range.len / 32) range.base (end_of range) (IsSpan-range range tiled))

-- each pair is valid, gives the rights and stays inside
pub each-cover_of : (range : Range) (rights : Rights) → IsTiled range → may_read rights ≡ true → AllByRecursion (OfCover range rights) (cover_of range rights)
each-cover_of range rights tiled reads =
    each-map (block_pair (attributes rights)) (IsBlock range.base (end_of range)) (OfCover range rights)
    (OfCover-block range rights reads) (cover_blocks range)
    (each-blocks (range.len / 32) range.base (end_of range) range.base (IsSpan-range range tiled) (omega arith))

matched_as_blocks : (rights : Rights) (a p e : ℕ) (bs : List Block) → AllByRecursion (IsBlock p e) bs → list_any (λ q. matches q a) (map (block_pair (attributes rights)) bs) ≡ list_any (λ b. in_block b a) bs
matched_as_blocks rights a p e [] each = refl
matched_as_blocks rights a p e (b ∷ bs) each =
    rw (matches-block b rights each.0.enough each.0.limit a, matched_as_blocks rights a p e bs each.1) refl

-- the pairs together have exactly the addresses of the range
pub list_any-cover_of : (range : Range) (rights : Rights) → IsTiled range → (a : ℕ) → list_any (λ p. matches p a) (cover_of range rights) ≡ in_range range a
list_any-cover_of range rights tiled a =
    matched_as_blocks rights a range.base (end_of range) (cover_blocks range)
    (each-blocks (range.len / 32) range.base (end_of range) range.base (IsSpan-range range tiled) (omega arith))
    ∙ list_any-blocks (range.len / 32) range.base (end_of range) a (IsSpan-range range tiled) (omega (arith, tiled.len_whole))

-- the one region of a range has exactly its addresses
pub matches-pair_of : (range : Range) (access never : ℕ) → access < 8 → never < 2 → (it : IsOneBlock range) → (a : ℕ) → matches (pair_of range (1 + 2 ^ 24 * access + 2 ^ 28 * never)) a ≡ in_range range a
matches-pair_of range access never accesses nevers it a =
    let e : exponent_of range.len ≡ it.exponent = exponent_of-pow it.exponent range.len it.limit it.is_power in
    let b : Block = record { base = range.base; exponent = it.exponent } in
    let same : pair_of range (1 + 2 ^ 24 * access + 2 ^ 28 * never) ≡ block_pair (1 + 2 ^ 24 * access + 2 ^ 28 * never) b = rw e refl in
    ap (λ p. matches p a) same ∙ rw it.is_power
    (matches-plain (block_pair (1 + 2 ^ 24 * access + 2 ^ 28 * never) b) it.exponent access never it.enough (block_fields b access never it.enough it.limit accesses nevers) a)

-- and it is valid
pub is_region-pair_of : (range : Range) (access never : ℕ) → access < 8 → access ≢ 4 → never < 2 → (it : IsOneBlock range) → is_region (pair_of range (1 + 2 ^ 24 * access + 2 ^ 28 * never)) ≡ true
is_region-pair_of range access never accesses known nevers it =
    let e : exponent_of range.len ≡ it.exponent = exponent_of-pow it.exponent range.len it.limit it.is_power in
    let b : Block = record { base = range.base; exponent = it.exponent } in
    let same : pair_of range (1 + 2 ^ 24 * access + 2 ^ 28 * never) ≡ block_pair (1 + 2 ^ 24 * access + 2 ^ 28 * never) b = rw e refl in
    ap is_region same ∙
    (is_region-fields (block_pair (1 + 2 ^ 24 * access + 2 ^ 28 * never) b) it.exponent 0 access never it.enough (inr refl) known (block_fields b access never it.enough it.limit accesses nevers) it.whole)

pub matches-pair_of_rights : (range : Range) (rights : Rights) → IsOneBlock range → (a : ℕ) → matches (pair_of range (attributes rights)) a ≡ in_range range a
matches-pair_of_rights range rights it a =
    matches-pair_of range (permission_of rights) (never_of rights) (access_below rights) (never_below rights) it a

pub is_region-pair_of_rights : (range : Range) (rights : Rights) → IsOneBlock range → is_region (pair_of range (attributes rights)) ≡ true
is_region-pair_of_rights range rights it =
    is_region-pair_of range (permission_of rights) (never_of rights) (access_below rights) (access_known rights) (never_below rights) it

pub pair_gives-pair_of_rights : (range : Range) (rights : Rights) → may_read rights ≡ true → IsOneBlock range → (kind : Kind) → pair_gives (pair_of range (attributes rights)) kind ≡ gives rights kind
pair_gives-pair_of_rights range rights reads it kind =
    let e : exponent_of range.len ≡ it.exponent = exponent_of-pow it.exponent range.len it.limit it.is_power in
    let b : Block = record { base = range.base; exponent = it.exponent } in
    let same : pair_of range (attributes rights) ≡ block_pair (attributes rights) b = rw e refl in
    ap (λ p. pair_gives p kind) same ∙ (pair_gives-attributes (block_pair (attributes rights) b) (it.exponent - 1) 0 rights reads (rights_fields b rights it.enough it.limit) kind)

-- the region that hides a range has exactly its addresses, gives nothing and is valid
pub matches-hidden : (range : Range) → IsOneBlock range → (a : ℕ) → matches (pair_of range NO_ACCESS) a ≡ in_range range a
matches-hidden range it a = matches-pair_of range 0 1 (omega arith) (omega arith) it a

pub is_region-hidden : (range : Range) → IsOneBlock range → is_region (pair_of range NO_ACCESS) ≡ true
is_region-hidden range it = is_region-pair_of range 0 1 (omega arith) (λ e. absurd (omega (arith, e))) (omega arith) it

pub pair_gives-hidden : (range : Range) → IsOneBlock range → (kind : Kind) → pair_gives (pair_of range NO_ACCESS) kind ≡ false
pair_gives-hidden range it kind =
    let e : exponent_of range.len ≡ it.exponent = exponent_of-pow it.exponent range.len it.limit it.is_power in
    let b : Block = record { base = range.base; exponent = it.exponent } in
    let same : pair_of range NO_ACCESS ≡ block_pair NO_ACCESS b = rw e refl in
    ap (λ p. pair_gives p kind) same ∙ (pair_gives-nothing (block_pair NO_ACCESS b) (it.exponent - 1) 0 (block_fields b 0 1 it.enough it.limit (omega arith) (omega arith)) kind)
