-- Blocks of grants that don't overlap, sorted by their bases, ascend.
use Rattle.std.proofs.Common.{◌≡◌, ℕ, zero, suc, ◌+◌, ◌-◌, ◌*◌, ◌/◌, ◌^◌, ◌<◌, ◌≤◌, true, false, List, [], ◌∷◌, length, map, get_or, Some, refl, sym, ap, ◌∙◌, arith, inl, inr, subst}
use Rattle.std.specs.Prelude.{if◌then◌else◌}
use Rattle.std.specs.List.{AllByRecursion, slice_get, sum_by}
use Rattle.std.specs.List.Sorted.{IsNonDecreasingBy, IsPermutation}
use Rattle.std.proofs.lemmas.Bool.{cases_Bool, cases_lt}
use Rattle.std.proofs.lemmas.Bool.Decides.{nat_tests}
use Rattle.std.proofs.lemmas.List.{map-append}
use Rattle.std.proofs.lemmas.List.Sorted.{Contains-permutation, IsPermutation-sym, sum_by-IsPermutation}
use Rattle.std.proofs.lemmas.List.Sums.{sum_by-append, sum_by-cons}
use Rattle.std.proofs.lemmas.Option.{get_or_from_slice_get, same_Some, slice_get_read, slice_get_within}
use Rattle.addr_base.specs.declared.ranges.Range.{Range}
use Rattle.addr_base.specs.declared.rights.Rights.{Rights}
use Rattle.addr_base.specs.Range.{ADDRESS_END, end_of, in_range}
use Rattle.flat_model.specs.declared.parts.Item.{Item}
use Rattle.flat_model.specs.Cover as cover_words
use Rattle.flat_model.specs.Cover.{attributes, block_pair, blocks, cover_blocks, cover_of, exponent}
use Rattle.flat_model.specs.Decision.{region_len, size_field}
use Rattle.flat_model.specs.Plan.{grant_pairs}
use Rattle.flat_model.specs.Sound.{AreApart, AreGrantsApart}
use Rattle.flat_model.proofs.Blocks.{IsBlock, IsLargest, IsLargest-exponent, IsSpan, IsSpan-rest, blocks-more, blocks-none, each-blocks}
use Rattle.flat_model.proofs.Covers.{rights_fields}
use Rattle.flat_model.proofs.Elements.{each-flat_map, each-get, each-map, slice_get_some}
use Rattle.flat_model.proofs.Powers.{at_least_32}
use Rattle.region_packer.specs.declared.directory.Block.{Block}
use Rattle.region_packer.specs.Directory.{IsAscending, IsCoverable, IsOrdered, block_of, grant_blocks}

-- 1 where the range has the address
abbrev pub hit_range : ℕ → Range → ℕ
hit_range a range = if in_range range a then 1 else 0

-- 1 where the block has the address
abbrev pub hit : ℕ → Block → ℕ
hit a block = hit_range a block.part

-- how many of the blocks have the address
abbrev pub hits : ℕ → List Block → ℕ
hits a bs = sum_by (hit a) bs

-- ---- of a cover at most one block has an address, and none where the range doesn't

-- a block's region has the block's bytes
pub length-region : (rights : Rights) (block : cover_words.Block) → 5 ≤ block.exponent → block.exponent < 32 → region_len (block_pair (attributes rights) block) ≡ 2 ^ block.exponent
length-region rights block enough limit =
    let size : size_field (block_pair (attributes rights) block) ≡ block.exponent - 1 = (rights_fields block rights enough limit).size_is in
    let whole : block.exponent - 1 + 1 ≡ block.exponent = omega (arith, enough) in
    ap (λ n. 2 ^ (n + 1)) size ∙ ap (λ n. 2 ^ n) whole

-- what is known of a count at an address: at most one between two addresses, and none elsewhere
record IsOnce (p e a n : ℕ) : Type 0 where
  pub inside : n ≤ 1
  pub below : a < p → n ≤ 0
  pub above : e ≤ a → n ≤ 0

IsOnce-none : (p e a : ℕ) → IsOnce p e a 0
IsOnce-none p e a = record { inside = omega arith; below = λ h. omega arith; above = λ h. omega arith }

IsOnce-more : (p len e a rest : ℕ) → p + len ≤ e → IsOnce (p + len) e a rest → IsOnce p e a (hit_range a (record { base = p; len = len }) + rest)
IsOnce-more p len e a rest within it = elim (cases_lt a (p + len)) [
  | inl here ↦
      let none : rest ≤ 0 = it.below here in
      record {
        inside = grind (arith, nat_tests);
        below = λ h. grind (arith, nat_tests);
        above = λ h. absurd (omega (arith, h, here, within));
      }
  | inr past ↦
      let first : hit_range a (record { base = p; len = len }) ≡ 0 = grind (arith, nat_tests) in
      record {
        inside = omega (arith, first, it.inside);
        below = λ h. absurd (omega (arith, h, past));
        above = λ h. omega (arith, first, it.above h);
      }
]

once-blocks : (rights : Rights) (n p e a : ℕ) → IsSpan p e → IsOnce p e a (hits a (map (λ block. block_of (block_pair (attributes rights) block)) (blocks n p e)))
unfolding blocks
once-blocks rights zero p e a span = IsOnce-none p e a
once-blocks rights (suc n) p e a span = elim (cases_lt p e) [
  | inr after ↦ rw (blocks-none (suc n) p e after) (IsOnce-none p e a)
  | inl before ↦
      let k : ℕ = exponent p e in
      let it : IsLargest p e k = IsLargest-exponent p e span before in
      let tail : List Block = map (λ block. block_of (block_pair (attributes rights) block)) (blocks n (p + 2 ^ k) e) in
      let rest = once-blocks rights n (p + 2 ^ k) e a (IsSpan-rest p e k span it) in
      let whole : hits a (map (λ block. block_of (block_pair (attributes rights) block)) (blocks (suc n) p e)) ≡ hit_range a (record { base = p; len = 2 ^ k }) + hits a tail =
      ap (λ bs. hits a (map (λ block. block_of (block_pair (attributes rights) block)) bs)) (blocks-more n p e before)
      ∙ sum_by-cons (hit a) (block_of (block_pair (attributes rights) (record { base = p; exponent = k }))) tail
      ∙ ap (λ len. hit_range a (record { base = p; len = len }) + hits a tail) (length-region rights (record { base = p; exponent = k }) it.enough it.limit) in
      subst (IsOnce p e a) (sym whole) (IsOnce-more p (2 ^ k) e a (hits a tail) it.within rest)
]

map-map : {X Y Z : Type 0} (f : Y → Z) (g : X → Y) (xs : List X) → map f (map g xs) ≡ map (λ x. f (g x)) xs
map-map f g [] = refl
map-map f g (x ∷ xs) = ap (λ ys. f (g x) ∷ ys) (map-map f g xs)

pub IsSpan-coverable : (grant : Item) → IsCoverable grant → IsSpan grant.range.base (end_of grant.range)
IsSpan-coverable grant it = record { low = it.base; high = omega (arith, it.base, it.len); limit = omega (arith, it.ends) }

once-cover : (grant : Item) (a : ℕ) → IsCoverable grant → IsOnce grant.range.base (end_of grant.range) a (hits a (map block_of (cover_of grant.range grant.rights)))
once-cover grant a it =
    subst (λ bs. IsOnce grant.range.base (end_of grant.range) a (hits a bs))
    (sym (map-map block_of (block_pair (attributes grant.rights)) (cover_blocks grant.range)))
    (once-blocks grant.rights (grant.range.len / 32) grant.range.base (end_of grant.range) a (IsSpan-coverable grant it))

-- ---- and so of all grants

hits-cons : (g : Item) (gs : List Item) (a : ℕ) → hits a (grant_blocks (g ∷ gs)) ≡ hits a (map block_of (cover_of g.range g.rights)) + hits a (grant_blocks gs)
hits-cons g gs a =
    ap (hits a) (map-append block_of (cover_of g.range g.rights) (grant_pairs gs))
    ∙ sum_by-append (hit a) (map block_of (cover_of g.range g.rights)) (grant_blocks gs)

outside : (range : Range) (a n : ℕ) → IsOnce range.base (end_of range) a n → in_range range a ≡ false → n ≡ 0
outside range a n it off = elim (cases_lt a range.base) [
  | inl low ↦ omega (arith, it.below low)
  | inr from ↦ let high : end_of range ≤ a = grind (arith, nat_tests) in omega (arith, it.above high)
]

hits-off : (gs : List Item) (a : ℕ) → AllByRecursion IsCoverable gs → AllByRecursion (λ g. in_range g.range a ≡ false) gs → hits a (grant_blocks gs) ≡ 0
hits-off [] a each off = refl
hits-off (g ∷ gs) a each off =
    let first : hits a (map block_of (cover_of g.range g.rights)) ≡ 0 = outside g.range a (hits a (map block_of (cover_of g.range g.rights))) (once-cover g a each.0) off.0 in
    omega (arith, hits-cons g gs a, first, hits-off gs a each.1 off.1)

away : (range : Range) (gs : List Item) (a : ℕ) → AllByRecursion (λ other. AreApart range other.range) gs → in_range range a ≡ true → AllByRecursion (λ g. in_range g.range a ≡ false) gs
away range [] a each here = tt
away range (g ∷ gs) a each here = (each.0 a here, away range gs a each.1 here)

-- no address is in two blocks
pub hits-few : (gs : List Item) (a : ℕ) → AllByRecursion IsCoverable gs → AreGrantsApart gs → hits a (grant_blocks gs) ≤ 1
hits-few [] a each apart = omega arith
hits-few (g ∷ gs) a each apart = elim (cases_Bool (in_range g.range a)) [
  | inl here ↦
      omega (arith, hits-cons g gs a, (once-cover g a each.0).inside, hits-off gs a each.1 (away g.range gs a apart.0 here))
  | inr off ↦
      let first : hits a (map block_of (cover_of g.range g.rights)) ≡ 0 = outside g.range a (hits a (map block_of (cover_of g.range g.rights))) (once-cover g a each.0) off in
      omega (arith, hits-cons g gs a, first, hits-few gs a each.1 apart.1)
]

-- ---- two blocks that have an address are two hits

one-hit : (bs : List Block) (i a : ℕ) (x : Block) → slice_get bs i ≡ Some x → in_range x.part a ≡ true → 1 ≤ hits a bs
one-hit [] i a x at here = absurd (cc)
one-hit (b ∷ bs) zero a x at here =
    let same : b ≡ x = same_Some b x at in
    let first : hit a b ≡ 1 = ap (hit a) same ∙ ap (λ t. if◌then◌else◌ {A = ℕ} t 1 0) here in
    omega (arith, first, sum_by-cons (hit a) b bs)
one-hit (b ∷ bs) (suc i) a x at here = omega (arith, one-hit bs i a x at here, sum_by-cons (hit a) b bs)

two-hits : (bs : List Block) (i j a : ℕ) (x y : Block) → i < j → slice_get bs i ≡ Some x → slice_get bs j ≡ Some y → in_range x.part a ≡ true → in_range y.part a ≡ true → 2 ≤ hits a bs
two-hits [] i j a x y order at other here there = absurd (cc)
two-hits (b ∷ bs) i zero a x y order at other here there = absurd (omega (arith, order))
two-hits (b ∷ bs) zero (suc j) a x y order at other here there =
    let same : b ≡ x = same_Some b x at in
    let first : hit a b ≡ 1 = ap (hit a) same ∙ ap (λ t. if◌then◌else◌ {A = ℕ} t 1 0) here in
    omega (arith, first, one-hit bs j a y other there, sum_by-cons (hit a) b bs)
two-hits (b ∷ bs) (suc i) (suc j) a x y order at other here there =
    omega (arith, two-hits bs i j a x y (omega (arith, order)) at other here there, sum_by-cons (hit a) b bs)

-- blocks of which none has an address with another, in the order of their bases, ascend
pub IsAscending-sorted : (grants : List Item) (bs : List Block) → AllByRecursion IsCoverable grants → AreGrantsApart grants →
    IsPermutation (grant_blocks grants) bs → IsNonDecreasingBy (λ (b : Block). b.part.base) bs →
    ((i : ℕ) (b : Block) → slice_get bs i ≡ Some b → 0 < b.part.len) → IsAscending bs
IsAscending-sorted grants bs each apart same up some i j x y order at other = elim (cases_lt y.part.base (end_of x.part)) [
  | inr past ↦ past
  | inl within ↦
      let low : x.part.base ≤ y.part.base =
      subst (λ (b : Block). b.part.base ≤ y.part.base) (get_or_from_slice_get bs i x x at)
      (subst (λ (b : Block). (get_or bs i x).part.base ≤ b.part.base) (get_or_from_slice_get bs j y x other)
      (up i j x (omega (arith, order)) (slice_get_within bs j y other))) in
      let here : in_range x.part y.part.base ≡ true = grind (arith, nat_tests) in
      let long : 0 < y.part.len = some j y other in
      let there : in_range y.part y.part.base ≡ true = grind (arith, nat_tests) in
      let two : 2 ≤ hits y.part.base bs = two-hits bs i j y.part.base x y order at other here there in
      let all : hits y.part.base bs ≡ hits y.part.base (grant_blocks grants) = sum_by-IsPermutation (hit y.part.base) (grant_blocks grants) bs same in
      absurd (omega (arith, two, all, hits-few grants y.part.base each apart))
]

-- ---- how many there are

-- a block of at least 32 bytes below the end of addresses
pub record IsSized (block : Block) : Type 0 where
  pub enough : 32 ≤ block.part.len
  pub ends : end_of block.part ≤ ADDRESS_END

climb : (bs : List Block) → IsAscending bs → ((i : ℕ) (b : Block) → slice_get bs i ≡ Some b → IsSized b) → (i : ℕ) (b : Block) → slice_get bs i ≡ Some b → 32 * i ≤ b.part.base
climb bs up each zero b at = omega arith
climb bs up each (suc i) b at =
    let before = slice_get_some bs i (omega (arith, slice_get_within bs (suc i) b at)) in
    let low : 32 * i ≤ before.0.part.base = climb bs up each i before.0 before.1 in
    omega (arith, low, (each i before.0 before.1).enough, up i (suc i) before.0 b (omega arith) before.1 at)

-- fewer than 2 ^ 32
pub length-few : (bs : List Block) → IsAscending bs → ((i : ℕ) (b : Block) → slice_get bs i ≡ Some b → IsSized b) → length bs < 2 ^ 32
length-few bs up each = elim (cases_lt 0 (length bs)) [
  | inr none ↦ omega (arith, none)
  | inl some ↦
      let last = slice_get_some bs (length bs - 1) (omega (arith, some)) in
      omega (arith, climb bs up each (length bs - 1) last.0 last.1, (each (length bs - 1) last.0 last.1).ends)
]

-- ---- what each block of a cover is

-- the pair of a block below 2 ^ 32 has a size below that of all addresses
pub each_small : (grant : Item) → IsCoverable grant → AllByRecursion (λ p. size_field p < 31) (cover_of grant.range grant.rights)
each_small grant it =
    each-map (block_pair (attributes grant.rights)) (IsBlock grant.range.base (end_of grant.range)) (λ p. size_field p < 31)
    (λ block is.
    let size : size_field (block_pair (attributes grant.rights) block) ≡ block.exponent - 1 = (rights_fields block grant.rights is.enough is.limit).size_is in
    omega (arith, size, is.limit))
    (cover_blocks grant.range)
    (each-blocks (grant.range.len / 32) grant.range.base (end_of grant.range) grant.range.base (IsSpan-coverable grant it) (omega arith))

each-sized-cover : (grant : Item) → IsCoverable grant → AllByRecursion (λ p. IsSized (block_of p)) (cover_of grant.range grant.rights)
each-sized-cover grant it =
    each-map (block_pair (attributes grant.rights)) (IsBlock grant.range.base (end_of grant.range)) (λ p. IsSized (block_of p))
    (λ block is.
    let long = length-region grant.rights block is.enough is.limit in
    record {
      enough = omega (arith, long, at_least_32 block.exponent is.enough);
      ends = omega (arith, long, is.within, it.ends);
    })
    (cover_blocks grant.range)
    (each-blocks (grant.range.len / 32) grant.range.base (end_of grant.range) grant.range.base (IsSpan-coverable grant it) (omega arith))

-- each block of the grants has at least 32 bytes below the end of addresses
pub each_sized : (grants : List Item) → AllByRecursion IsCoverable grants → AllByRecursion IsSized (grant_blocks grants)
each_sized grants each =
    each-map block_of (λ p. IsSized (block_of p)) IsSized (λ p is. is) (grant_pairs grants)
    (each-flat_map (λ g. cover_of g.range g.rights) IsCoverable (λ p. IsSized (block_of p)) each-sized-cover grants each)

-- and so has each of the blocks in another order
pub sized-sorted : (grants : List Item) (bs : List Block) → AllByRecursion IsCoverable grants → IsPermutation (grant_blocks grants) bs →
    (i : ℕ) (b : Block) → slice_get bs i ≡ Some b → IsSized b
sized-sorted grants bs each same i b at =
    let it = Contains-permutation bs (grant_blocks grants) b (IsPermutation-sym (grant_blocks grants) bs same)
    (i, slice_get_within bs i b at, get_or_from_slice_get bs i b b at) in
    each-get IsSized (grant_blocks grants) it.0 b (each_sized grants each) (slice_get_read (grant_blocks grants) (length (grant_blocks grants)) it.0 b refl it.1 (sym it.2))

-- ---- what a sort of them by their bases gives

-- the blocks of grants that don't overlap, sorted by their bases, are those of a directory
pub IsOrdered-sorted : (grants : List Item) (bs : List Block) → AllByRecursion IsCoverable grants → AreGrantsApart grants →
    IsPermutation (grant_blocks grants) bs → IsNonDecreasingBy (λ (b : Block). b.part.base) bs → IsOrdered bs
IsOrdered-sorted grants bs each apart same rising =
    let sized = sized-sorted grants bs each same in
    let up : IsAscending bs = IsAscending-sorted grants bs each apart same rising (λ i b at. some_bytes b (sized i b at)) in
    record { ascending = up; few = length-few bs up sized }
  where
    some_bytes : (b : Block) → IsSized b → 0 < b.part.len
    some_bytes b it = omega (arith, it.enough)
