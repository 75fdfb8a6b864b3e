-- One more look of a search by halves.
use Rattle.std.proofs.Common.{◌≡◌, ℕ, suc, ◌+◌, ◌-◌, ◌*◌, ◌/◌, ◌^◌, ◌<◌, ◌≤◌, true, false, List, length, Some, refl, sym, ◌∙◌, ap, subst, arith, inl, inr}
use Rattle.std.specs.List.{slice_get}
use Rattle.std.proofs.lemmas.Bool.{cases_lt}
use Rattle.std.proofs.lemmas.Bool.Decides.{nat_tests}
use Rattle.std.proofs.lemmas.Nat.{mul-le}
use Rattle.std.proofs.lemmas.Option.{same_Some, slice_get_within}
use Rattle.std.proofs.Math.Nat.{pow-le-pow_right, pow-succ'}
use Rattle.addr_base.specs.declared.ranges.Range.{Range}
use Rattle.addr_base.specs.Range.{end_of, in_range}
use Rattle.region_packer.specs.declared.directory.Block.{Block}
use Rattle.region_packer.specs.Directory.{DirectoryView, IsAscending, counted}

-- how far a search has come: no block before `low` or from `high` on has the address, and k looks at the most were made
pub record IsHalved (old now : DirectoryView) (a low high : ℕ) : Type 0 where
  pub same : now.blocks ≡ old.blocks
  pub grown : old.probes ≤ now.probes
  pub order : low ≤ high
  pub within : high ≤ length old.blocks
  pub below : (i : ℕ) (block : Block) → i < low → slice_get old.blocks i ≡ Some block → in_range block.part a ≡ false
  pub above : (i : ℕ) (block : Block) → high ≤ i → slice_get old.blocks i ≡ Some block → in_range block.part a ≡ false
  pub looks : ℕ
  pub counted : now.probes ≤ old.probes + looks
  pub left : 2 ^ looks * (high - low) ≤ length old.blocks
  pub few : 2 ^ looks ≤ 2 * length old.blocks + 1

off-low : (range : Range) (a : ℕ) → a < range.base → in_range range a ≡ false
off-low range a low = grind (arith, nat_tests)

off-high : (range : Range) (a : ℕ) → end_of range ≤ a → in_range range a ≡ false
off-high range a high = grind (arith, nat_tests)

pub on-range : (range : Range) (a : ℕ) → range.base ≤ a → a < end_of range → in_range range a ≡ true
on-range range a low high = grind (arith, nat_tests)

bound_by : (old : DirectoryView) (probes looks : ℕ) → probes ≤ old.probes + looks → 2 ^ looks ≤ 2 * length old.blocks + 1 → 2 ^ (probes - old.probes) ≤ 2 * length old.blocks + 1
bound_by old probes looks count few =
    let fewer : probes - old.probes ≤ looks = omega (arith, count) in
    let power : 2 ^ (probes - old.probes) ≤ 2 ^ looks = pow-le-pow_right (omega arith) {i = probes - old.probes} {j = looks} fewer in
    omega (arith, power, few)

-- before any look
pub IsHalved-start : (old : DirectoryView) (a high : ℕ) → high ≡ length old.blocks → IsHalved old old a 0 high
IsHalved-start old a high all = record {
  same = refl;
  grown = omega arith;
  order = omega arith;
  within = omega arith;
  below = λ i block h at. absurd (omega (arith, h));
  above = λ i block h at. absurd (past i block (omega (arith, h)) at);
  looks = 0;
  counted = omega arith;
  left = omega arith;
  few = omega arith;
}
  where
    past : (i : ℕ) (block : Block) → length old.blocks ≤ i → slice_get old.blocks i ≡ Some block → ⊥
    past i block h at = omega (arith, h, slice_get_within old.blocks i block at)

regroup : (p n : ℕ) → 2 * p * n ≡ p * (2 * n)
regroup p n = omega arith

-- a look counts one at the most, and takes none away
more-counted : (probes : ℕ) → counted probes ≤ probes + 1
more-counted probes = grind (arith, nat_tests)

none-lost : (probes : ℕ) → probes ≤ counted probes
none-lost probes = grind (arith, nat_tests)

module _ (old now next : DirectoryView) (a low high middle : ℕ) (it : IsHalved old now a low high) (up : IsAscending old.blocks)
    (more : low < high) (is : middle ≡ low + (high - low) / 2) (block : Block) (found_at : slice_get now.blocks middle ≡ Some block)
    (step : next ≡ record now { probes = counted now.probes }) where
  at : slice_get old.blocks middle ≡ Some block
  at = subst (λ (bs : List Block). slice_get bs middle ≡ Some block) it.same found_at

  probes_are : next.probes ≡ counted now.probes
  probes_are = ap (λ (v : DirectoryView). v.probes) step

  same_blocks : next.blocks ≡ old.blocks
  same_blocks = ap (λ (v : DirectoryView). v.blocks) step ∙ it.same

  pub grown-counted : old.probes ≤ next.probes
  grown-counted = omega (arith, it.grown, none-lost now.probes, probes_are)

  counted-more : next.probes ≤ old.probes + suc it.looks
  counted-more = omega (arith, it.counted, more-counted now.probes, probes_are)

  doubled : 2 ^ suc it.looks ≡ 2 * 2 ^ it.looks
  doubled = pow-succ' 2 it.looks

  some-left : 2 ^ it.looks ≤ length old.blocks
  some-left =
      let one : 2 ^ it.looks * 1 ≤ 2 ^ it.looks * (high - low) = mul-le (2 ^ it.looks) 1 (2 ^ it.looks) (high - low) (omega arith) (omega arith) in
      omega (arith, one, it.left)

  half-left : (n : ℕ) → 2 * n ≤ high - low → 2 ^ suc it.looks * n ≤ length old.blocks
  half-left n half =
      let times : 2 ^ it.looks * (2 * n) ≤ 2 ^ it.looks * (high - low) = mul-le (2 ^ it.looks) (2 * n) (2 ^ it.looks) (high - low) (omega arith) half in
      let same : 2 ^ suc it.looks * n ≡ 2 ^ it.looks * (2 * n) = ap (λ x. x * n) doubled ∙ regroup (2 ^ it.looks) n in
      omega (arith, times, same, it.left)

  few-more : 2 ^ suc it.looks ≤ 2 * length old.blocks + 1
  few-more = omega (arith, doubled, some-left)

  -- the address is before the block
  pub IsHalved-left : a < block.part.base → IsHalved old next a low middle
  IsHalved-left before = record {
    same = same_blocks;
    grown = grown-counted;
    order = omega (arith, is, more);
    within = omega (arith, is, more, it.within);
    below = it.below;
    above = λ i other h found. elim (cases_lt middle i) [
      | inl later ↦ off-low other.part a (omega (arith, before, up middle i block other later at found))
      | inr here ↦
          let one : middle ≡ i = omega (arith, h, here) in
          let same : block ≡ other = same_Some block other (sym at ∙ ap (slice_get old.blocks) one ∙ found) in
          subst (λ (b : Block). in_range b.part a ≡ false) same (off-low block.part a before)
    ];
    looks = suc it.looks;
    counted = counted-more;
    left = half-left (middle - low) (omega (arith, is, more));
    few = few-more;
  }

  -- the address is behind the block
  pub IsHalved-right : end_of block.part ≤ a → IsHalved old next a (middle + 1) high
  IsHalved-right behind = record {
    same = same_blocks;
    grown = grown-counted;
    order = omega (arith, is, more);
    within = it.within;
    below = λ i other h found. elim (cases_lt i middle) [
      | inl earlier ↦ off-high other.part a (omega (arith, behind, up i middle other block earlier found at))
      | inr here ↦
          let one : middle ≡ i = omega (arith, h, here) in
          let same : block ≡ other = same_Some block other (sym at ∙ ap (slice_get old.blocks) one ∙ found) in
          subst (λ (b : Block). in_range b.part a ≡ false) same (off-high block.part a behind)
    ];
    above = it.above;
    looks = suc it.looks;
    counted = counted-more;
    left = half-left (high - (middle + 1)) (omega (arith, is, more));
    few = few-more;
  }

  -- the block has the address
  pub bound-found : 2 ^ (next.probes - old.probes) ≤ 2 * length old.blocks + 1
  bound-found = bound_by old next.probes (suc it.looks) counted-more few-more

-- no block is left
pub bound-none : (old now : DirectoryView) (a low high : ℕ) → IsHalved old now a low high → 2 ^ (now.probes - old.probes) ≤ 2 * length old.blocks + 1
bound-none old now a low high it = bound_by old now.probes it.looks it.counted it.few

pub none-found : (old now : DirectoryView) (a low high : ℕ) → IsHalved old now a low high → high ≤ low → (i : ℕ) (block : Block) → slice_get old.blocks i ≡ Some block → in_range block.part a ≡ false
none-found old now a low high it past i block at = elim (cases_lt i low) [
  | inl before ↦ it.below i block before at
  | inr from ↦ it.above i block (omega (arith, past, from)) at
]
