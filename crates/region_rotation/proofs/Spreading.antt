-- Grants of one block each, of which the tests make directories.
use Rattle.std.proofs.Common.{◌≡◌, ℕ, ◌+◌, ◌*◌, ◌/◌, ◌%◌, ◌≤◌, List, [], ◌∷◌, ◌++◌, refl, ◌∙◌, ap, subst, sym, arith, inl, inr}
use Rattle.std.specs.List.{AllByRecursion}
use Rattle.std.proofs.lemmas.Bool.{false_from_ne_true}
use Rattle.addr_base.specs.declared.ranges.Range.{Range}
use Rattle.addr_base.specs.Range.{ADDRESS_END, end_of, in_range}
use Rattle.addr_base.specs.Rights.{read_write}
use Rattle.flat_model.specs.declared.parts.Item.{Item}
use Rattle.flat_model.specs.Sound.{AreApart, AreGrantsApart}
use Rattle.flat_model.proofs.Elements.{each-append, each_weaker}
use Rattle.flat_model.proofs.Placed.{bounds_of}
use Rattle.region_packer.specs.Directory.{IsCoverable}

-- two ranges of which one ends before the other begins
apart_below : (first second : Range) → end_of first ≤ second.base → AreApart first second
apart_below first second order = λ a here. false_from_ne_true (in_range second a) (λ there.
    let high = (bounds_of first a here).1 in
    let low = (bounds_of second a there).0 in
    absurd (omega (arith, order)))

-- a grant behind all others is apart from them
AreGrantsApart-push : (gs : List Item) (last : Item) → AreGrantsApart gs → AllByRecursion (λ g. end_of g.range ≤ last.range.base) gs → AreGrantsApart (gs ++ last ∷ [])
AreGrantsApart-push [] last apart below = (tt, tt)
AreGrantsApart-push (g ∷ gs) last apart below = (
  each-append (λ other. AreApart g.range other.range) gs (last ∷ []) apart.0 (apart_below g.range last.range below.0, tt),
  AreGrantsApart-push gs last apart.1 below.1,
)

-- grants that covers can be made of, of which none overlaps another, each below the k-th place
pub record IsSpread (first step k : ℕ) (gs : List Item) : Type 0 where
  pub covered : AllByRecursion IsCoverable gs
  pub apart : AreGrantsApart gs
  pub below : AllByRecursion (λ g. end_of g.range ≤ first + k * step) gs

abbrev pub one_block : ℕ → Item
one_block base = record { range = record { base = base; len = 32 }; rights = read_write }

whole : (first step k : ℕ) → first % 32 ≡ 0 → step % 32 ≡ 0 → (first + k * step) % 32 ≡ 0
whole first step k at by =
    let units : step ≡ 32 * (step / 32) = omega (arith, by) in
    let steps : k * step ≡ 32 * (k * (step / 32)) = ap (λ s. k * s) units ∙ regroup k (step / 32) in
    omega (arith, at, steps)
  where
    regroup : (k q : ℕ) → k * (32 * q) ≡ 32 * (k * q)
    regroup k q = omega arith

-- one grant more
pub IsSpread-more : (first step k : ℕ) (gs : List Item) (g : Item) → IsSpread first step k gs → first % 32 ≡ 0 → step % 32 ≡ 0 → 32 ≤ step →
    first + (k + 1) * step ≤ ADDRESS_END → g ≡ one_block (first + k * step) → IsSpread first step (k + 1) (gs ++ g ∷ [])
IsSpread-more first step k gs g it at by least ends is =
    subst (λ x. IsSpread first step (k + 1) (gs ++ x ∷ [])) (sym is) (record {
      covered = each-append IsCoverable gs (one_block (first + k * step) ∷ []) it.covered
          (record { base = whole first step k at by; len = refl; ends = omega (arith, ends, least); rights = inr (inl refl) }, tt);
      apart = AreGrantsApart-push gs (one_block (first + k * step)) it.apart it.below;
      below = each-append (λ g. end_of g.range ≤ first + (k + 1) * step) gs (one_block (first + k * step) ∷ [])
          (each_weaker (λ g. end_of g.range ≤ first + k * step) (λ g. end_of g.range ≤ first + (k + 1) * step) (λ g h. omega (arith, h)) gs it.below)
          (omega (arith, least), tt);
    })
