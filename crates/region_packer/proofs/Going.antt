-- How far the cover of a range has come.
use Rattle.std.proofs.Common.{◌≡◌, ℕ, zero, suc, ◌+◌, ◌*◌, ◌/◌, ◌%◌, ◌^◌, ◌<◌, ◌≤◌, List, [], ◌∷◌, ◌++◌, length, map, refl, sym, ◌∙◌, ap, arith, length-append, append_assoc}
use Rattle.std.proofs.Math.ListN.{length-map}
use Rattle.addr_base.specs.declared.pairs.Pair.{Pair}
use Rattle.addr_base.specs.declared.ranges.Range.{Range}
use Rattle.addr_base.specs.declared.rights.Rights.{Rights}
use Rattle.addr_base.specs.Range.{ADDRESS_END, end_of}
use Rattle.flat_model.specs.Cover.{attributes, block_pair, blocks, cover_of, exponent}
use Rattle.flat_model.proofs.Blocks.{IsLargest-exponent, IsSpan, IsSpan-rest, blocks-more, blocks-none, length-blocks}
use Rattle.flat_model.proofs.Powers.{at_least_32}

-- the pairs so far, and then the blocks that are left, are the cover
pub record IsGoing (range : Range) (rights : Rights) (at : ℕ) (items : List Pair) : Type 0 where
  pub steps : ℕ
  pub enough : end_of range ≤ at + 32 * steps
  pub span : IsSpan at (end_of range)
  pub within : at ≤ end_of range
  pub so_far : items ++ map (block_pair (attributes rights)) (blocks steps at (end_of range)) ≡ cover_of range rights

-- where the range begins nothing is there yet
pub IsGoing-start : (range : Range) (rights : Rights) → range.base % 32 ≡ 0 → range.len % 32 ≡ 0 → end_of range ≤ ADDRESS_END → IsGoing range rights range.base []
IsGoing-start range rights base len limit = record {
  steps = range.len / 32;
  enough = omega arith;
  span = record { low = base; high = omega arith; limit = omega arith };
  within = omega arith;
  so_far = refl;
}

left_by : (range : Range) (rights : Rights) (at steps : ℕ) (items : List Pair) → end_of range ≤ at + 32 * steps → IsSpan at (end_of range) → at < end_of range → items ++ map (block_pair (attributes rights)) (blocks steps at (end_of range)) ≡ cover_of range rights → IsSpan range.base (end_of range) → length items < 54
left_by range rights at zero items enough span before so_far whole = absurd (omega arith)
left_by range rights at (suc n) items enough span before so_far whole =
    let all : length (cover_of range rights) ≤ 54 =
    rw (length-map (blocks (range.len / 32) range.base (end_of range)) (block_pair (attributes rights))) (length-blocks (range.len / 32) range.base (end_of range) whole) in
    let sum : length items + length (map (block_pair (attributes rights)) (blocks (suc n) at (end_of range))) ≤ 54 =
    rw (← length-append) (rw so_far all) in
    let some : length (map (block_pair (attributes rights)) (blocks (suc n) at (end_of range))) ≡ suc (length (map (block_pair (attributes rights)) (blocks n (at + 2 ^ exponent at (end_of range)) (end_of range)))) =
    ap (λ bs. length (map (block_pair (attributes rights)) bs)) (blocks-more n at (end_of range) before) in
    omega (arith, sum, some)

-- there is room for one more
pub length-going : (range : Range) (rights : Rights) (at : ℕ) (items : List Pair) → IsSpan range.base (end_of range) → at < end_of range → IsGoing range rights at items → length items < 54
length-going range rights at items whole before it = left_by range rights at it.steps items it.enough it.span before it.so_far whole

more_by : (range : Range) (rights : Rights) (at steps : ℕ) (items : List Pair) → end_of range ≤ at + 32 * steps → IsSpan at (end_of range) → at < end_of range → items ++ map (block_pair (attributes rights)) (blocks steps at (end_of range)) ≡ cover_of range rights → IsGoing range rights (at + 2 ^ exponent at (end_of range)) (items ++ block_pair (attributes rights) (record { base = at; exponent = exponent at (end_of range) }) ∷ [])
more_by range rights at zero items enough span before so_far = absurd (omega arith)
more_by range rights at (suc n) items enough span before so_far =
    let it = IsLargest-exponent at (end_of range) span before in
    record {
      steps = n;
      enough = omega (arith, enough, at_least_32 (exponent at (end_of range)) it.enough);
      span = IsSpan-rest at (end_of range) (exponent at (end_of range)) span it;
      within = it.within;
      so_far =
          append_assoc items (block_pair (attributes rights) (record { base = at; exponent = exponent at (end_of range) }) ∷ []) (map (block_pair (attributes rights)) (blocks n (at + 2 ^ exponent at (end_of range)) (end_of range)))
          ∙ ap (λ bs. items ++ map (block_pair (attributes rights)) bs) (sym (blocks-more n at (end_of range) before))
          ∙ so_far;
    }

-- one more block
pub IsGoing-more : (range : Range) (rights : Rights) (at : ℕ) (items : List Pair) → at < end_of range → IsGoing range rights at items → IsGoing range rights (at + 2 ^ exponent at (end_of range)) (items ++ block_pair (attributes rights) (record { base = at; exponent = exponent at (end_of range) }) ∷ [])
IsGoing-more range rights at items before it = more_by range rights at it.steps items it.enough it.span before it.so_far

append_nil : {X : Type 0} (xs : List X) → xs ++ [] ≡ xs
append_nil [] = refl
append_nil (x ∷ xs) = ap (λ ys. x ∷ ys) (append_nil xs)

-- at the end all is there
pub IsGoing-end : (range : Range) (rights : Rights) (at : ℕ) (items : List Pair) → end_of range ≤ at → IsGoing range rights at items → items ≡ cover_of range rights
IsGoing-end range rights at items after it =
    sym (append_nil items)
    ∙ ap (λ bs. items ++ map (block_pair (attributes rights)) bs) (sym (blocks-none it.steps at (end_of range) after))
    ∙ it.so_far
