-- The touching blocks of a range: how many there are, and which addresses they have.
use Rattle.std.proofs.Common.{◌≡◌, ℕ, zero, suc, ◌+◌, ◌*◌, ◌%◌, ◌^◌, ◌<◌, ◌≤◌, Bool, true, false, [], ◌∷◌, length, Option, Some, None, refl, sym, ◌∙◌, arith, inl, inr}
use Rattle.std.specs.Prelude.{◌&&◌, ◌||◌, nat_eq, nat_le, nat_lt, unwrap_or}
use Rattle.std.specs.List.{AllByRecursion, list_any}
use Rattle.std.proofs.lemmas.Bool.{cases_lt, and_parts, and_from, false≢true, eqb-true, leb-true, eq-eqb, le-leb}
use Rattle.std.proofs.lemmas.Bool.Decides.{nat_tests}
use Rattle.std.proofs.Math.Nat.{pow-le-pow_right}
use Rattle.flat_model.specs.Greatest.{greatest, Says}
use Rattle.flat_model.specs.Cover.{Block, block_fits, exponent, blocks}
use Rattle.flat_model.proofs.Greatness.{Says-greatest}
use Rattle.flat_model.proofs.Powers.{double, divides_below, smaller, at_least_32, divides_next, divides_double}

-- the block of 2 ^ k bytes is the largest that may begin at p and end by e
pub record IsLargest (p e k : ℕ) : Type 0 where
  pub enough : 5 ≤ k
  pub limit : k < 32
  pub whole : p % 2 ^ k ≡ 0
  pub within : p + 2 ^ k ≤ e
  pub largest : (j : ℕ) → k < j → p % 2 ^ j ≡ 0 → p + 2 ^ j ≤ e → ⊥

-- two ends of blocks below 2 ^ 32, each a multiple of 32
pub record IsSpan (p e : ℕ) : Type 0 where
  pub low : p % 32 ≡ 0
  pub high : e % 32 ≡ 0
  pub limit : e < 2 ^ 32

fits_at : (p e k : ℕ) → 5 ≤ k → p % 2 ^ k ≡ 0 → p + 2 ^ k ≤ e → block_fits p e k ≡ true
fits_at p e k enough whole within =
    and_from (nat_le 5 k && nat_eq (p % 2 ^ k) 0) (nat_le (p + 2 ^ k) e)
    (and_from (nat_le 5 k) (nat_eq (p % 2 ^ k) 0) (le-leb 5 k enough) (eq-eqb (p % 2 ^ k) 0 whole))
    (le-leb (p + 2 ^ k) e within)

IsLargest-from_says : (p e : ℕ) (o : Option ℕ) → IsSpan p e → p < e → Says (block_fits p e) 32 o → IsLargest p e (unwrap_or o 5)
IsLargest-from_says p e None span before says =
    absurd (false≢true (sym (says 5 (omega arith)) ∙ fits_at p e 5 (omega arith) span.low (omega (arith, span.low, span.high))))
IsLargest-from_says p e (Some k) span before says =
    let outer = and_parts (nat_le 5 k && nat_eq (p % 2 ^ k) 0) (nat_le (p + 2 ^ k) e) says.here in
    let inner = and_parts (nat_le 5 k) (nat_eq (p % 2 ^ k) 0) outer.0 in
    record {
      enough = leb-true 5 k inner.0;
      limit = says.below;
      whole = eqb-true (p % 2 ^ k) 0 inner.1;
      within = leb-true (p + 2 ^ k) e outer.1;
      largest = λ j more whole within. elim (cases_lt j 32) [
        | inl below ↦ false≢true (sym (says.above j more below) ∙ fits_at p e j (omega (arith, leb-true 5 k inner.0)) whole within)
        | inr past ↦ let large : 2 ^ 32 ≤ 2 ^ j = pow-le-pow_right (omega arith) {i = 32} {j = j} past in omega (arith, span.limit)
      ];
    }

pub IsLargest-exponent : (p e : ℕ) → IsSpan p e → p < e → IsLargest p e (exponent p e)
IsLargest-exponent p e span before = IsLargest-from_says p e (greatest (block_fits p e) 32) span before (Says-greatest (block_fits p e) 32)

-- a multiple of a power of at least 32 is a multiple of 32
whole_32 : (p k : ℕ) → 5 ≤ k → p % 2 ^ k ≡ 0 → p % 32 ≡ 0
whole_32 p k enough whole = divides_below 5 k p enough whole

pub IsSpan-rest : (p e k : ℕ) → IsSpan p e → IsLargest p e k → IsSpan (p + 2 ^ k) e
IsSpan-rest p e k span it =
    record { low = whole_32 (p + 2 ^ k) k it.enough (divides_next k p it.whole); high = span.high; limit = span.limit }

-- what follows the first block of a range that isn't empty
pub blocks-more : (n p e : ℕ) → p < e → blocks (suc n) p e ≡ record { base = p; exponent = exponent p e } ∷ blocks n (p + 2 ^ exponent p e) e
unfolding blocks
blocks-more n p e before = let test : nat_lt p e ≡ true = grind (arith, nat_tests) in rw test refl

-- an empty range has no blocks
pub blocks-none : (n p e : ℕ) → e ≤ p → blocks n p e ≡ []
unfolding blocks
blocks-none zero p e after = refl
blocks-none (suc n) p e after = let test : nat_lt p e ≡ false = grind (arith, nat_tests) in rw test refl

blocks-zero : (p e : ℕ) → blocks zero p e ≡ []
unfolding blocks
blocks-zero p e = refl

-- Where 2 ^ k divides p and e is nearer than 2 ^ k, the blocks that follow shrink: at most k - 5.
fall : (n p e k : ℕ) → IsSpan p e → 5 ≤ k → p % 2 ^ k ≡ 0 → e < p + 2 ^ k → length (blocks n p e) + 5 ≤ k
fall zero p e k span enough whole near = rw (blocks-zero p e) (omega arith)
fall (suc n) p e k span enough whole near = elim (cases_lt p e) [
  | inr after ↦ rw (blocks-none (suc n) p e after) (omega arith)
  | inl before ↦
      let j : ℕ = exponent p e in
      let it : IsLargest p e j = IsLargest-exponent p e span before in
      let less : j < k = smaller j k (omega (arith, it.within)) in
      let nearer : e < (p + 2 ^ j) + 2 ^ j = elim (cases_lt e (p + 2 ^ (j + 1))) [
        | inl less ↦ omega (arith, double j, less)
        | inr room ↦ absurd (it.largest (j + 1) (omega arith) (divides_below (j + 1) k p (omega arith) whole) room)
      ] in
      let rest = fall n (p + 2 ^ j) e j (IsSpan-rest p e j span it) it.enough (divides_next j p it.whole) nearer in
      rw (blocks-more n p e before) (omega (arith, rest))
]

-- Where 2 ^ v divides p, the blocks grow up to 2 ^ 31 and then shrink: at most 59 - v.
rise : (n p e v : ℕ) → IsSpan p e → 5 ≤ v → v ≤ 32 → p % 2 ^ v ≡ 0 → length (blocks n p e) + v ≤ 59
rise zero p e v span enough limit whole = rw (blocks-zero p e) (omega arith)
rise (suc n) p e v span enough limit whole = elim (cases_lt p e) [
  | inr after ↦ rw (blocks-none (suc n) p e after) (omega arith)
  | inl before ↦
      let k : ℕ = exponent p e in
      let it : IsLargest p e k = IsLargest-exponent p e span before in
      let next : IsSpan (p + 2 ^ k) e = IsSpan-rest p e k span it in
      elim (cases_lt e (p + 2 ^ (k + 1))) [
        | inl near ↦
            let rest = fall n (p + 2 ^ k) e k next it.enough (divides_next k p it.whole) (omega (arith, double k, near)) in
            rw (blocks-more n p e before) (omega (arith, rest, it.limit))
        | inr room ↦
            let odd : p % 2 ^ (k + 1) ≡ 0 → ⊥ = λ even. it.largest (k + 1) (omega arith) even room in
            let order : v ≤ k = elim (cases_lt k v) [
              | inl more ↦ absurd (odd (divides_below (k + 1) v p (omega arith) whole))
              | inr fine ↦ fine
            ] in
            let rest = rise n (p + 2 ^ k) e (k + 1) next (omega (arith, it.enough)) (omega (arith, it.limit)) (divides_double k p it.whole odd) in
            rw (blocks-more n p e before) (omega (arith, rest))
      ]
]

-- a range below 2 ^ 32 has at most 54 blocks
pub length-blocks : (n p e : ℕ) → IsSpan p e → length (blocks n p e) ≤ 54
length-blocks n p e span = omega (arith, rise n p e 5 span (omega arith) (omega arith) span.low)

-- whether the block has the address
abbrev pub in_block : Block → ℕ → Bool
in_block block a = nat_le block.base a && nat_lt a (block.base + 2 ^ block.exponent)

-- the blocks have exactly the addresses from p to e
pub list_any-blocks : (n p e a : ℕ) → IsSpan p e → e ≤ p + 32 * n → list_any (λ b. in_block b a) (blocks n p e) ≡ (nat_le p a && nat_lt a e)
list_any-blocks zero p e a span enough = rw (blocks-zero p e) (grind (arith, nat_tests))
list_any-blocks (suc n) p e a span enough = elim (cases_lt p e) [
  | inr after ↦ rw (blocks-none (suc n) p e after) (grind (arith, nat_tests))
  | inl before ↦
      let k : ℕ = exponent p e in
      let it : IsLargest p e k = IsLargest-exponent p e span before in
      let large : 32 ≤ 2 ^ k = at_least_32 k it.enough in
      let rest = list_any-blocks n (p + 2 ^ k) e a (IsSpan-rest p e k span it) (omega arith) in
      rw (blocks-more n p e before) (joined p e a (2 ^ k) (list_any (λ b. in_block b a) (blocks n (p + 2 ^ k) e)) it.within rest)
]
  where
    joined : (p e a len : ℕ) (rest : Bool) → p + len ≤ e → rest ≡ (nat_le (p + len) a && nat_lt a e) → ((nat_le p a && nat_lt a (p + len)) || rest) ≡ (nat_le p a && nat_lt a e)
    joined p e a len rest within is = grind (arith, nat_tests)

-- a block that is aligned, has at least 32 bytes and lies between two addresses
pub record IsBlock (p e : ℕ) (block : Block) : Type 0 where
  pub enough : 5 ≤ block.exponent
  pub limit : block.exponent < 32
  pub whole : block.base % 2 ^ block.exponent ≡ 0
  pub after : p ≤ block.base
  pub within : block.base + 2 ^ block.exponent ≤ e

-- each block lies between the ends
pub each-blocks : (n p e low : ℕ) → IsSpan p e → low ≤ p → AllByRecursion (IsBlock low e) (blocks n p e)
each-blocks zero p e low span order = rw (blocks-zero p e) tt
each-blocks (suc n) p e low span order = elim (cases_lt p e) [
  | inr after ↦ rw (blocks-none (suc n) p e after) tt
  | inl before ↦
      let k : ℕ = exponent p e in
      let it : IsLargest p e k = IsLargest-exponent p e span before in
      rw (blocks-more n p e before) (
        record { enough = it.enough; limit = it.limit; whole = it.whole; after = order; within = it.within },
        each-blocks n (p + 2 ^ k) e low (IsSpan-rest p e k span it) (omega arith),
      )
]
