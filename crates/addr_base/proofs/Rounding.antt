-- Powers of two between others, and what rounding finds among them.
use Rattle.std.proofs.Common.{◌≡◌, ℕ, zero, suc, ◌+◌, ◌*◌, ◌^◌, ◌/◌, ◌<◌, ◌≤◌, Some, None, Bool, true, false, ◌==◌, nat_le, find, max, refl, ap, sym, ◌∙◌, subst, inl, inr, arith, le-leb, eq-eqb}
use Rattle.std.proofs.Math.Pow.{pow_mono}
use Rattle.std.proofs.lemmas.Nat.{pow_below}
use Rattle.std.proofs.lemmas.Bool.{cases_lt, cases_Bool, eqb-true, false≢true}
use Rattle.std.proofs.Math.Bool.{or-true}
use Rattle.std.specs.List.{list_any}
use Rattle.std.proofs.lemmas.Bool.Decides.{nat_tests}
use Rattle.std.proofs.Math.Nat.{pow-suc}
use Rattle.addr_base.specs.Powers.{IsPowerOfTwo, IsLeastPower, IsGreatestPower, is_power, powers_from, powers_down, round_up, round_down}

-- a smaller power has a smaller exponent
pub exponent_below : (i j : ℕ) → 2 ^ i < 2 ^ j → i < j
exponent_below i j below = elim (cases_lt i j) [
  | inl less ↦ less
  | inr more ↦ let up : 2 ^ j ≤ 2 ^ i = pow_mono more in absurd (omega arith)
]

-- between a power and its double there is no other
pub only_power : (j k : ℕ) → 2 ^ k ≤ 2 ^ j → 2 ^ j < 2 * 2 ^ k → 2 ^ j ≡ 2 ^ k
only_power j k low high =
    let double : 2 ^ suc k ≡ 2 * 2 ^ k = grind (arith, pow-suc) in
    let upper : j < suc k = exponent_below j (suc k) (omega (arith, double)) in
    let up : 2 ^ j ≤ 2 ^ k = pow_mono {i = j} {j = k} (omega arith) in
    omega arith

-- a power of two that is at most 2 ^ k doubled and above 2 ^ k less ..: the next power is the least
pub next_is_least : (j n k : ℕ) → 2 ^ j / 2 < n → n ≤ 2 ^ k → 2 ^ j ≤ 2 ^ k
next_is_least j n k half enough = elim (cases_lt (2 ^ k) (2 ^ j)) [
  | inr fits ↦ fits
  | inl less ↦
      let exponents : k < j = exponent_below k j less in
      let up : 2 ^ suc k ≤ 2 ^ j = pow_mono {i = suc k} {j = j} (omega arith) in
      let double : 2 ^ suc k ≡ 2 * 2 ^ k = grind (arith, pow-suc) in
      absurd (omega (arith, double))
]

-- going upward, the first power at or above the length is found
pub found_upward : (count k j n : ℕ) → k ≤ j → j < k + count → n ≤ 2 ^ j → ((i : ℕ) → k ≤ i → i < j → 2 ^ i < n) → find (λ power. nat_le n power) (powers_from k count) ≡ Some (2 ^ j)
unfolding powers_from
found_upward zero k j n low high enough below = absurd (omega arith)
found_upward (suc count) k j n low high enough below = elim (cases_lt k j) [
  | inl less ↦
      let past : nat_le n (2 ^ k) ≡ false = grind (arith, nat_tests, below k (omega arith) less) in
      rw past (found_upward count (suc k) j n (omega arith) (omega arith) enough (λ i more. below i (omega arith)))
  | inr same ↦
      let here : k ≡ j = omega arith in
      let test : nat_le n (2 ^ k) ≡ true = le-leb _ _ (rw here enough) in
      rw test (rw here refl)
]

-- above the last power nothing is found upward
pub none_upward : (count k n : ℕ) → ((i : ℕ) → i < k + count → 2 ^ i < n) → find (λ power. nat_le n power) (powers_from k count) ≡ None
unfolding powers_from
none_upward zero k n above = refl
none_upward (suc count) k n above =
    let past : nat_le n (2 ^ k) ≡ false = grind (arith, nat_tests, above k (omega arith)) in
    rw past (none_upward count (suc k) n (λ i less. above i (omega arith)))

-- going downward, the first power not above the length is found
pub found_downward : (count k j n : ℕ) → k ≤ j → j < k + count → 2 ^ j ≤ n → ((i : ℕ) → j < i → n < 2 ^ i) → find (λ power. nat_le power n) (powers_down k count) ≡ Some (2 ^ j)
unfolding powers_down
found_downward zero k j n low high within above = absurd (omega arith)
found_downward (suc count) k j n low high within above = elim (cases_lt j (k + count)) [
  | inl less ↦
      let past : nat_le (2 ^ (k + count)) n ≡ false = grind (arith, nat_tests, above (k + count) less) in
      rw past (found_downward count k j n low less within above)
  | inr same ↦
      let here : k + count ≡ j = omega arith in
      let test : nat_le (2 ^ (k + count)) n ≡ true = le-leb _ _ (rw here within) in
      rw test (rw here refl)
]

-- below the least power nothing is found downward
pub none_downward : (count k n : ℕ) → n < 2 ^ k → find (λ power. nat_le power n) (powers_down k count) ≡ None
unfolding powers_down
none_downward zero k n below = refl
none_downward (suc count) k n below =
    let up : 2 ^ k ≤ 2 ^ (k + count) = pow_mono {i = k} {j = k + count} (omega arith) in
    let past : nat_le (2 ^ (k + count)) n ≡ false = grind (arith, nat_tests) in
    rw past (none_downward count k n below)

exponent_low : (j : ℕ) → 32 ≤ 2 ^ j → 5 ≤ j
exponent_low j large = elim (cases_lt j 5) [
  | inl less ↦ let power : 2 ^ j < 2 ^ 5 = pow_below j 5 less in absurd (omega arith)
  | inr more ↦ more
]

exponent_high : (j : ℕ) → 2 ^ j ≤ 2 ^ 31 → j < 32
exponent_high j small = elim (cases_lt 31 j) [
  | inl more ↦ let power : 2 ^ 31 < 2 ^ j = pow_below 31 j more in absurd (omega arith)
  | inr less ↦ omega arith
]

-- the record of the least power gives the function's answer
round_up-exponent : (n j : ℕ) → IsLeastPower 32 n (2 ^ j) → 2 ^ j ≤ 2 ^ 31 → round_up n ≡ Some (2 ^ j)
unfolding round_up
round_up-exponent n j is fits =
    found_upward 27 5 j n (exponent_low j is.at_least) (exponent_high j fits) is.enough
    (λ i low less. elim (cases_lt (2 ^ i) n) [
      | inl below ↦ below
      | inr enough ↦
          let at_least : 32 ≤ 2 ^ i = pow_mono {i = 5} {j = i} low in
          let least : 2 ^ j ≤ 2 ^ i = is.least i enough at_least in
          let power : 2 ^ i < 2 ^ j = pow_below i j less in
          absurd (omega arith)
    ])

-- the least power of at least 32 is what rounding up gives
pub round_up-at : (n power : ℕ) → IsLeastPower 32 n power → power ≤ 2 ^ 31 → round_up n ≡ Some power
round_up-at n power is fits =
    let (j, same) = is.is_power in
    let P : ℕ → Type 0 = λ p. IsLeastPower 32 n p → p ≤ 2 ^ 31 → round_up n ≡ Some p in
    subst P (sym same) (round_up-exponent n j) is fits

-- above 2 ^ 31 nothing is given
pub round_up-past : (n : ℕ) → 2 ^ 31 < n → round_up n ≡ None
unfolding round_up
round_up-past n above = none_upward 27 5 n (λ i less. let up : 2 ^ i ≤ 2 ^ 31 = pow_mono {i = i} {j = 31} (omega arith) in omega arith)

-- the power with the length below its double is the greatest
pub greatest_power : (n k : ℕ) → 2 ^ k ≤ n → n < 2 * 2 ^ k → IsGreatestPower n (2 ^ k)
greatest_power n k within double = record {
  is_power = (k, refl);
  within = within;
  greatest = λ i fits.
      let twice : 2 ^ suc k ≡ 2 * 2 ^ k = grind (arith, pow-suc) in
      let below : i < suc k = exponent_below i (suc k) (omega (arith, twice)) in
      pow_mono {i = i} {j = k} (omega arith);
}

-- the power with the length below its double is what rounding down gives
pub round_down-at : (n k : ℕ) → 32 ≤ n → n < 2 ^ 32 → 2 ^ k ≤ n → n < 2 * 2 ^ k → round_down n ≡ Some (2 ^ k)
unfolding round_down
round_down-at n k low high within double =
    let twice : 2 ^ suc k ≡ 2 * 2 ^ k = grind (arith, pow-suc) in
    let above_five : 5 < suc k = exponent_below 5 (suc k) (omega (arith, twice)) in
    let below_top : k < 32 = exponent_below k 32 (omega arith) in
    found_downward 27 5 k n (omega arith) (omega arith) within
    (λ i more. let up : 2 ^ suc k ≤ 2 ^ i = pow_mono {i = suc k} {j = i} more in omega (arith, twice))

-- below 32 nothing is given
pub round_down-below : (n : ℕ) → n < 32 → round_down n ≡ None
unfolding round_down
round_down-below n below = none_downward 27 5 n below

-- what `next_power_of_two` says of a length of at least 32 is the least power
pub least_power : (n least power : ℕ) → least ≡ max n 32 → IsPowerOfTwo power → least ≤ power → power / 2 < max 1 least → IsLeastPower 32 n power
least_power n least power is (j, same) enough half = record {
  is_power = (j, same);
  enough = omega arith;
  at_least = omega arith;
  least = λ k fits at_least. rw same (next_is_least j least k (rw (← same) (omega arith)) (omega arith));
}

-- a power of two below 2 ^ 32 is at most 2 ^ 31
pub power_fits : (power : ℕ) → IsPowerOfTwo power → power < 2 ^ 32 → power ≤ 2 ^ 31
power_fits power (j, same) below =
    let exponent : j < 32 = exponent_below j 32 (rw (← same) below) in
    let up : 2 ^ j ≤ 2 ^ 31 = pow_mono {i = j} {j = 31} (omega arith) in
    rw same up

among_powers : (count k j : ℕ) → k ≤ j → j < k + count → list_any (λ power. 2 ^ j == power) (powers_from k count) ≡ true
unfolding powers_from
among_powers zero k j low high = absurd (omega arith)
among_powers (suc count) k j low high = elim (cases_lt k j) [
  | inl less ↦ rw (among_powers count (suc k) j (omega arith) (omega arith)) (or-true (2 ^ j == 2 ^ k))
  | inr same ↦
      let here : j ≡ k = omega arith in
      rw (eq-eqb (2 ^ j) (2 ^ k) (ap (λ e. 2 ^ e) here)) refl
]

power_among : (count k n : ℕ) → list_any (λ power. n == power) (powers_from k count) ≡ true → IsPowerOfTwo n
unfolding powers_from
power_among zero k n found = absurd (false≢true found)
power_among (suc count) k n found = elim (cases_Bool (n == 2 ^ k)) [
  | inl same ↦ (k, eqb-true n (2 ^ k) same)
  | inr other ↦ power_among count (suc k) n (rw other at found)
]

-- a power of two below 2 ^ 32 passes the test
pub is_power-at : (n : ℕ) → n < 2 ^ 32 → IsPowerOfTwo n → is_power n ≡ true
unfolding is_power
is_power-at n below (j, same) = rw same (among_powers 32 0 j (omega arith) (exponent_below j 32 (rw (← same) below)))

-- what passes the test is a power of two
pub power_from_test : (n : ℕ) → is_power n ≡ true → IsPowerOfTwo n
unfolding is_power
power_from_test n found = power_among 32 0 n found

-- a test that tells powers of two is this one
pub is_power-told : (n : ℕ) (told : Bool) → n < 2 ^ 32 → (told ≡ true → IsPowerOfTwo n) → (IsPowerOfTwo n → told ≡ true) → told ≡ is_power n
is_power-told n told below there back = elim (cases_Bool told) [
  | inl yes_it_is ↦ rw (yes_it_is, is_power-at n below (there yes_it_is)) refl
  | inr no_it_is_not ↦ elim (cases_Bool (is_power n)) [
    | inl test ↦ absurd (false≢true (sym no_it_is_not ∙ back (power_from_test n test)))
    | inr test ↦ rw (no_it_is_not, test) refl
  ]
]

-- the number 0 is no power of two
pub zero_is_no_power : is_power 0 ≡ false
unfolding is_power powers_from
zero_is_no_power = refl
