-- What the registers of a block's region say.
use Rattle.std.proofs.Common.{◌≡◌, ◌≢◌, ℕ, suc, ◌+◌, ◌-◌, ◌*◌, ◌/◌, ◌%◌, ◌^◌, ◌<◌, ◌≤◌, Bool, true, false, refl, sym, ◌∙◌, arith, inl, inr, ◌⊎◌}
use Rattle.std.specs.Prelude.{◌&&◌, ◌||◌, not, nat_eq, nat_le, nat_lt, if◌then◌else◌}
use Rattle.std.proofs.lemmas.Bool.{le-leb, eq-eqb, ne_eqb, or_left, or_right}
use Rattle.std.proofs.Math.Nat.{zero-div}
use Rattle.std.proofs.lemmas.Nat.{pow_pos, pow_below, leading_top}
use Rattle.addr_base.specs.Rights.{gives, may_execute, may_read, may_write}
use Rattle.addr_base.specs.declared.pairs.Pair.{Pair}
use Rattle.addr_base.specs.declared.rights.Kind.{Kind}
use Rattle.addr_base.specs.declared.rights.Kind.TheVariants.{Read, Write, Fetch}
use Rattle.addr_base.specs.declared.rights.Rights.{Rights}
use Rattle.flat_model.specs.Cover.{permission_of, exponent_of, never_of}
use Rattle.flat_model.specs.Decision.{enable_field, size_field, subregions, access_field, never_field, has_zero_rest, is_enabled, is_disabled, is_region, matches, pair_gives}
use Rattle.flat_model.proofs.Powers.{smaller}

-- a value of RASR by its fields; SRD is the number of disabled subregions' bits
abbrev pub rasr_of : ℕ → ℕ → ℕ → ℕ → ℕ
rasr_of size srd access never = 1 + 2 * size + 2 ^ 8 * srd + 2 ^ 24 * access + 2 ^ 28 * never

-- the fields of a pair are these
pub record HasFields (p : Pair) (size srd access never : ℕ) : Type 0 where
  pub enable : enable_field p ≡ 1
  pub size_is : size_field p ≡ size
  pub srd_is : subregions p ≡ srd
  pub access_is : access_field p ≡ access
  pub never_is : never_field p ≡ never
  pub rest : has_zero_rest p ≡ true

pub HasFields-from_rasr : (p : Pair) (size srd access never : ℕ) → size < 32 → srd < 256 → access < 8 → never < 2 → p.rasr ≡ rasr_of size srd access never → HasFields p size srd access never
HasFields-from_rasr p size srd access never sizes srds accesses nevers is = record {
  enable = omega arith;
  size_is = omega arith;
  srd_is = omega arith;
  access_is = omega arith;
  never_is = omega arith;
  rest =
      let a : p.rasr / 2 ^ 6 % 4 ≡ 0 = omega arith in
      let b : p.rasr / 2 ^ 16 % 256 ≡ 0 = omega arith in
      let c : p.rasr / 2 ^ 27 % 2 ≡ 0 = omega arith in
      let d : p.rasr / 2 ^ 29 ≡ 0 = omega arith in
      rw (a, b, c, d) refl;
}

-- a region without subregions has every address from its base to its end
pub matches-plain : (p : Pair) (k access never : ℕ) → 5 ≤ k → HasFields p (k - 1) 0 access never → (a : ℕ) → matches p a ≡ (nat_le p.rbar a && nat_lt a (p.rbar + 2 ^ k))
matches-plain p k access never enough has a =
    let len : size_field p + 1 ≡ k = omega (arith, has.size_is) in
    let on : is_enabled p ≡ true = rw has.enable refl in
    let all : is_disabled p a ≡ false = rw has.srd_is (none a p) in
    rw (on, all, len) (plain (nat_le p.rbar a && nat_lt a (p.rbar + 2 ^ k)))
  where
    plain : (b : Bool) → (true && b && not false) ≡ b
    plain true = refl
    plain false = refl

    none : (a : ℕ) (p : Pair) → (nat_le 7 (size_field p) && nat_eq (0 / 2 ^ ((a - p.rbar) / 2 ^ (size_field p - 2)) % 2) 1) ≡ false
    none a p = rw (zero-div (2 ^ ((a - p.rbar) / 2 ^ (size_field p - 2)))) (last (nat_le 7 (size_field p)))
      where
        last : (b : Bool) → (b && false) ≡ false
        last true = refl
        last false = refl

-- the region is valid where its base is a multiple of its length
pub is_region-fields : (p : Pair) (k srd access never : ℕ) → 5 ≤ k → (8 ≤ k) ⊎ (srd ≡ 0) → access ≢ 4 → HasFields p (k - 1) srd access never → p.rbar % 2 ^ k ≡ 0 → is_region p ≡ true
is_region-fields p k srd access never enough subs known has whole =
    let len : size_field p + 1 ≡ k = omega (arith, has.size_is) in
    let on : is_enabled p ≡ true = rw has.enable refl in
    let large : nat_le 4 (size_field p) ≡ true = le-leb 4 (size_field p) (omega (arith, has.size_is)) in
    let based : nat_eq (p.rbar % 2 ^ k) 0 ≡ true = eq-eqb (p.rbar % 2 ^ k) 0 whole in
    let allowed : nat_eq (access_field p) 4 ≡ false = ne_eqb (access_field p) 4 (λ e. known (sym has.access_is ∙ e)) in
    let parts : (nat_le 7 (size_field p) || nat_eq (subregions p) 0) ≡ true = elim subs [
      | inl eight ↦ or_left (nat_le 7 (size_field p)) (nat_eq (subregions p) 0) (le-leb 7 (size_field p) (omega (arith, has.size_is)))
      | inr empty ↦ or_right (nat_le 7 (size_field p)) (nat_eq (subregions p) 0) (eq-eqb (subregions p) 0 (has.srd_is ∙ empty))
    ] in
    rw (on, large, len, based, allowed, parts, has.rest) refl

-- what the rights' regions give
pub pair_gives-attributes : (p : Pair) (size srd : ℕ) (rights : Rights) → may_read rights ≡ true → HasFields p size srd (permission_of rights) (never_of rights) → (kind : Kind) → pair_gives p kind ≡ gives rights kind
pair_gives-attributes p size srd rights reads has Read = rw (has.access_is, reads) (readable (may_write rights))
  where
    readable : (w : Bool) → (let access : ℕ = if w then 3 else 6 in nat_eq access 2 || nat_eq access 3 || nat_eq access 6 || nat_eq access 7) ≡ true
    readable true = refl
    readable false = refl
pair_gives-attributes p size srd rights reads has Write = rw has.access_is (writable (may_write rights))
  where
    writable : (w : Bool) → nat_eq (if w then 3 else 6) 3 ≡ w
    writable true = refl
    writable false = refl
pair_gives-attributes p size srd rights reads has Fetch = rw (has.access_is, has.never_is) (fetchable (may_write rights) (may_execute rights))
  where
    fetchable : (w x : Bool) → ((let access : ℕ = if w then 3 else 6 in nat_eq access 2 || nat_eq access 3 || nat_eq access 6 || nat_eq access 7) && nat_eq (if x then 0 else 1) 0) ≡ x
    fetchable true true = refl
    fetchable true false = refl
    fetchable false true = refl
    fetchable false false = refl

-- a region without access gives nothing
pub pair_gives-nothing : (p : Pair) (size srd : ℕ) → HasFields p size srd 0 1 → (kind : Kind) → pair_gives p kind ≡ false
pair_gives-nothing p size srd has Read = rw has.access_is refl
pair_gives-nothing p size srd has Write = rw has.access_is refl
pair_gives-nothing p size srd has Fetch = rw has.access_is refl

-- the exponent of a power of two below 2 ^ 32 is its own
pub exponent_of-pow : (k n : ℕ) → k < 32 → n ≡ 2 ^ k → exponent_of n ≡ k
exponent_of-pow k n limit is =
    let top = leading_top 32 n (omega (arith, pow_pos k)) (omega (arith, pow_below k 32 limit)) in
    let low : top.0 < suc k = smaller top.0 (suc k) (omega (arith, pow_below k (suc k) (omega arith), top.2)) in
    let high : k < suc top.0 = smaller k (suc top.0) (omega (arith, top.3)) in
    omega (arith, top.1, low, high)
