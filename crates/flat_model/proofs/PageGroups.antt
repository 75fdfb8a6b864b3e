-- What the region of a page group says.
use Rattle.std.proofs.Common.{◌≡◌, ℕ, ◌+◌, ◌-◌, ◌*◌, ◌/◌, ◌%◌, ◌^◌, ◌<◌, Bool, true, false, refl, ap, subst, arith, inl}
use Rattle.std.specs.Prelude.{◌&&◌, not, nat_eq, nat_le, nat_lt}
use Rattle.std.specs.Int.{w8}
use Rattle.std.proofs.lemmas.Bool.{le-leb, leb-true, ltb-true}
use Rattle.std.proofs.lemmas.Bool.Decides.{nat_tests}
use Rattle.std.proofs.lemmas.Nat.{pow_pos, pow-add, div_below}
use Rattle.std.proofs.lemmas.Nat.Bits.{bit_at_not, bit_at-lt}
use Rattle.addr_base.specs.declared.pairs.Pair.{Pair}
use Rattle.addr_base.specs.declared.rights.Kind.{Kind}
use Rattle.addr_base.specs.declared.rights.Kind.TheVariants.{Read, Write, Fetch}
use Rattle.flat_model.specs.Cover.{exponent_of, group_pair}
use Rattle.flat_model.specs.Decision.{size_field, is_enabled, is_region, matches, pair_gives}
use Rattle.flat_model.specs.Circle.{IsPage}
use Rattle.flat_model.proofs.Fields.{HasFields, HasFields-from_rasr, exponent_of-pow, is_region-fields}

-- whether the address is in a page of the group whose bit is set
abbrev pub in_group : ℕ → ℕ → ℕ → ℕ → Bool
in_group base page mask a =
    nat_le base a && nat_lt a (base + 8 * page) && nat_eq (mask / 2 ^ ((a - base) / page) % 2) 1

-- what a page that a box owns gives: reads and writes, and no fetch
abbrev pub gives_pages : Kind → Bool
gives_pages Read = true
gives_pages Write = true
gives_pages Fetch = false

pub group_fields : (base page mask : ℕ) (it : IsPage page) → mask < 256 → HasFields (group_pair base page mask) (it.exponent + 2) (255 - mask) 3 1
group_fields base page mask it small =
    let e : exponent_of page ≡ it.exponent = exponent_of-pow it.exponent page (omega (arith, it.high)) it.is_power in
    HasFields-from_rasr (group_pair base page mask) (it.exponent + 2) (255 - mask) 3 1
    (omega (arith, it.high)) (omega arith) (omega arith) (omega arith) (rw e (omega arith))

-- the group's region gives reads and writes, and no fetch
pub pair_gives-group : (base page mask : ℕ) (it : IsPage page) → mask < 256 → (kind : Kind) → pair_gives (group_pair base page mask) kind ≡ gives_pages kind
pair_gives-group base page mask it small kind = given kind
  where
    has : HasFields (group_pair base page mask) (it.exponent + 2) (255 - mask) 3 1
    has = group_fields base page mask it small

    given : (kind : Kind) → pair_gives (group_pair base page mask) kind ≡ gives_pages kind
    given Read = rw has.access_is refl
    given Write = rw has.access_is refl
    given Fetch = rw (has.access_is, has.never_is) refl

-- the group's region is valid where the base is a multiple of eight pages
pub is_region-group : (base page mask : ℕ) (it : IsPage page) → mask < 256 → base % (8 * page) ≡ 0 → is_region (group_pair base page mask) ≡ true
is_region-group base page mask it small whole =
    let k : ℕ = it.exponent in
    let eight : 2 ^ (k + 3) ≡ 8 * page = omega (arith, pow-add 2 k 3, it.is_power) in
    let has : HasFields (group_pair base page mask) ((k + 3) - 1) (255 - mask) 3 1 =
    subst (λ s. HasFields (group_pair base page mask) s (255 - mask) 3 1) (omega arith) (group_fields base page mask it small) in
    is_region-fields (group_pair base page mask) (k + 3) (255 - mask) 3 1 (omega arith) (inl (omega (arith, it.low)))
    (λ e. absurd (omega (arith, e))) has (rw eight whole)

-- the group's region has exactly the pages whose bit is set
pub matches-group : (base page mask a : ℕ) (it : IsPage page) → mask < 256 → matches (group_pair base page mask) a ≡ in_group base page mask a
matches-group base page mask a it small =
    let has = group_fields base page mask it small in
    let p : Pair = group_pair base page mask in
    let eight : 2 ^ (size_field p + 1) ≡ 8 * page = rw has.size_is (omega (arith, pow-add 2 it.exponent 3, it.is_power, ap (λ m. 2 ^ m) (three it.exponent))) in
    let eighth : 2 ^ (size_field p - 2) ≡ page = rw has.size_is (omega (arith, ap (λ m. 2 ^ m) (two it.exponent), it.is_power)) in
    let on : is_enabled p ≡ true = rw has.enable refl in
    let large : nat_le 7 (size_field p) ≡ true = le-leb 7 (size_field p) (omega (arith, has.size_is, it.low)) in
    rw (on, large, eight, eighth, has.srd_is) (settled (nat_le base a) (nat_lt a (base + 8 * page)) refl refl)
  where
    three : (k : ℕ) → (k + 2) + 1 ≡ k + 3
    three k = omega arith

    two : (k : ℕ) → (k + 2) - 2 ≡ k
    two k = omega arith

    -- a page of the group has a number below 8, and its bit in SRD is the complement of the mask's
    flipped : (base page mask a : ℕ) (it : IsPage page) → mask < 256 → nat_le base a ≡ true → nat_lt a (base + 8 * page) ≡ true → not (nat_eq ((255 - mask) / 2 ^ ((a - base) / page) % 2) 1) ≡ nat_eq (mask / 2 ^ ((a - base) / page) % 2) 1
    flipped base page mask a it small after before =
        let i : ℕ = (a - base) / page in
        let within : i < 8 = div_below (a - base) page 8 (omega (arith, it.is_power, pow_pos it.exponent)) (omega (arith, leb-true base a after, ltb-true a (base + 8 * page) before)) in
        let bit : (255 - mask) / 2 ^ i % 2 ≡ 1 - mask / 2 ^ i % 2 = bit_at_not w8 mask i small within in
        rw bit (turned (mask / 2 ^ i % 2) (bit_at-lt mask i))
      where
        turned : (x : ℕ) → x < 2 → not (nat_eq (1 - x) 1) ≡ nat_eq x 1
        turned x below = grind (arith, nat_tests)

    settled : (x y : Bool) → nat_le base a ≡ x → nat_lt a (base + 8 * page) ≡ y → (true && (x && y) && not (true && nat_eq ((255 - mask) / 2 ^ ((a - base) / page) % 2) 1)) ≡ (x && y && nat_eq (mask / 2 ^ ((a - base) / page) % 2) 1)
    settled true true xs ys = flipped base page mask a it small xs ys
    settled true false xs ys = refl
    settled false y xs ys = refl
