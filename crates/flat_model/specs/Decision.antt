-- Which region decides (Arm DDI 0403, B3.5).
use Rattle.std.specs.Prelude.{ℕ, ◌+◌, ◌-◌, ◌/◌, ◌%◌, ◌^◌, Bool, true, false, not, ◌&&◌, ◌||◌, List, length, Option, Some, None, if◌then◌else◌, nat_eq, nat_le, nat_lt, slice_get}
use Rattle.std.specs.Option.{option_map_or}
use Rattle.addr_base.specs.declared.pairs.Pair.{Pair}
use Rattle.addr_base.specs.declared.pairs.Verdict.{Verdict}
use Rattle.addr_base.specs.declared.pairs.Verdict.TheVariants.{Granted, Denied}
use Rattle.addr_base.specs.declared.rights.Kind.{Kind}
use Rattle.addr_base.specs.declared.rights.Kind.TheVariants.{Read, Write, Fetch}
use Rattle.flat_model.specs.Greatest.{greatest}

-- ENABLE, bit 0
abbrev pub enable_field : Pair → ℕ
enable_field p = p.rasr % 2

-- SIZE, bits 5 to 1
abbrev pub size_field : Pair → ℕ
size_field p = p.rasr / 2 % 32

-- SRD, bits 15 to 8: bit n is set where subregion n is disabled
abbrev pub subregions : Pair → ℕ
subregions p = p.rasr / 2 ^ 8 % 256

-- AP, bits 26 to 24
abbrev pub access_field : Pair → ℕ
access_field p = p.rasr / 2 ^ 24 % 8

-- XN, bit 28
abbrev pub never_field : Pair → ℕ
never_field p = p.rasr / 2 ^ 28 % 2

-- whether the bits that have no name here are 0: 7 and 6, 23 to 16, 27, and 31 to 29
abbrev pub has_zero_rest : Pair → Bool
has_zero_rest p =
    nat_eq (p.rasr / 2 ^ 6 % 4) 0 && nat_eq (p.rasr / 2 ^ 16 % 256) 0 && nat_eq (p.rasr / 2 ^ 27 % 2) 0
    && nat_eq (p.rasr / 2 ^ 29) 0

-- how many bytes the region has
abbrev pub region_len : Pair → ℕ
region_len p = 2 ^ (size_field p + 1)

-- whether the region is enabled
abbrev pub is_enabled : Pair → Bool
is_enabled p = nat_eq (enable_field p) 1

-- whether the region contains the address
abbrev pub region_contains : Pair → ℕ → Bool
region_contains p a = nat_le p.rbar a && nat_lt a (p.rbar + region_len p)

-- which eighth of its region the address is in, the lowest being 0
abbrev pub subregion_of : Pair → ℕ → ℕ
subregion_of p a = (a - p.rbar) / 2 ^ (size_field p - 2)

-- whether the subregion of the address is disabled; a region below 256 bytes has none
abbrev pub is_disabled : Pair → ℕ → Bool
is_disabled p a = nat_le 7 (size_field p) && nat_eq (subregions p / 2 ^ subregion_of p a % 2) 1

-- whether the pair is a valid enabled region
abbrev pub is_region : Pair → Bool
is_region p =
    is_enabled p && nat_le 4 (size_field p) && nat_eq (p.rbar % region_len p) 0 && not (nat_eq (access_field p) 4)
    && (nat_le 7 (size_field p) || nat_eq (subregions p) 0) && has_zero_rest p

-- whether the region is enabled and has the address in a subregion that isn't disabled
abbrev pub matches : Pair → ℕ → Bool
matches p a = is_enabled p && region_contains p a && not (is_disabled p a)

-- whether unprivileged code may read: AP is 010, 011, 110 or 111
abbrev pub lets_read : Pair → Bool
lets_read p =
    nat_eq (access_field p) 2 || nat_eq (access_field p) 3 || nat_eq (access_field p) 6
    || nat_eq (access_field p) 7

-- whether the pair gives unprivileged code this kind of access
abbrev pub pair_gives : Pair → Kind → Bool
pair_gives p Read = lets_read p
pair_gives p Write = nat_eq (access_field p) 3
pair_gives p Fetch = lets_read p && nat_eq (never_field p) 0

-- whether there is a pair of this number and it matches the address
abbrev pub matches_at : List Pair → ℕ → ℕ → Bool
matches_at pairs a s = option_map_or (λ p. matches p a) (slice_get pairs s) false

-- whether there is a pair of this number and it gives the kind
abbrev pub gives_at : List Pair → Kind → ℕ → Bool
gives_at pairs kind s = option_map_or (λ p. pair_gives p kind) (slice_get pairs s) false

-- the verdict of the pair that decides, if there is one
abbrev pub verdict_of : List Pair → Kind → Option ℕ → Verdict
verdict_of pairs kind None = Denied
verdict_of pairs kind (Some s) = if gives_at pairs kind s then Granted s else Denied

-- the verdict on an access: the matching pair with the greatest number decides by its kinds
abbrev pub decision : List Pair → ℕ → Kind → Verdict
decision pairs a kind = verdict_of pairs kind (greatest (matches_at pairs a) (length pairs))

-- whether the verdict grants the access
abbrev pub is_granted : Verdict → Bool
is_granted (Granted s) = true
is_granted Denied = false
