-- The region pairs of a range, of rights and of a page group.
use Rattle.std.specs.Prelude.{ℕ, ◌+◌, ◌-◌, ◌*◌, ◌/◌, ◌%◌, ◌^◌, Bool, ◌&&◌, List, [], ◌∷◌, map, unwrap_or, if◌then◌else◌, nat_eq, nat_le, nat_lt}
use Rattle.std.proofs.Common.{zero, suc}
use Rattle.std.specs.Int.{w32, leading_zeros}
use Rattle.addr_base.specs.Range.{end_of}
use Rattle.addr_base.specs.Rights.{may_execute, may_write}
use Rattle.addr_base.specs.declared.pairs.Pair.{Pair}
use Rattle.addr_base.specs.declared.ranges.Range.{Range}
use Rattle.addr_base.specs.declared.rights.Rights.{Rights}
use Rattle.flat_model.specs.Greatest.{greatest}

-- AP of the rights: unprivileged code may read, and write where the rights say so
abbrev pub permission_of : Rights → ℕ
permission_of rights = if may_write rights then 3 else 6

-- XN of the rights: set where they have no right to execute
abbrev pub never_of : Rights → ℕ
never_of rights = if may_execute rights then 0 else 1

-- RASR of the rights without SIZE and SRD: enabled, XN in bit 28, AP in bits 26 to 24
abbrev pub attributes : Rights → ℕ
attributes rights = 1 + 2 ^ 24 * permission_of rights + 2 ^ 28 * never_of rights

-- RASR of a region that gives unprivileged code nothing, without SIZE and SRD
abbrev pub NO_ACCESS : ℕ
NO_ACCESS = 1 + 2 ^ 28

-- a block of 2 ^ exponent bytes
pub record Block : Type 0 where
  pub base : ℕ
  pub exponent : ℕ

-- whether a block of 2 ^ k bytes has at least 32, may begin at p and ends by e
abbrev pub block_fits : ℕ → ℕ → ℕ → Bool
block_fits p e k = nat_le 5 k && nat_eq (p % 2 ^ k) 0 && nat_le (p + 2 ^ k) e

-- the exponent of the largest block that fits at p before e
abbrev pub exponent : ℕ → ℕ → ℕ
exponent p e = unwrap_or (greatest (block_fits p e) 32) 5

-- the first n touching blocks from p to e, each the largest that fits
unfoldable pub blocks : ℕ → ℕ → ℕ → List Block
blocks zero p e = []
blocks (suc n) p e =
    if nat_lt p e then (record { base = p; exponent = exponent p e } ∷ blocks n (p + 2 ^ exponent p e) e) else []

-- the touching blocks from the base of a range to its end
abbrev pub cover_blocks : Range → List Block
cover_blocks range = blocks (range.len / 32) range.base (end_of range)

-- the region of a block, with SIZE added to the other bits of RASR
abbrev pub block_pair : ℕ → Block → Pair
block_pair bits block = record { rbar = block.base; rasr = bits + 2 * (block.exponent - 1) }

-- the cover of a range: the regions of its touching blocks, in address order
abbrev pub cover_of : Range → Rights → List Pair
cover_of range rights = map (block_pair (attributes rights)) (cover_blocks range)

-- the exponent of a power of two below 2 ^ 32
abbrev pub exponent_of : ℕ → ℕ
exponent_of n = 31 - leading_zeros w32 n

-- the one region of a range whose length is a power of two that divides its base
abbrev pub pair_of : Range → ℕ → Pair
pair_of range bits = block_pair bits (record { base = range.base; exponent = exponent_of range.len })

-- the region of eight pages from the base, to be read and written; those without a bit in the mask are disabled in SRD
abbrev pub group_pair : ℕ → ℕ → ℕ → Pair
group_pair base page mask =
    record {
      rbar = base;
      rasr = 1 + 2 ^ 24 * 3 + 2 ^ 28 + 2 * (exponent_of page + 2) + 2 ^ 8 * (255 - mask);
    }
