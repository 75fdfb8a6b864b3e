-- Counts that stand still at the last number of 64 bits.
use Rattle.std.specs.Prelude.{◌≡◌, ℕ, ◌+◌, ◌-◌, ◌^◌, ◌≤◌, max, min}

-- the count one higher, or the same at the last number
abbrev pub next_count : ℕ → ℕ
next_count n = max n (min (n + 1) (2 ^ 64 - 1))

-- the count rose, or it stood at the last number before
abbrev pub Rose : ℕ → ℕ → Type 0
Rose before now = next_count before ≤ now

-- The count of a call's faults: one higher where the call failed, and as before where it did not.
pub record IsCounted (failed : Type 0) (before now : ℕ) : Type 0 where
  pub rose : failed → now ≡ next_count before
  pub kept : ¬ failed → now ≡ before
