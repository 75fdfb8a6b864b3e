-- What each step on the word of pending lines tells. Inner: no public contract cites this.
use Rattle.std.specs.Prelude.{◌≡◌, ℕ, ◌<◌, List, map}
use Rattle.std.specs.Int.{bit_at, bit_not, w64}
use Rattle.atomic_table.specs.Table.{Me, Step}
use Rattle.atomic_pool.specs.Bits.{mask}
use Rattle.atomic_pool.specs.LinesRule.{looked_part, raised_part, took_part, missed_part}
use Rattle.atomic_pool.specs.declared.lines.LinePart.{LinePart}

-- what a seat knows and holds
abbrev pub Sat : Type 0
Sat = Me Unit (List LinePart)

-- each part of the seat has become what f makes of it
abbrev pub Becomes : (LinePart → LinePart) → Sat → Sat → Type 0
Becomes f m m' = m' ≡ (map f m.0, m.1)

-- a load
abbrev pub looks : Step Unit → Sat → ℕ → Sat → Type 0
looks st m r m' = Becomes (looked_part r) m m'

-- a fetch that sets the bit of a line
abbrev pub raises : Step Unit → Sat → ℕ → Sat → Type 0
raises st m r m' = (l : ℕ) → l < 64 → st.first ≡ mask l → Becomes (raised_part l r) m m'

-- a fetch that clears the bit of a line
abbrev pub takes : Step Unit → Sat → ℕ → Sat → Type 0
takes st m r m' = (l : ℕ) → l < 64 → st.first ≡ bit_not w64 (mask l)
    → (bit_at r l ≡ 1 → Becomes (took_part l r) m m')
    × (bit_at r l ≡ 0 → Becomes (missed_part r) m m')
