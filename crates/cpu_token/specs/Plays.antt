-- Inner: what each step on the word tells. No public contract cites this.
use Rattle.std.specs.Prelude.{◌≡◌, ◌≢◌, ℕ, List, [], ◌∷◌, map, All, Option, Some}
use Rattle.atomic_table.specs.Table.{Me, Step}
use Rattle.cpu_token.specs.Parts.{looked_part, missed_part, holding_part, giving_part}
use Rattle.cpu_token.specs.declared.part.PassPart.{PassPart}

-- what a seat knows, and the slots that it has
abbrev pub Sat : Type 0 → Type 0 → Type 0 → Type 0
Sat V E F = Me (Option V) (List (PassPart V E F))

module _ {V E F : Type 0} where
  -- a load counts the word that it read
  abbrev pub looked : Step (Option V) → Sat V E F → ℕ → Sat V E F → Type 0
  looked st m r m' = m' ≡ (map (looked_part r) m.0, m.1)

module _ {V E F : Type 0} (entries : V → ℕ → List E) (fixed : V → F) where
  -- the part has the fixed part of the value and the entries of its number
  abbrev pub KnowsValue : V → PassPart V E F → Type 0
  KnowsValue v p = (p.fixed ≡ fixed v) × (p.entries ≡ entries v p.number)

  -- an exchange that hit takes a value which the part knows; one that missed counts the word that it found
  abbrev pub claimed : Step (Option V) → Sat V E F → ℕ → Sat V E F → Type 0
  claimed st m r m' =
      (r ≡ st.first → (v : V) × (m' ≡ (map (holding_part r st.second v) m.0, (0, Some v) ∷ m.1)) × All (KnowsValue v) m.0)
      × (r ≢ st.first → m' ≡ (map (missed_part r) m.0, m.1))

  -- a swap puts the value home, and the part has the value's entries
  abbrev pub gave : Step (Option V) → Sat V E F → ℕ → Sat V E F → Type 0
  gave st m r m' = (v : V) → m.1 ≡ (0, Some v) ∷ [] → m' ≡ (map (giving_part (entries v)) m.0, [])
