-- The queued slots of an inbox as the number that a word holds.
use Rattle.std.specs.Prelude.{◌≡◌, ℕ, ◌+◌, ◌-◌, ◌*◌, ◌/◌, ◌%◌, ◌<◌, ◌≤◌, ◌==◌, not, List, [], ◌∷◌, map, filter, length, slice_index, Option, Some, None, cond}

-- each slot plus 1 in four bits, the first slot in the lowest
abbrev pub encode : List ℕ → ℕ
encode [] = 0
encode (i ∷ q) = (i + 1) + 16 * encode q

-- slots of an inbox: there are at most 15
abbrev pub AreSlots : List ℕ → Type 0
AreSlots [] = Unit {0}
AreSlots (i ∷ q) = (i < 15) × AreSlots q

-- the word is that of some queue with room for one more slot
pub record HasRoom (word : ℕ) : Type 0 where
  pub queue : List ℕ
  pub slots : AreSlots queue
  pub is : word ≡ encode queue
  pub room : length queue < 15

-- the tickets of the queued slots, in order
abbrev pub tickets : List ℕ → List ℕ → List ℕ
tickets words queue = map (λ i. slice_index words (2 + i)) queue

-- the first slot of the queue that the word is of
abbrev pub head_of : ℕ → ℕ
head_of word = word % 16 - 1

-- the list without the slot
abbrev pub without : ℕ → List ℕ → List ℕ
without i xs = filter (λ x. not (x == i)) xs

-- the last swap, unless it was of the slot
abbrev pub unless_of : ℕ → Option (ℕ × ℕ) → Option (ℕ × ℕ)
unless_of i None = None
unless_of i (Some x) = cond (x.0 == i) None (Some x)

-- each number of the list is below the bound
abbrev pub AreBelow : ℕ → List ℕ → Type 0
AreBelow bound [] = Unit {0}
AreBelow bound (i ∷ q) = (i < bound) × AreBelow bound q

-- the queue of the words at the end: at most eight slots, whose tickets are threads' own
pub record IsQueue (words queue : List ℕ) : Type 0 where
  pub wide : 2 ≤ length words
  pub slots : AreSlots queue
  pub is : slice_index words 1 ≡ encode queue
  pub few : length queue ≤ 8
  pub within : AreBelow (length words - 2) queue
  pub known : AreBelow 256 (map (λ c. c / 4294967296) (tickets words queue))
