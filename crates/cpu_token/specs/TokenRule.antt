-- Inner: the rule of the token. No public contract cites this.
-- The word is even while the value is at home, and odd while one part holds it. The slot is never at home while the word is odd.
use Rattle.std.specs.Prelude.{◌≡◌, ℕ, ◌%◌, ◌<◌, ◌≤◌, List, [], length, slice_index, Option, Some, None}
use mathlib.Core.Option.{some}
use lib.ListN.{get_elem?}
use Rattle.atomic_table.specs.Table.{State}
use Rattle.shared_views.specs.Views.{of_views, Every, is_at}
use Rattle.cpu_token.specs.Parts.{part_number}
use Rattle.cpu_token.specs.declared.part.PassPart.{PassPart}

-- 1 where there is a held word, else 0
abbrev pub one_if_held : Option ℕ → ℕ
one_if_held None = 0
one_if_held (Some h) = 1

module _ {V E F : Type 0} where
  -- 1 where the part holds the value, else 0
  abbrev pub is_holder : PassPart V E F → ℕ
  is_holder p = one_if_held p.held

module _ {V E F : Type 0} (entries : V → ℕ → List E) (fixed : V → F) where
  -- the part knows the value's fixed part and the entries of its number, and a holder knows the word and the value
  pub record Agrees (value : V) (word : ℕ) (p : PassPart V E F) : Type 0 where
    pub same : p.fixed ≡ fixed value
    pub own : p.entries ≡ entries value p.number
    pub held : (h : ℕ) → p.held ≡ Some h → (h ≡ word) × (p.out ≡ Some value)

  -- n passes hand round a value, whose fixed part is that of start
  pub record TokenRule (n : ℕ) (start : V) (s : State (Option V) (List (PassPart V E F))) : Type 0 where
    -- at home, or as it went out
    pub value : V
    pub one_word : length s.words ≡ 1
    pub one_slot : length s.homes ≡ 1
    pub once : (k : ℕ) → k < n → of_views (is_at part_number k) s.views ≡ 1
    pub none : (k : ℕ) → n ≤ k → of_views (is_at part_number k) s.views ≡ 0
    pub same : fixed value ≡ fixed start
    pub others : (k : ℕ) → n ≤ k → entries value k ≡ []
    pub parts : Every (Agrees value (slice_index s.words 0)) s.views
    pub holding : of_views is_holder s.views ≡ slice_index s.words 0 % 2
    pub home : slice_index s.words 0 % 2 ≡ 0 → get_elem? s.homes 0 ≡ some (some (Some value))
