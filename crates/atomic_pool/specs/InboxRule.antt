-- The rule of an inbox.
use Rattle.std.specs.Prelude.{◌≡◌, ℕ, suc, ◌+◌, ◌<◌, ◌≤◌, List, ◌∷◌, ◌++◌, All, length, slice_index, Some}
use Rattle.std.specs.Int.{bit_at}
use Rattle.atomic_table.specs.Table.{State}
use Rattle.shared_views.specs.Views.{of_views, Every, is_at}
use Rattle.atomic_pool.specs.Times.{times}
use Rattle.atomic_pool.specs.Tickets.{thread_of, of_thread}
use Rattle.atomic_pool.specs.Queue.{encode, tickets}
use Rattle.atomic_pool.specs.declared.inbox.InboxPart.{InboxPart}

-- the number of the part's seat
abbrev pub number_of : InboxPart → ℕ
number_of p = p.number

-- how often the part holds the slot
abbrev pub holds_of : ℕ → InboxPart → ℕ
holds_of i p = times i p.held

-- A part of an inbox of n producers and m slots agrees with its words, queue and what was taken.
pub record Agrees (n m : ℕ) (words queue took : List ℕ) (p : InboxPart) : Type 0 where
  pub producers : p.producers ≡ n
  pub slots : p.slots ≡ m
  pub put : p.number < n → p.list ≡ of_thread p.number (took ++ tickets words queue)
  pub taken : p.number ≡ n → p.list ≡ took
  pub last : (i c : ℕ) → p.last ≡ Some (i, c)
      → (0 < times i p.held) × (slice_index words (2 + i) ≡ c) × (thread_of c ≡ p.number)
  pub head : (i : ℕ) → p.head ≡ Some i → (p.number ≡ n) × ((rest : List ℕ) × (queue ≡ i ∷ rest))
  pub peeked : (c : ℕ) → p.peeked ≡ Some c
      → (i : ℕ) × (p.head ≡ Some i) × (slice_index words (2 + i) ≡ c)

-- The rule for n producers and m slots. It holds between any two steps.
pub record InboxRule (n m : ℕ) (s : State Unit (List InboxPart)) : Type 0 where
  pub few : n ≤ 256
  pub small : m ≤ 15
  pub wide : length s.words ≡ 2 + m
  pub once : (k : ℕ) → k < suc n → of_views (is_at number_of k) s.views ≡ 1
  pub no_other : (k : ℕ) → suc n ≤ k → of_views (is_at number_of k) s.views ≡ 0
  pub queue : List ℕ
  pub queued : slice_index s.words 1 ≡ encode queue
  pub partition : (i : ℕ) → i < m
      → bit_at (slice_index s.words 0) i + times i queue + of_views (holds_of i) s.views ≡ 1
  pub outside : (i : ℕ) → m ≤ i
      → bit_at (slice_index s.words 0) i + times i queue + of_views (holds_of i) s.views ≡ 0
  pub took : List ℕ
  pub known : All (λ c. thread_of c < n) (took ++ tickets s.words queue)
  pub parts : Every (Agrees n m s.words queue took) s.views
