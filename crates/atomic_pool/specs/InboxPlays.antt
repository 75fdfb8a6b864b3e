-- What each step at an inbox tells. Inner: no public contract cites this.
use Rattle.std.specs.Prelude.{◌≡◌, ◌≢◌, ℕ, ◌-◌, ◌%◌, ◌<◌, List, map, length}
use Rattle.std.specs.Int.{bit_at, bit_not, w64}
use Rattle.atomic_table.specs.Table.{Me, Step}
use Rattle.atomic_pool.specs.Bits.{mask}
use Rattle.atomic_pool.specs.Times.{times}
use Rattle.atomic_pool.specs.Tickets.{thread_of}
use Rattle.atomic_pool.specs.Queue.{HasRoom, head_of}
use Rattle.atomic_pool.specs.InboxParts.{only_part, free_looked, claimed_part, free_missed, freed_part, swapped_part, queue_looked, queue_missed, queued_part, headed_part, peeked_part, dequeued_part, let_go_part}
use Rattle.atomic_pool.specs.declared.inbox.InboxPart.{InboxPart}

-- what a seat knows and holds
abbrev pub Sat : Type 0
Sat = Me Unit (List InboxPart)

-- each part of the seat has become what f makes of it
abbrev pub Becomes : (InboxPart → InboxPart) → Sat → Sat → Type 0
Becomes f m m' = m' ≡ (map f m.0, m.1)

-- a load of the word of free slots
abbrev pub looks_free : Step Unit → Sat → ℕ → Sat → Type 0
looks_free st m r m' = Becomes (free_looked r) m m'

-- a fetch that clears the bit of a slot
abbrev pub claims : Step Unit → Sat → ℕ → Sat → Type 0
claims st m r m' = (i : ℕ) → i < 64 → st.first ≡ bit_not w64 (mask i)
    → (bit_at r i ≡ 1 → Becomes (claimed_part i r) m m' × (i < (only_part m.0).slots)
    × (length (only_part m.0).held < 15) × (times i (only_part m.0).held ≡ 0))
    × (bit_at r i ≡ 0 → Becomes (free_missed r) m m')

-- a fetch that sets the bit of a slot, which the seat held once
abbrev pub frees : Step Unit → Sat → ℕ → Sat → Type 0
frees st m r m' = (i : ℕ) → i < 64 → st.first ≡ mask i
    → Becomes (freed_part i r) m m' × (times i (only_part m.0).held ≡ 1)

-- a swap of the ticket word of a slot that the seat holds once
abbrev pub swaps : Step Unit → Sat → ℕ → Sat → Type 0
swaps st m r m' = Becomes (swapped_part (st.word - 2) st.first) m m'
    × (times (st.word - 2) (only_part m.0).held ≡ 1)

-- a producer's load of the word of queued slots, which has room while a slot is held
abbrev pub looks_queue : Step Unit → Sat → ℕ → Sat → Type 0
looks_queue st m r m' = Becomes (queue_looked r) m m'
    × ((i : ℕ) → 0 < times i (only_part m.0).held → HasRoom r)

-- an exchange of the word of queued slots for one with a slot more
abbrev pub queues : Step Unit → Sat → ℕ → Sat → Type 0
queues st m r m' = (r ≡ st.first → Becomes (queued_part r) m m')
    × (r ≢ st.first → Becomes (queue_missed r) m m')

-- the consumer's load of the word of queued slots
abbrev pub looks_head : Step Unit → Sat → ℕ → Sat → Type 0
looks_head st m r m' = (r ≡ 0 → Becomes (queue_looked r) m m')
    × (r ≢ 0 → Becomes (headed_part r) m m' × (0 < r % 16) × (head_of r < (only_part m.0).slots))

-- the consumer's load of a ticket word, whose ticket is a producer's
abbrev pub peeks : Step Unit → Sat → ℕ → Sat → Type 0
peeks st m r m' = Becomes (peeked_part r) m m' × (thread_of r < 256)
    × (thread_of r < (only_part m.0).producers)

-- an exchange of the word of queued slots for the one without the first slot
abbrev pub dequeues : Step Unit → Sat → ℕ → Sat → Type 0
dequeues st m r m' = (r ≡ st.first → Becomes (dequeued_part r) m m')
    × (r ≢ st.first → Becomes (let_go_part r) m m')
