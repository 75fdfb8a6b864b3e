-- What each call at an inbox tells.
use Rattle.std.specs.Prelude.{◌≡◌, ◌≢◌, ℕ, ◌<◌, List, [], ◌∷◌, ◌++◌, All, map, sum_by, length, Some, None}
use Rattle.std.specs.Int.{bit_at}
use Rattle.addr_base.specs.declared.identity.BoxId.{BoxId}
use Rattle.addr_base.specs.declared.identity.Ticket.{Ticket}
use Rattle.shared_views.specs.Views.{is_at, made_from}
use Rattle.atomic_pool.specs.Bits.{IsLowest}
use Rattle.atomic_pool.specs.Times.{times}
use Rattle.atomic_pool.specs.Seen.{after_load, after_fetch}
use Rattle.atomic_pool.specs.Tickets.{code, thread_of, of_thread}
use Rattle.atomic_pool.specs.Queue.{without}
use Rattle.atomic_pool.specs.InboxRule.{number_of}
use Rattle.atomic_pool.specs.InboxParts.{free_looked, claimed_part, free_missed, freed_part, queue_looked, queue_missed}
use Rattle.atomic_pool.specs.InboxSeats.{InboxValue, SeatValue, ClaimValue, with_part, fresh_seat}
use Rattle.atomic_pool.specs.declared.inbox.InboxPart.{InboxPart}
use Rattle.atomic_pool.specs.declared.inbox.Claimed.{Claimed}
use Rattle.atomic_pool.specs.declared.inbox.Claimed.TheVariants as claimed
use Rattle.atomic_pool.specs.declared.inbox.Posting.{Posting}
use Rattle.atomic_pool.specs.declared.inbox.Posting.TheVariants as posting
use Rattle.atomic_pool.specs.declared.inbox.Took.{Took}
use Rattle.atomic_pool.specs.declared.inbox.Took.TheVariants as took

-- the slot was the lowest of the word read, not held by the seat, and in the word its fetch found
pub record TakesSlot (slot : ℕ) (before after : SeatValue) : Type 0 where
  pub seen : ℕ
  pub found : ℕ
  pub lowest : IsLowest seen slot
  pub there : bit_at found slot ≡ 1
  pub new : times slot before.part.held ≡ 0
  pub is : after ≡ with_part before (claimed_part slot found (free_looked seen before.part))

-- the seat read the first word, and its fetch found the second without the lowest slot of the first
pub record MissesSlot (seen found : ℕ) (before after : SeatValue) : Type 0 where
  pub slot : ℕ
  pub lowest : IsLowest seen slot
  pub gone : bit_at found slot ≡ 0
  pub is : after ≡ with_part before (free_missed found (free_looked seen before.part))

-- What a claim did. It is full only where its load gave 0.
abbrev pub HasClaimed : InboxValue → SeatValue → Claimed → SeatValue → Type 0
HasClaimed inbox before (claimed.Claim c) after = TakesSlot c.slot before after
    × (c.inbox ≡ inbox) × (c.number ≡ before.part.number)
HasClaimed inbox before (claimed.Full f) after =
    (after ≡ with_part before (free_looked 0 before.part))
    × (f.inbox ≡ inbox) × (f.held ≡ length before.part.held)
HasClaimed inbox before (claimed.Again seen found) after = MissesSlot seen found before after

-- the claim was made with this seat, which still holds its slot
abbrev pub Holds : ClaimValue → SeatValue → Type 0
Holds claim seat = (claim.number ≡ seat.part.number) × (0 < times claim.slot seat.part.held)

-- the part of a producer that put the ticket into the slot, when the queue was the word
abbrev pub put_part : ℕ → ℕ → ℕ → InboxPart → InboxPart
put_part slot c word p = record p {
  list = p.list ++ c ∷ [];
  held = without slot p.held;
  last = None;
  queue = after_fetch word (after_load word p.queue);
}

-- the part of a producer that wrote the ticket to the slot, and queued nothing
abbrev pub unput_part : ℕ → ℕ → ℕ → ℕ → InboxPart → InboxPart
unput_part slot c seen found p = record p {
  last = Some (slot, c);
  queue = after_fetch found (after_load seen p.queue);
}

-- What a put did. It is to be made again only where its exchange found another word than its load.
abbrev pub HasPosted : ClaimValue → Ticket → SeatValue → Posting → SeatValue → Type 0
HasPosted claim ticket before posting.Put after = (word : ℕ)
    × (after ≡ with_part before (put_part claim.slot (code ticket) word before.part))
HasPosted claim ticket before (posting.Again again seen found) after =
    (found ≢ seen) × (again ≡ claim)
    × (after ≡ with_part before (unput_part claim.slot (code ticket) seen found before.part))

-- the seat holds the slot no more, which is free
abbrev pub HasGivenUp : ClaimValue → SeatValue → SeatValue → Type 0
HasGivenUp claim before after = (found : ℕ)
    × (after ≡ with_part before (freed_part claim.slot found before.part))

-- a consumer's part after it took the ticket when the queue was the word, and then freed its slot
abbrev pub took_part : ℕ → ℕ → ℕ → InboxPart → InboxPart
took_part c word found p = record p {
  list = p.list ++ c ∷ [];
  free = after_fetch found p.free;
  queue = after_fetch word (after_load word p.queue);
}

-- What a take did. A ticket is a producer's. It is vacant only where its load gave 0, and again
-- only where two words differ.
abbrev pub HasTook : InboxValue → SeatValue → Took → SeatValue → Type 0
HasTook inbox before (took.Taken t) after = (word found : ℕ) × (word ≢ 0)
    × (after ≡ with_part before (took_part (code t.ticket) word found before.part))
    × (t.inbox ≡ inbox) × (t.ticket.thread.0 < before.part.producers)
HasTook inbox before (took.Vacant v) after =
    (after ≡ with_part before (queue_looked 0 before.part)) × (v.inbox ≡ inbox)
HasTook inbox before (took.Again seen found) after = (found ≢ seen)
    × (after ≡ with_part before (queue_missed found (queue_looked seen before.part)))

-- a new inbox of the box for n producers, with m slots, and its seats in order
pub record AreFresh (of : BoxId) (n m : ℕ) (inbox : InboxValue) (producers : List SeatValue)
    (consumer : SeatValue) : Type 0 where
  pub box_is : inbox.of ≡ of
  pub count : inbox.producers ≡ n
  pub slots : inbox.slots ≡ m
  pub in_order : producers ≡ made_from (fresh_seat inbox.id n m) 0 n
  pub last : consumer ≡ fresh_seat inbox.id n m n

-- the parts of the seats
abbrev pub parts_of : List SeatValue → List InboxPart
parts_of seats = map (λ s. s.part) seats

-- all seats of the inbox, the producers in any order
pub record AreAll (inbox : InboxValue) (producers : List SeatValue) (consumer : SeatValue)
    : Type 0 where
  pub of : All (λ s. s.inbox ≡ inbox.id) producers
  pub all : (k : ℕ) → k < inbox.producers → 0 < sum_by (is_at number_of k) (parts_of producers)
  pub last : consumer.inbox ≡ inbox.id

-- Each producer's puts are the takes of it and then what is left of it. No other ticket is there.
pub record IsLeft (inbox : InboxValue) (left : List Ticket) (producers : List SeatValue)
    (consumer : SeatValue) : Type 0 where
  pub each : All
      (λ s. s.part.list ≡ of_thread s.part.number (consumer.part.list ++ map code left)) producers
  pub no_other : All (λ c. thread_of c < inbox.producers) (consumer.part.list ++ map code left)
