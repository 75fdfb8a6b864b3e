-- What a contract sees of an inbox, of its seats, and of what its calls give out.
use Rattle.std.specs.Prelude.{◌≡◌, ℕ, ◌+◌, ◌<◌, ◌≤◌, List, [], ◌∷◌, length, None}
use Rattle.atomic_table.specs.Table.{Me}
use Rattle.atomic_table.specs.Seated.{TableId}
use Rattle.addr_base.specs.declared.identity.BoxId.{BoxId}
use Rattle.addr_base.specs.declared.identity.Ticket.{Ticket}
use Rattle.atomic_pool.specs.InboxParts.{only_part, fresh_part}
use Rattle.atomic_pool.specs.declared.inbox.InboxPart.{InboxPart}

-- What a contract sees of an inbox: which it is, of which box, and its producers and slots.
pub record InboxValue : Type 0 where
  pub id : TableId
  pub of : BoxId
  pub producers : ℕ
  pub slots : ℕ

-- What a contract sees of a producer or a consumer: of which inbox it is, and its part.
pub record SeatValue : Type 0 where
  pub inbox : TableId
  pub part : InboxPart

-- What a contract sees of a claim: its inbox as it is, the producer's number, and the slot.
pub record ClaimValue : Type 0 where
  pub inbox : InboxValue
  pub number : ℕ
  pub slot : ℕ

-- What a contract sees of a full answer: its inbox, and how many slots the seat held.
pub record FullValue : Type 0 where
  pub inbox : InboxValue
  pub held : ℕ

-- what a contract sees of a vacant answer: its inbox
pub record VacantValue : Type 0 where
  pub inbox : InboxValue

-- what a contract sees of a ticket that was taken: its inbox, and the ticket
pub record TakenValue : Type 0 where
  pub inbox : InboxValue
  pub ticket : Ticket

-- a table of the words of an inbox, which has at most eight slots, and no slot of its own
pub record IsInbox (id : TableId) (producers slots : ℕ) : Type 0 where
  pub wide : id.words ≡ 2 + slots
  pub no_slot : id.slots ≡ 0
  pub some_producer : 0 < producers
  pub few : producers ≤ 256
  pub small : slots ≤ 8

-- the seat has this part alone, is no consumer's, and holds so many slots
pub record IsProducer (id : TableId) (number held : ℕ) (me : Me Unit (List InboxPart))
    : Type 0 where
  pub is : me ≡ (only_part me.0 ∷ [], [])
  pub named : (only_part me.0).number ≡ number
  pub produces : number < (only_part me.0).producers
  pub count : length (only_part me.0).held ≡ held
  pub wide : id.words ≡ 2 + (only_part me.0).slots

-- the seat has this part alone, is the consumer's, and holds nothing between two calls
pub record IsConsumer (id : TableId) (me : Me Unit (List InboxPart)) : Type 0 where
  pub is : me ≡ (only_part me.0 ∷ [], [])
  pub consumes : (only_part me.0).number ≡ (only_part me.0).producers
  pub holds_none : (only_part me.0).held ≡ []
  pub no_last : (only_part me.0).last ≡ None
  pub no_head : (only_part me.0).head ≡ None
  pub no_peek : (only_part me.0).peeked ≡ None
  pub wide : id.words ≡ 2 + (only_part me.0).slots

-- the same seat with another part
abbrev pub with_part : SeatValue → InboxPart → SeatValue
with_part s p = record s { part = p }

-- the seat k of a new inbox
abbrev pub fresh_seat : TableId → ℕ → ℕ → ℕ → SeatValue
fresh_seat id n m k = record { inbox = id; part = fresh_part n m k }

-- each part is a producer's
abbrev pub AreProducers : List InboxPart → Type 0
AreProducers [] = Unit {0}
AreProducers (p ∷ ps) = (p.number < p.producers) × AreProducers ps
