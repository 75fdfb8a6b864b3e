-- What the part of a seat at an inbox is after each step.
use Rattle.std.specs.Prelude.{ℕ, List, [], ◌∷◌, ◌++◌, Option, Some, None, option_to_list}
use Rattle.atomic_pool.specs.Seen.{unseen, after_load, after_fetch}
use Rattle.atomic_pool.specs.Queue.{head_of, without, unless_of}
use Rattle.atomic_pool.specs.declared.inbox.InboxPart.{InboxPart}

-- the part of the seat k of n producers and m slots at first; the seat n is the consumer's
abbrev pub fresh_part : ℕ → ℕ → ℕ → InboxPart
fresh_part n m k = record {
  number = k;
  producers = n;
  slots = m;
  list = [];
  held = [];
  last = None;
  head = None;
  peeked = None;
  free = unseen;
  queue = unseen;
}

-- the part of a view of one part
abbrev pub only_part : List InboxPart → InboxPart
only_part [] = fresh_part 0 0 0
only_part (p ∷ ps) = p

-- after a load of the word of free slots
abbrev pub free_looked : ℕ → InboxPart → InboxPart
free_looked w p = record p { free = after_load w p.free }

-- after a fetch that took the slot
abbrev pub claimed_part : ℕ → ℕ → InboxPart → InboxPart
claimed_part i w p = record p { held = p.held ++ i ∷ []; free = after_fetch w p.free }

-- after a fetch that came too late
abbrev pub free_missed : ℕ → InboxPart → InboxPart
free_missed w p = record p { free = after_fetch w p.free }

-- after a fetch that made the slot free
abbrev pub freed_part : ℕ → ℕ → InboxPart → InboxPart
freed_part i w p = record p {
  held = without i p.held;
  last = unless_of i p.last;
  free = after_fetch w p.free;
}

-- after a swap of the ticket into the slot's word
abbrev pub swapped_part : ℕ → ℕ → InboxPart → InboxPart
swapped_part i c p = record p { last = Some (i, c) }

-- after a load of the word of queued slots
abbrev pub queue_looked : ℕ → InboxPart → InboxPart
queue_looked w p = record p { queue = after_load w p.queue }

-- after an exchange that failed
abbrev pub queue_missed : ℕ → InboxPart → InboxPart
queue_missed w p = record p { queue = after_fetch w p.queue }

-- after an exchange that queued the slot of the given swap
abbrev pub queued_by : Option (ℕ × ℕ) → ℕ → InboxPart → InboxPart
queued_by None w p = queue_missed w p
queued_by (Some x) w p = record p {
  list = p.list ++ x.1 ∷ [];
  held = without x.0 p.held;
  last = None;
  queue = after_fetch w p.queue;
}

-- after an exchange that queued the slot of the last swap
abbrev pub queued_part : ℕ → InboxPart → InboxPart
queued_part w p = queued_by p.last w p

-- after a load of a word of queued slots that names a first one
abbrev pub headed_part : ℕ → InboxPart → InboxPart
headed_part w p = record p { head = Some (head_of w); queue = after_load w p.queue }

-- after a load of the ticket of that slot
abbrev pub peeked_part : ℕ → InboxPart → InboxPart
peeked_part c p = record p { peeked = Some c }

-- after an exchange that took that slot out of the queue
abbrev pub dequeued_part : ℕ → InboxPart → InboxPart
dequeued_part w p = record p {
  list = p.list ++ option_to_list p.peeked;
  held = p.held ++ option_to_list p.head;
  head = None;
  peeked = None;
  queue = after_fetch w p.queue;
}

-- after an exchange that found another queue
abbrev pub let_go_part : ℕ → InboxPart → InboxPart
let_go_part w p = record p { head = None; peeked = None; queue = after_fetch w p.queue }
