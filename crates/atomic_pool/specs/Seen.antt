-- What a seat's part keeps of reading one word.
use Rattle.std.specs.Prelude.{ℕ, ◌+◌, Some, None}
use Rattle.atomic_pool.specs.declared.seen.Seen.{Seen}

-- nothing was read yet
abbrev pub unseen : Seen
unseen = record { loaded = None; loads = 0; fetched = None; fetches = 0 }

-- after a load that gave the word
abbrev pub after_load : ℕ → Seen → Seen
after_load word s = record s { loaded = Some word; loads = s.loads + 1 }

-- after a fetch or an exchange that found the word
abbrev pub after_fetch : ℕ → Seen → Seen
after_fetch word s = record s { fetched = Some word; fetches = s.fetches + 1 }
