-- A ticket as the number that a word holds.
use Rattle.std.specs.Prelude.{ℕ, ◌+◌, ◌*◌, ◌/◌, ◌==◌, List, filter}
use Rattle.addr_base.specs.declared.identity.Ticket.{Ticket}

-- the thread's number in the high half and the thread's own count in the low half
abbrev pub code : Ticket → ℕ
code t = t.thread.0 * 4294967296 + t.seq

-- the number of the thread whose ticket the number is
abbrev pub thread_of : ℕ → ℕ
thread_of c = c / 4294967296

-- the tickets of the thread, in order
abbrev pub of_thread : ℕ → List ℕ → List ℕ
of_thread p cs = filter (λ c. thread_of c == p) cs
