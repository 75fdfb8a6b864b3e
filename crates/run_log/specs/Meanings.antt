-- Inner: no public contract cites this. What one word of a line means.
use Rattle.std.specs.Prelude.{ℕ, ◌+◌, find, min, unwrap_or, List, [], ◌∷◌, codes, if◌then◌else◌}
use Rattle.std.specs.List.{after_first, before_first, position_or_len}
use Rattle.std.specs.Str.{bytes_eq}
use Rattle.addr_base.specs.declared.identity.BoxId.{BoxId}
use Rattle.addr_base.specs.declared.identity.ThreadId.{ThreadId}
use Rattle.addr_base.specs.declared.identity.Ticket.{Ticket}
use Rattle.addr_base.specs.declared.rights.Kind.{Kind}
use Rattle.addr_base.specs.declared.rights.Kind.TheVariants.{Read, Write, Fetch}
use Rattle.flat_model.specs.declared.events.Flaw.{Flaw}
use Rattle.flat_model.specs.declared.events.Flaw.TheVariants as flaw
use Rattle.flat_model.specs.declared.events.Mode.{Mode}
use Rattle.flat_model.specs.declared.events.Mode.TheVariants as mode
use Rattle.flat_model.specs.declared.parts.Config.{Config}
use Rattle.flat_model.specs.Text.{first_thread, flaw_text, mode_text}
use Rattle.run_log.specs.LineWords.{is_dot, is_hash, number_of}

-- the box of a name
unfoldable pub box_of : Config → List ℕ → BoxId
box_of cfg name = record { 0 = min (position_or_len (λ part. bytes_eq part.name name) cfg.boxes) 255 }

-- the thread that a word names
unfoldable pub thread_of : Config → List ℕ → ThreadId
thread_of cfg word =
    record { 0 = min (min (first_thread cfg (box_of cfg (before_first is_dot word)).0 + number_of 10 (after_first is_dot word)) 4294967295) 255 }

-- the ticket that a word names
unfoldable pub ticket_of : Config → List ℕ → Ticket
ticket_of cfg word = record { thread = thread_of cfg (before_first is_hash word); seq = number_of 10 (after_first is_hash word) }

-- the kind of access that a word names
unfoldable pub kind_of : List ℕ → Kind
kind_of word = if bytes_eq word (codes "read") then Read else (if bytes_eq word (codes "write") then Write else Fetch)

-- the flaw that a word names, as it is printed
unfoldable pub flaw_of : List ℕ → Flaw
flaw_of word =
    unwrap_or (find (λ it. bytes_eq word (flaw_text it)) (flaw.Daccviol ∷ flaw.Iaccviol ∷ flaw.Unaligned ∷ [])) flaw.Place

-- the mode that a word names, as it is printed
unfoldable pub mode_of : List ℕ → Mode
mode_of word =
    unwrap_or (find (λ it. bytes_eq word (mode_text it)) (mode.Ready ∷ mode.Waiting ∷ mode.Halted ∷ mode.Faulted ∷ []))
    mode.Spent
