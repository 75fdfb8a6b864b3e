-- Which threads are servers, and which call a thread serves.
use Rattle.std.specs.Prelude.{ℕ, Bool, true, false, Option, Some, None, List, if◌then◌else◌, slice_get}
use Rattle.addr_base.specs.declared.identity.BoxId.{BoxId}
use Rattle.addr_base.specs.declared.identity.Ticket.{Ticket}
use Rattle.flat_model.specs.declared.parts.BoxPart.{BoxPart}
use Rattle.flat_model.specs.declared.parts.Config.{Config}
use Rattle.flat_model.specs.declared.parts.ThreadPart.{ThreadPart}
use Rattle.flat_model.specs.CallRows.{home_of, is_server, served_ticket}

-- whether the thread with this number is the server of its home, this box
abbrev pub serves_home : ℕ → BoxId → Option BoxPart → Bool
serves_home t home None = false
serves_home t home (Some part) =
    is_server (record { home = home; thread = record { 0 = t }; room = true }) part

-- whether the thread with this number, which is this one, is the server of its box
abbrev pub serves_box : Config → ℕ → Option ThreadPart → Bool
serves_box cfg t None = false
serves_box cfg t (Some thread) = serves_home t thread.home (slice_get cfg.boxes thread.home.0)

-- whether the thread with this number is the server of its box
abbrev pub is_server_thread : Config → ℕ → Bool
is_server_thread cfg t = serves_box cfg t (slice_get cfg.threads t)

-- the call that the thread with this number serves
abbrev pub thread_serving : Config → List (Option Ticket) → ℕ → Option Ticket
thread_serving cfg serving t = if is_server_thread cfg t then served_ticket serving (home_of cfg t).0 else None
