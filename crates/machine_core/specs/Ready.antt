-- Inner: no public contract cites this. What a thread may do at once.
use Rattle.std.specs.Prelude.{◌≡◌, ⊤, ◌<◌, true, false, Option, Some, None, length}
use Rattle.addr_base.specs.declared.identity.ThreadId.{ThreadId}
use Rattle.addr_base.specs.declared.identity.Ticket.{Ticket}
use Rattle.flat_model.specs.declared.parts.Config.{Config}
use Rattle.flat_model.specs.Want.{fits}
use Rattle.machine_core.specs.declared.deeds.Deed.{Deed}
use Rattle.machine_core.specs.Deeds.{choice_by}
use Rattle.machine_core.specs.State.{ended_in}
use Rattle.machine_core.specs.View.{MachineView, world_of}

-- the thread is there, has not ended, and what it does fits
pub record IsReady (v : MachineView) (t : ThreadId) (d : Deed) : Type 0 where
  pub there : t.0 < length v.config.threads
  pub live : ended_in (world_of v) t.0 ≡ false
  pub fit : fits v.config (world_of v).flat (choice_by t d) ≡ true

-- the ticket, if there is one, is of a thread of the configuration
abbrev pub IsKnown : Config → Option Ticket → Type 0
IsKnown cfg None = ⊤
IsKnown cfg (Some ticket) = ticket.thread.0 < length cfg.threads
