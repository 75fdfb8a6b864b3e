-- Who acts: a thread that has not ended, with its program and its box.
use Rattle.std.specs.Prelude.{◌≡◌, ℕ, Bool, false, Option, Some, None, if◌then◌else◌, slice_get}
use Rattle.std.specs.Option.{option_map}
use Rattle.addr_base.specs.declared.identity.ThreadId.{ThreadId}
use Rattle.flat_model.specs.declared.actors.Who.{Who}
use Rattle.flat_model.specs.declared.parts.BoxPart.{BoxPart}
use Rattle.flat_model.specs.declared.parts.Config.{Config}
use Rattle.flat_model.specs.declared.parts.ThreadPart.{ThreadPart}
use Rattle.flat_model.specs.declared.states.Flat.{Flat}
use Rattle.flat_model.specs.declared.states.ThreadState.{ThreadState}
use Rattle.flat_model.specs.Thread.{has_ended}

-- a thread with its program and its box
pub record Actor : Type 0 where
  pub part : BoxPart
  pub program : ThreadPart
  pub thread : ThreadState

-- the thread with its program, in this box
abbrev pub actor_with : ThreadPart → ThreadState → BoxPart → Actor
actor_with program th part = record { part = part; program = program; thread = th }

-- the actor that this thread is, in its box
abbrev pub actor_in : Config → ThreadPart → ThreadState → Option Actor
actor_in cfg program th = option_map (actor_with program th) (slice_get cfg.boxes program.home.0)

-- the actor that this thread is, where there is such a thread and it has not ended
abbrev pub live_actor : Config → Option ThreadPart → Option ThreadState → Option Actor
live_actor cfg None th = None
live_actor cfg (Some program) None = None
live_actor cfg (Some program) (Some th) = if has_ended th then None else actor_in cfg program th

-- the actor that the thread with this number is: none where there is none, or it has ended
abbrev pub actor_of : Config → Flat → ℕ → Option Actor
actor_of cfg f t = live_actor cfg (slice_get cfg.threads t) (slice_get f.threads t)

-- the actor's box and thread, and whether there is room for a call
abbrev pub who_acts : Actor → ThreadId → Bool → Who
who_acts a t room = record { home = a.program.home; thread = t; room = room }

-- the actor is the thread of these, and has not ended
pub record IsLive (cfg : Config) (p : Option ThreadPart) (th : Option ThreadState) (a : Actor) : Type 0 where
  pub program : p ≡ Some a.program
  pub thread : th ≡ Some a.thread
  pub live : has_ended a.thread ≡ false
  pub part : slice_get cfg.boxes a.program.home.0 ≡ Some a.part

-- the actor is the thread with this number
abbrev pub IsActor : Config → Flat → ℕ → Actor → Type 0
IsActor cfg f t a = IsLive cfg (slice_get cfg.threads t) (slice_get f.threads t) a
