-- Inner: no public contract cites this. What a table keeps of its configuration, and of its room.
use Rattle.std.specs.Prelude.{◌≡◌, ℕ, ◌^◌, ◌<◌, ◌≤◌, List, map}
use Rattle.addr_base.specs.declared.identity.BoxId.{BoxId}
use Rattle.addr_base.specs.declared.identity.ThreadId.{ThreadId}
use Rattle.flat_model.specs.declared.parts.BoxPart.{BoxPart}
use Rattle.flat_model.specs.declared.parts.Config.{Config}
use Rattle.flat_model.specs.declared.parts.RpcGate.{RpcGate}
use Rattle.flat_model.specs.declared.parts.ThreadPart.{ThreadPart}

-- the home of each thread
abbrev pub homes_of : List ThreadPart → List BoxId
homes_of threads = map (λ thread. thread.home) threads

-- the server of each box
abbrev pub servers_of : List BoxPart → List ThreadId
servers_of boxes = map (λ part. part.server) boxes

-- the lists are those of the configuration
pub record IsDirectory (cfg : Config) (gates : List RpcGate) (homes : List BoxId) (servers : List ThreadId) : Type 0 where
  pub gates_known : gates ≡ cfg.gateways
  pub homes_known : homes ≡ homes_of cfg.threads
  pub servers_known : servers ≡ servers_of cfg.boxes

-- so many calls are within a room of so many, and can be counted
pub record HasRoom (calls room : ℕ) : Type 0 where
  pub within : calls ≤ room
  pub few : room < 2 ^ 32
