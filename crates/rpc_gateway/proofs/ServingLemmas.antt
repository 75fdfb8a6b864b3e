-- The call that a thread serves is that of the flat machine's rows.
use Rattle.std.proofs.Common.{◌≡◌, Some, List, Option, refl}
use Rattle.std.specs.List.{slice_get}
use Rattle.addr_base.specs.declared.identity.Ticket.{Ticket}
use Rattle.flat_model.specs.declared.actors.Who.{Who}
use Rattle.flat_model.specs.declared.parts.BoxPart.{BoxPart}
use Rattle.flat_model.specs.declared.parts.Config.{Config}
use Rattle.flat_model.specs.declared.parts.ThreadPart.{ThreadPart}
use Rattle.flat_model.specs.CallRows.{serving_of}
use Rattle.rpc_gateway.specs.Servers.{thread_serving}

pub thread_serving-who : (cfg : Config) (serving : List (Option Ticket)) (who : Who) (thread : ThreadPart) (part : BoxPart) → slice_get cfg.threads who.thread.0 ≡ Some thread → thread.home ≡ who.home → slice_get cfg.boxes who.home.0 ≡ Some part → thread_serving cfg serving who.thread.0 ≡ serving_of who part serving
thread_serving-who cfg serving who thread part is_thread at_home is_part = rw (is_thread, at_home, is_part) refl
