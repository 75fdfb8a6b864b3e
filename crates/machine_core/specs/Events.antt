-- What an actor's event needs, and whether the unit grants its access.
use Rattle.std.specs.Prelude.{◌≡◌, ⊤, Bool, true, false, Option}
use Rattle.std.specs.Option.{option_map_or}
use Rattle.flat_model.specs.declared.accesses.Access.{Access}
use Rattle.flat_model.specs.declared.actors.Who.{Who}
use Rattle.flat_model.specs.declared.parts.BoxPart.{BoxPart}
use Rattle.flat_model.specs.declared.states.Shared.{Shared}
use Rattle.flat_model.specs.Acting.{is_free_server}
use Rattle.flat_model.specs.Decision.{decision, is_granted}
use Rattle.flat_model.specs.UnitRun.{UnitState}
use Rattle.machine_core.specs.declared.deeds.Deed.{Deed}
use Rattle.machine_core.specs.declared.deeds.Deed.TheVariants as deed

-- a server's event is of a server that serves no call
abbrev pub MayDo : Who → BoxPart → Shared → Deed → Type 0
MayDo who part m (deed.Turn room) = ⊤
MayDo who part m (deed.Serve ticket) = is_free_server who part m ≡ true

-- whether the unit grants an access, if there is one
abbrev pub access_granted : UnitState → Option Access → Bool
access_granted u access =
    option_map_or (λ access. is_granted (decision u.pairs access.at access.kind)) access false
