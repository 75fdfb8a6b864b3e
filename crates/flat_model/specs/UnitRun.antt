-- The run of the protection unit: its state, and the lines that it writes for an event.
use Rattle.std.specs.Prelude.{ℕ, Bool, true, false, nat_eq, Option, Some, None, List, [], ◌∷◌, ◌++◌, length, replicate, if◌then◌else◌, slice_set}
use Rattle.addr_base.specs.declared.identity.BoxId.{BoxId}
use Rattle.addr_base.specs.declared.pairs.Pair.{Pair}
use Rattle.flat_model.specs.declared.accesses.Access.{Access}
use Rattle.flat_model.specs.declared.events.Choice.{Choice}
use Rattle.flat_model.specs.declared.events.Choice.TheVariants as choice
use Rattle.flat_model.specs.declared.events.UnitLine.{UnitLine}
use Rattle.flat_model.specs.declared.events.UnitLine.TheVariants as line
use Rattle.flat_model.specs.declared.parts.BoxPart.{BoxPart}
use Rattle.flat_model.specs.declared.parts.Config.{Config}
use Rattle.flat_model.specs.declared.states.Flat.{Flat}
use Rattle.flat_model.specs.Actors.{Actor, actor_of}
use Rattle.flat_model.specs.Decision.{decision, is_granted}
use Rattle.flat_model.specs.Plan.{first_serving, flushed_pairs, next_slot, no_pair, plan_of, regions, switch_slots}
use Rattle.flat_model.specs.Step.{empties_slots, state_after, touch_of}

-- the box that was last switched to, the pairs, and the circle's slot
pub record UnitState : Type 0 where
  pub last : Option BoxId
  pub pairs : List Pair
  pub circle : ℕ

-- the unit at the start: no box yet, all pairs disabled
abbrev pub opening_unit : Config → UnitState
opening_unit cfg = record { last = None; pairs = replicate (regions cfg) no_pair; circle = 2 }

-- whether the box was last switched to
abbrev pub is_last : Option BoxId → ℕ → Bool
is_last None b = false
is_last (Some last) b = nat_eq last.0 b

-- the unit after a switch to a box, where it is not the last already
abbrev pub entered : Config → BoxPart → UnitState → BoxId → UnitState
entered cfg part u b =
    if is_last u.last b.0 then u else record { last = Some b; pairs = switch_slots cfg part; circle = 2 }

-- the line of that switch
abbrev pub switch_lines : UnitState → BoxId → List UnitLine
switch_lines u b = if is_last u.last b.0 then [] else line.Switch b ∷ []

-- the pair that rotates in for an access: where the unit denies it, the first of the plan that serves it
abbrev pub rotating_pair : List Pair → UnitState → Access → Option Pair
rotating_pair plan u access =
    if is_granted (decision u.pairs access.at access.kind) then None else first_serving access.at access.kind plan

-- the unit after a rotation: the pair is in the circle's slot, and the circle moves on
abbrev pub rotated : UnitState → Option Pair → UnitState
rotated u None = u
rotated u (Some pair) =
    record u { pairs = slice_set u.pairs u.circle pair; circle = next_slot (length u.pairs) u.circle }

-- the line of that rotation
abbrev pub rotate_lines : UnitState → Option Pair → List UnitLine
rotate_lines u None = []
rotate_lines u (Some pair) = line.Rotate u.circle pair ∷ []

-- the line of an access as the unit then decides it
abbrev pub access_line : UnitState → Access → UnitLine
access_line u access = line.Access access.kind access.size access.at (decision u.pairs access.at access.kind)

-- the unit after an access, if there is one
abbrev pub accessed : List Pair → UnitState → Option Access → UnitState
accessed plan u None = u
accessed plan u (Some access) = rotated u (rotating_pair plan u access)

-- the lines of an access, if there is one
abbrev pub access_lines : List Pair → UnitState → Option Access → List UnitLine
access_lines plan u None = []
access_lines plan u (Some access) =
    rotate_lines u (rotating_pair plan u access)
    ++ access_line (rotated u (rotating_pair plan u access)) access ∷ []

-- the unit after a flush, where there is one: the slots of the circle are disabled
abbrev pub flushed : Bool → UnitState → UnitState
flushed false u = u
flushed true u = record u { pairs = flushed_pairs u.pairs; circle = 2 }

-- the line of that flush
abbrev pub flush_lines : Bool → List UnitLine
flush_lines false = []
flush_lines true = line.Flush ∷ []

-- the unit after an event of a box with this plan: a switch, an access, a flush
abbrev pub unit_after_event : Config → BoxId → BoxPart → List Pair → UnitState → Option Access → Bool → UnitState
unit_after_event cfg b part plan u access empties =
    flushed empties (accessed plan (entered cfg part u b) access)

-- the lines of an event of a box with this plan, in this order
abbrev pub lines_of_event : Config → BoxId → BoxPart → List Pair → UnitState → Option Access → Bool → List UnitLine
lines_of_event cfg b part plan u access empties =
    switch_lines u b ++ access_lines plan (entered cfg part u b) access ++ flush_lines empties

-- who acts at a choice: none at a ring, and where the thread has ended
abbrev pub actor_at : Config → Flat → Choice → Option Actor
actor_at cfg f (choice.Turn t room) = actor_of cfg f t.0
actor_at cfg f (choice.Start t ticket) = actor_of cfg f t.0
actor_at cfg f (choice.Idle t) = actor_of cfg f t.0
actor_at cfg f (choice.Ring line by) = None

-- the unit after an event of this actor, or of none
abbrev pub unit_after_actor : Config → Flat → UnitState → Choice → Option Actor → UnitState
unit_after_actor cfg f u c None = u
unit_after_actor cfg f u c (Some a) =
    unit_after_event cfg a.program.home a.part (plan_of cfg f.shared.owners a.program.home.0 a.part) u
    (touch_of cfg f c) (empties_slots cfg f c)

-- the lines of an event of this actor, or of none
abbrev pub lines_of_actor : Config → Flat → UnitState → Choice → Option Actor → List UnitLine
lines_of_actor cfg f u c None = []
lines_of_actor cfg f u c (Some a) =
    lines_of_event cfg a.program.home a.part (plan_of cfg f.shared.owners a.program.home.0 a.part) u
    (touch_of cfg f c) (empties_slots cfg f c)

-- the unit after a choice made in a flat state
unfoldable pub unit_after : Config → Flat → UnitState → Choice → UnitState
unit_after cfg f u c = unit_after_actor cfg f u c (actor_at cfg f c)

-- the unit's lines for a choice made in a flat state
unfoldable pub unit_lines : Config → Flat → UnitState → Choice → List UnitLine
unit_lines cfg f u c = lines_of_actor cfg f u c (actor_at cfg f c)

-- the unit's lines for each of the choices made one after another
abbrev pub lines_of_run : Config → Flat → UnitState → List Choice → List (List UnitLine)
lines_of_run cfg f u [] = []
lines_of_run cfg f u (c ∷ cs) =
    unit_lines cfg f u c ∷ lines_of_run cfg (state_after cfg f c) (unit_after cfg f u c) cs
