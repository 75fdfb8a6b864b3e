-- What an actor does with a deed: the flat machine's row, the unit after it, and the unit's lines.
use Rattle.std.specs.Prelude.{ℕ, List}
use Rattle.addr_base.specs.declared.identity.BoxId.{BoxId}
use Rattle.addr_base.specs.declared.pairs.Pair.{Pair}
use Rattle.flat_model.specs.declared.actors.Who.{Who}
use Rattle.flat_model.specs.declared.events.Reply.{Reply}
use Rattle.flat_model.specs.declared.events.UnitLine.{UnitLine}
use Rattle.flat_model.specs.declared.next.Next.{Next}
use Rattle.flat_model.specs.declared.parts.BoxPart.{BoxPart}
use Rattle.flat_model.specs.declared.states.ThreadState.{ThreadState}
use Rattle.flat_model.specs.Kernel.{KernelState}
use Rattle.flat_model.specs.Outcome.{Outcome}
use Rattle.flat_model.specs.Plan.{plan_of}
use Rattle.flat_model.specs.UnitRun.{UnitState, accessed, entered, lines_of_event, unit_after_event}
use Rattle.machine_core.specs.declared.deeds.Deed.{Deed}
use Rattle.machine_core.specs.Deeds.{deed_row, empties_by_deed, touch_by_deed}
use Rattle.machine_core.specs.Events.{access_granted}

-- the plan of the box, by the pages that it owns
abbrev pub plan_in : KernelState → BoxId → BoxPart → List Pair
plan_in k b part = plan_of k.config k.shared.owners b.0 part

-- the actor's row, whose access the unit decides once it has entered the box
abbrev pub acted_row : KernelState → Who → BoxPart → ℕ → ThreadState → UnitState → Next → Deed → Outcome
acted_row k who part budget th u n d =
    deed_row k.config who part budget k.shared th
    (access_granted (accessed (plan_in k who.home part) (entered k.config part u who.home) (touch_by_deed n d)) (touch_by_deed n d)) n d

-- the unit after a deed that was answered so
abbrev pub acted_unit : KernelState → BoxId → BoxPart → UnitState → Next → Reply → Deed → UnitState
acted_unit k b part u n r d = unit_after_event k.config b part (plan_in k b part) u (touch_by_deed n d) (empties_by_deed n r d)

-- the lines of a deed that was answered so
abbrev pub acted_lines : KernelState → BoxId → BoxPart → UnitState → Next → Reply → Deed → List UnitLine
acted_lines k b part u n r d = lines_of_event k.config b part (plan_in k b part) u (touch_by_deed n d) (empties_by_deed n r d)
