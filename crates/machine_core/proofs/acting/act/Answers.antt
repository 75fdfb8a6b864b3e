use Rattle.std.proofs.Common.{◌≡◌, Some, sym, ap, ◌∙◌, subst}
use Rattle.std.specs.List.{slice_get}
use Rattle.flat_model.specs.declared.actors.Who.{Who}
use Rattle.flat_model.specs.declared.parts.BoxPart.{BoxPart}
use Rattle.flat_model.specs.declared.parts.Config.{Config}
use Rattle.flat_model.specs.declared.parts.ThreadPart.{ThreadPart}
use Rattle.flat_model.specs.Kernel.{outcome_of}
use Rattle.flat_model.specs.Next.{touch_in}
use Rattle.flat_model.specs.Outcome.{Outcome}
use Rattle.flat_model.specs.Plan.{plan_of}
use Rattle.flat_model.specs.Turn.{turn_row}
use Rattle.flat_model.specs.UnitRun.{UnitState, accessed, entered}
use Rattle.machine_core.specs.declared.deeds.Deed.{Deed}
use Rattle.machine_core.specs.Deeds.{deed_row, touch_by_deed}
use Rattle.machine_core.specs.Events.{access_granted}
use Rattle.machine_core.specs.Unit.{ProtectionState}
use Rattle.machine_core.proofs.acting.act.Goals as goal

pub turn-requires-clause-config : goal.turn-requires-clause-config
turn-requires-clause-config c =
    let found : slice_get c.args.unit.now.config.boxes c.args.actor.who.home.0 ≡ Some c.args.actor.part.now =
    ap (λ (cfg : Config). slice_get cfg.boxes c.args.actor.who.home.0) c.requires.config ∙ c.requires.acts.home in
    ap (λ (v : ProtectionState). v.config) (c.enter.ensures.unit c.args.actor.part.now found) ∙ c.requires.config

pub returns-in-Turn-clause-exact : goal.returns-in-Turn-clause-exact
returns-in-Turn-clause-exact c =
    let k = c.args.kernel.now in
    let who = c.args.actor.who in
    let part = c.args.actor.part.now in
    let u = c.args.unit.now.unit in
    let touch = touch_in c.args.next in
    let found : slice_get c.args.unit.now.config.boxes who.home.0 ≡ Some part =
    ap (λ (cfg : Config). slice_get cfg.boxes who.home.0) c.requires.config ∙ c.requires.acts.home in
    let inside : c.enter.new.self.unit ≡ entered k.config part u who.home =
    ap (λ (v : ProtectionState). v.unit) (c.enter.ensures.unit part found) ∙ ap (λ (cfg : Config). entered cfg part u who.home) c.requires.config in
    let row : Who → BoxPart → ThreadPart → UnitState → Outcome =
    λ w p program v. turn_row k.config w p program.steps k.shared c.args.thread.now
    (access_granted (accessed (plan_of k.config k.shared.owners w.home.0 p) v touch) touch) c.args.next in
    subst (λ (d : Deed). deed_row k.config who part c.args.actor.program.now.steps k.shared c.args.thread.now
    (access_granted (accessed (plan_of k.config k.shared.owners who.home.0 part) (entered k.config part u who.home) (touch_by_deed c.args.next d)) (touch_by_deed c.args.next d))
    c.args.next d ≡ outcome_of c.turn.new.kernel c.turn.new.thread c.turn.result) (sym c.in-Turn.is) (
    sym (
    ap (λ w. row w c.with_room.result.part.now c.with_room.result.program.now c.enter.new.self.unit) c.with_room.ensures.who
    ∙ ap (λ p. row (record who { room = c.in-Turn.room }) p c.with_room.result.program.now c.enter.new.self.unit) c.with_room.ensures.part
    ∙ ap (λ (q : ThreadPart). row (record who { room = c.in-Turn.room }) part q c.enter.new.self.unit) c.with_room.ensures.program
    ∙ ap (row (record who { room = c.in-Turn.room }) part c.args.actor.program.now) inside
    ) ∙ c.turn.ensures.exact
    )
