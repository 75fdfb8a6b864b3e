use Rattle.std.proofs.Common.{◌≡◌, Some, sym, ap, ◌∙◌}
use Rattle.std.specs.List.{slice_get}
use Rattle.flat_model.specs.declared.parts.Config.{Config}
use Rattle.flat_model.specs.Next.{touch_in}
use Rattle.flat_model.specs.Plan.{plan_of}
use Rattle.flat_model.specs.Turn.{turn_row}
use Rattle.flat_model.specs.UnitRun.{UnitState, accessed}
use Rattle.machine_core.specs.Events.{access_granted}
use Rattle.machine_core.specs.Unit.{ProtectionState}
use Rattle.machine_core.proofs.UnitLemmas.{access-short, room-behind}
use Rattle.machine_core.proofs.acting.turn.Goals as goal

pub settle-requires : goal.settle-requires
settle-requires c =
    let who = c.args.actor.who in
    let part = c.args.actor.part.now in
    let found : slice_get c.args.unit.now.config.boxes who.home.0 ≡ Some part =
    ap (λ (cfg : Config). slice_get cfg.boxes who.home.0) c.requires.config ∙ c.requires.acts.home in
    record {
      room = room-behind c.args.journal.now c.decide_next-granted.new.journal _
          (c.decide_next-granted.ensures.journal who.home part c.requires.entered found)
          (access-short (plan_of c.args.unit.now.config c.owners.result.now.items who.home.0 part) c.args.unit.now.unit (touch_in c.args.next)) c.requires.room;
    }

pub returns-clause-exact : goal.returns-clause-exact
returns-clause-exact c =
    let who = c.args.actor.who in
    let part = c.args.actor.part.now in
    let k = c.args.kernel.now in
    let u = c.args.unit.now.unit in
    let touch = touch_in c.args.next in
    let found : slice_get c.args.unit.now.config.boxes who.home.0 ≡ Some part =
    ap (λ (cfg : Config). slice_get cfg.boxes who.home.0) c.requires.config ∙ c.requires.acts.home in
    let decided : c.decide_next-granted.new.self.unit ≡ accessed (plan_of k.config k.shared.owners who.home.0 part) u touch =
    ap (λ (v : ProtectionState). v.unit) (c.decide_next-granted.ensures.unit who.home part c.requires.entered found)
    ∙ ap (λ (cfg : Config). accessed (plan_of cfg c.owners.result.now.items who.home.0 part) u touch) c.requires.config
    ∙ ap (λ os. accessed (plan_of k.config os who.home.0 part) u touch) c.owners.ensures.exact in
    ap (λ g. turn_row k.config who part c.args.actor.program.now.steps k.shared c.args.thread.now g c.args.next)
    (sym (c.decide_next-granted.ensures.granted ∙ ap (λ (v : UnitState). access_granted v touch) decided))
    ∙ c.turn-reply.ensures.exact
