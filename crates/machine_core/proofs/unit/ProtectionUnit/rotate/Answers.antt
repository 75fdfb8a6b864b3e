use Rattle.std.proofs.Common.{◌≡◌, refl, ap, sym, ◌∙◌, map}
use Rattle.addr_base.specs.declared.pairs.Verdict.TheVariants.{Denied}
use Rattle.flat_model.specs.declared.events.Logged.TheVariants as item
use Rattle.flat_model.specs.Decision.{decision}
use Rattle.machine_core.specs.Journal.{noted}
use Rattle.machine_core.specs.Unit.{ProtectionState}
use Rattle.machine_core.proofs.UnitLemmas.{noted-none, rotation-line, rotation-none}
use Rattle.machine_core.proofs.unit.ProtectionUnit.rotate.Goals as goal
use Rattle.region_rotation.specs.Rotation.{rotation_of}

pub returns-in_default-clause-journal : goal.returns-in_default-clause-journal
returns-in_default-clause-journal c b part last found =
    let s = c.args.self.now in
    let run = c.in_default.ensures.run s.config b part s.unit (c.self.invariant ∙ ap (λ (v : ProtectionState). rotation_of v.config v.unit) c.self.view_is) last found in
    let denied : decision s.unit.pairs c.args.access.at c.args.access.kind ≡ Denied =
    sym (c.decide.ensures ∙ ap (λ (v : ProtectionState). decision v.unit.pairs c.args.access.at c.args.access.kind) c.self.view_is) ∙ c.in-Denied.is in
    noted-none c.args.journal.now _
    (rotation-none s.config c.args.owners.now.items c.args.owners.now.items b.0 part s.unit c.args.access denied refl run.1)

pub returns-in-Some-clause-journal : goal.returns-in-Some-clause-journal
returns-in-Some-clause-journal c b part last found =
    let s = c.args.self.now in
    let run = c.in-Some.ensures.run s.config b part s.unit (c.self.invariant ∙ ap (λ (v : ProtectionState). rotation_of v.config v.unit) c.self.view_is) last found in
    let denied : decision s.unit.pairs c.args.access.at c.args.access.kind ≡ Denied =
    sym (c.decide.ensures ∙ ap (λ (v : ProtectionState). decision v.unit.pairs c.args.access.at c.args.access.kind) c.self.view_is) ∙ c.in-Denied.is in
    let lines = rotation-line s.config c.args.owners.now.items c.args.owners.now.items b.0 part s.unit c.args.access denied refl c.in-Some.rotated run.1 in
    c.note.ensures ∙ ap (λ ls. noted c.args.journal.now (map item.Unit ls)) (sym lines)
