use Rattle.std.proofs.Common.{true, false, sym, ◌∙◌}
use Rattle.region_rotation.proofs.Answering.{granted-found}
use Rattle.region_rotation.proofs.rotator.grant_serving.Goals as goal

pub returns-then-gives_kind-clause-exact : goal.returns-then-gives_kind-clause-exact
returns-then-gives_kind-clause-exact c = λ pairs answers.
    sym (granted-found pairs c.args.directory.now c.find.new.dir c.args.a c.args.kind c.in-Some.i c.probe.result true answers c.in-Some.ensures.found
    c.find.ensures.blocks c.probe.ensures.block (sym c.gives_kind.ensures ∙ c.if-gives_kind.true))

pub returns-else-gives_kind-clause-exact : goal.returns-else-gives_kind-clause-exact
returns-else-gives_kind-clause-exact c = λ pairs answers.
    sym (granted-found pairs c.args.directory.now c.find.new.dir c.args.a c.args.kind c.in-Some.i c.probe.result false answers c.in-Some.ensures.found
    c.find.ensures.blocks c.probe.ensures.block (sym c.gives_kind.ensures ∙ c.if-gives_kind.false))
