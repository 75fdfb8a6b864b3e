use Rattle.std.proofs.Common.{sym, ◌∙◌, ap}
use Rattle.flat_model.specs.Plan.{first_serving, page_pairs}
use Rattle.region_rotation.proofs.Serving.{first_serving-left, first_serving-right}
use Rattle.region_rotation.proofs.rotator.serving.Goals as goal

pub returns-in-Some-clause-exact : goal.returns-in-Some-clause-exact
returns-in-Some-clause-exact c = λ home answers.
    sym (first_serving-left c.args.a c.args.kind home.grants (page_pairs c.args.heap c.args.owners.now c.args.b.0) c.in-Some.pair
    (sym (c.in-Some.ensures.exact home.grants answers)))

pub returns-in-Some-heap-clause-exact : goal.returns-in-Some-heap-clause-exact
returns-in-Some-heap-clause-exact c = λ home answers.
    c.first_page_group.ensures
    ∙ ap (λ h. first_serving c.args.a c.args.kind (page_pairs h c.args.owners.now c.args.b.0)) (sym c.in-Some-heap.is)
    ∙ sym (first_serving-right c.args.a c.args.kind home.grants (page_pairs c.args.heap c.args.owners.now c.args.b.0)
    (sym (c.in_default.ensures.exact home.grants answers)))
