use Rattle.std.proofs.Common.{sym, ◌∙◌}
use Rattle.region_rotation.proofs.Beside.{first_serving-before, first_serving-beyond, first_serving-divided}
use Rattle.region_rotation.proofs.pages.first_page_group.Goals as goal

pub returns-then-a-heap : goal.returns-then-a-heap
returns-then-a-heap c =
    sym (first_serving-before c.args.heap c.args.owners.now c.args.b.0 c.args.a c.args.kind c.requires.heap c.if-a-heap.true)

pub returns-then-g-heap : goal.returns-then-g-heap
returns-then-g-heap c =
    sym (first_serving-beyond c.args.heap c.args.owners.now c.args.b.0 c.args.a c.args.kind c.requires.heap c.if-a-heap.false c.if-g-heap.true)

pub returns : goal.returns
returns c =
    c.group_serving.ensures
    ∙ sym (first_serving-divided c.args.heap c.args.owners.now c.args.b.0 c.args.a c.args.kind c.requires.heap c.if-a-heap.false c.if-g-heap.false)
